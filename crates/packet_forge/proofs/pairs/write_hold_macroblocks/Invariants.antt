use Rattle.std.proofs.Common.{◌≡◌}
use Rattle.bool_coder.specs.CodeText.{all_written}
use Rattle.packet_forge.specs.Pairs.{hold_macroblock, macroblock_pairs}
use Rattle.packet_forge.proofs.pairs.write_hold_macroblocks.Given as goal

abbrev pub invariant-loop-place : goal.invariant-loop-place
invariant-loop-place l = l.encoder ≡ all_written (macroblock_pairs (hold_macroblock l.columns) l.place) l.fn.encoder
