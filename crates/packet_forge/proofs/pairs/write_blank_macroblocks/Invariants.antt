use Rattle.std.proofs.Common.{◌≡◌}
use Rattle.bool_coder.specs.CodeText.{all_written}
use Rattle.packet_forge.specs.Pairs.{blank_macroblock, macroblock_pairs}
use Rattle.packet_forge.proofs.pairs.write_blank_macroblocks.Given as goal

abbrev pub invariant-loop-place : goal.invariant-loop-place
invariant-loop-place l = l.encoder ≡ all_written (macroblock_pairs (λ place. blank_macroblock) l._place) l.fn.encoder
