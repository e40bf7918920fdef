use Rattle.std.proofs.Common.{◌≡◌, take}
use Rattle.bool_coder.specs.CodeText.{all_written}
use Rattle.packet_forge.proofs.pairs.write_pairs.Given as goal

abbrev pub invariant-loop-bit : goal.invariant-loop-bit
invariant-loop-bit l = l.encoder ≡ all_written (take l.bit-index l.pairs) l.fn.encoder
