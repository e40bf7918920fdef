use Rattle.std.proofs.Common.{◌≡◌, take}
use Rattle.bool_coder.specs.CodeText.{all_written}
use Rattle.packet_forge.specs.Pairs.{zeros_at}
use Rattle.packet_forge.proofs.pairs.write_zeros.Given as goal

abbrev pub invariant-loop-probability : goal.invariant-loop-probability
invariant-loop-probability l = l.encoder ≡ all_written (zeros_at (take l.probability-index l.probabilities)) l.fn.encoder
