use Rattle.bool_coder.specs.Low.{number_of}
use Rattle.bool_coder.proofs.LowNumbers.{Carries}
use Rattle.bool_coder.proofs.encoder.add_one.Given as goal

abbrev pub invariant-loop-bytes : goal.invariant-loop-bytes
invariant-loop-bytes l = Carries l.bytes l.end (number_of l.fn.bytes)

abbrev pub decreases-loop-bytes : goal.decreases-loop-bytes
decreases-loop-bytes l = l.end
