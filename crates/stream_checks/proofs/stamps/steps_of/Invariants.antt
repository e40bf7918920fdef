use Rattle.std.proofs.Common.{◌≡◌, ◌++◌, drop}
use Rattle.stream_checks.specs.Stamps.{steps_from, steps_of}
use Rattle.stream_checks.proofs.stamps.steps_of.Given as goal

abbrev pub invariant-loop-stamp : goal.invariant-loop-stamp
invariant-loop-stamp l = l.steps.items ++ steps_from l.before (drop l.stamp-index l.rest) ≡ steps_of l.stamps
