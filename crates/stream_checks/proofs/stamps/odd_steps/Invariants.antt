use Rattle.std.proofs.Common.{◌≡◌, ◌++◌, drop}
use Rattle.stream_checks.specs.Stamps.{odd_from, odd_steps}
use Rattle.stream_checks.proofs.stamps.odd_steps.Given as goal

abbrev pub invariant-loop-stamp : goal.invariant-loop-stamp
invariant-loop-stamp l = l.odd.items ++ odd_from l.step l.before (drop l.stamp-index l.rest) ≡ odd_steps l.step l.stamps
