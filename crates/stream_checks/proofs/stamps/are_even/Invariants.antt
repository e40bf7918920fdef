use Rattle.std.proofs.Common.{◌≡◌, drop}
use Rattle.stream_checks.specs.Stamps.{are_even}
use Rattle.stream_checks.proofs.stamps.are_even.Given as goal

abbrev pub invariant-loop-is_odd : goal.invariant-loop-is_odd
invariant-loop-is_odd l = are_even (drop l.is_odd-index l.odd) ≡ are_even l.odd
