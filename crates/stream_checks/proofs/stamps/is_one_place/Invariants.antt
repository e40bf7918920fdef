use Rattle.std.proofs.Common.{◌≡◌, length}
use Rattle.stream_checks.specs.Stamps.{is_one_place}
use Rattle.stream_checks.proofs.stamps.is_one_place.Given as goal

abbrev pub invariant-loop-left : goal.invariant-loop-left
invariant-loop-left l = is_one_place l.left ≡ is_one_place l.odd

abbrev pub decreases-loop-left : goal.decreases-loop-left
decreases-loop-left l = length l.left
