use Rattle.std.proofs.Common.{◌≡◌}
use Rattle.frame_header.specs.Updates.{first_updated}
use Rattle.frame_header.specs.TrailingFields.{updated}
use Rattle.frame_header.proofs.trailing_fields.read_updates.Given as goal

abbrev pub invariant-loop-place : goal.invariant-loop-place
invariant-loop-place l = first_updated updated l.place l.updates l.fn.probabilities l.fn.reader ≡ (l.probabilities, l.local)
