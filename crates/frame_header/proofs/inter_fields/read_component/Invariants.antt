use Rattle.std.proofs.Common.{◌≡◌}
use Rattle.frame_header.specs.Updates.{first_updated}
use Rattle.frame_header.specs.InterFields.{vector_probability}
use Rattle.frame_header.proofs.inter_fields.read_component.Given as goal

abbrev pub invariant-loop-place : goal.invariant-loop-place
invariant-loop-place l = first_updated vector_probability l.place l.updates l.fn.probabilities l.fn.reader ≡ (l.updated, l.local)
