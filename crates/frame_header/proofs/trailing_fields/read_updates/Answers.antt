use Rattle.std.proofs.Common.{refl}
use Rattle.frame_header.specs.Updates.{first_updated}
use Rattle.frame_header.proofs.UpdateLemmas.{first_updated-next}
use Rattle.frame_header.proofs.trailing_fields.read_updates.Goals as goal

pub loop-place-init : goal.loop-place-init
unfolding first_updated
loop-place-init c = rw (c.copied-local.ensures) refl

pub loop-place-preserved : goal.loop-place-preserved
loop-place-preserved c = first_updated-next _ _ _ _ _ _ _ _ _ c.loop-place.invariant c.read_updated.ensures
