use Rattle.reference_frames.proofs.FlatFrames.{planes_flat}
use Rattle.reference_frames.proofs.laws.blank_planes_are_flat.Goals as goal

pub returns : goal.returns
returns c = planes_flat
