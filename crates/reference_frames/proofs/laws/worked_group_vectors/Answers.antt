use Rattle.std.proofs.Common.{refl}
use Rattle.mode_parser.specs.ChromaVectors.{group_vector}
use Rattle.reference_frames.proofs.laws.worked_group_vectors.Goals as goal

pub returns : goal.returns
unfolding group_vector
returns c = record { split = refl; whole_samples = refl; not_split = refl }
