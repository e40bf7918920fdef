use Rattle.std.proofs.Common.{refl}
use Rattle.mode_parser.proofs.KeptSegments.{first_modes-segments}
use Rattle.mode_parser.proofs.laws.segments_are_kept.Goals as goal

pub returns : goal.returns
returns c = record {
  segments = λ before. first_modes-segments _ _ _ _ _ before _ c.requires;
  following = λ before. rw c.requires refl;
}
