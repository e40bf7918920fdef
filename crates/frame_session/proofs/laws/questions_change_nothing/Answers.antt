use Rattle.frame_session.proofs.Kept.{questions_kept}
use Rattle.frame_session.proofs.laws.questions_change_nothing.Goals as goal

pub returns : goal.returns
returns c = questions_kept
