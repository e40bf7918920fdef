use Rattle.frame_session.proofs.Kept.{lines_count}
use Rattle.frame_session.proofs.laws.steps_never_fall.Goals as goal

pub returns : goal.returns
returns c = lines_count
