use Rattle.frame_session.proofs.Determined.{runs_one}
use Rattle.frame_session.proofs.laws.answers_are_one.Goals as goal

pub returns : goal.returns
returns c = runs_one
