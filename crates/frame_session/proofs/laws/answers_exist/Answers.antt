use Rattle.frame_session.proofs.Answered.{meaning_exists}
use Rattle.frame_session.proofs.laws.answers_exist.Goals as goal

pub returns : goal.returns
returns c = meaning_exists
