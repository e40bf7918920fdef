use Rattle.edit_history.proofs.Trails.{stay_sound}
use Rattle.edit_history.proofs.laws.trails_stay_sound.Goals as goal

pub returns : goal.returns
returns c = stay_sound
