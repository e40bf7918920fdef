use Rattle.stream_refusals.proofs.GoodSteps.{pictures_of_runs}
use Rattle.stream_refusals.proofs.laws.pictures_are_of_runs.Goals as goal

pub returns : goal.returns
returns c = pictures_of_runs
