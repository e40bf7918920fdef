use Rattle.stream_checks.proofs.Lost.{lost_broken}
use Rattle.stream_checks.proofs.laws.lost_are_broken.Goals as goal

pub returns : goal.returns
returns c = lost_broken
