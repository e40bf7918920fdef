use Rattle.webm_writing.specs.Tests.{is_name}
use Rattle.webm_writing.proofs.checks.is_name.Goals as goal

pub returns : goal.returns
unfolding is_name
returns c = c.contains.ensures.value
