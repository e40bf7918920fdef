use Rattle.webm_files.proofs.ClusterLemmas.{late, timed}
use Rattle.webm_files.proofs.laws.timeless_are.Goals as goal

pub returns-clause-late : goal.returns-clause-late
returns-clause-late c = late

pub returns-clause-timed : goal.returns-clause-timed
returns-clause-timed c = timed
