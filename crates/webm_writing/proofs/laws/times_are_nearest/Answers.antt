use Rattle.webm_writing.proofs.Rounded.{early, late, order}
use Rattle.webm_writing.proofs.laws.times_are_nearest.Goals as goal

pub returns-clause-early : goal.returns-clause-early
returns-clause-early c = early

pub returns-clause-late : goal.returns-clause-late
returns-clause-late c = late

pub returns-clause-order : goal.returns-clause-order
returns-clause-order c = order
