use Rattle.webm_files.proofs.LengthLemmas.{early, last, late, right}
use Rattle.webm_files.proofs.laws.wrong_lengths_are.Goals as goal

pub returns-clause-right : goal.returns-clause-right
returns-clause-right c = right

pub returns-clause-early : goal.returns-clause-early
returns-clause-early c = early

pub returns-clause-late : goal.returns-clause-late
returns-clause-late c = late

pub returns-clause-last : goal.returns-clause-last
returns-clause-last c = last
