use Rattle.webm_files.proofs.ChildLemmas.{child_is, children-none, children-some, no_child}
use Rattle.webm_files.proofs.laws.children_are.Goals as goal

pub returns-clause-some : goal.returns-clause-some
returns-clause-some c = λ text has. children-some text (child_is text has)

pub returns-clause-none : goal.returns-clause-none
returns-clause-none c = λ text none. children-none text (no_child text none)
