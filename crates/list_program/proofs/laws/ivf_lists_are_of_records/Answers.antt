use Rattle.list_program.proofs.IvfLists.{ivf_lines, ivf_objects}
use Rattle.list_program.proofs.laws.ivf_lists_are_of_records.Goals as goal

pub returns-clause-lines : goal.returns-clause-lines
returns-clause-lines c = ivf_lines

pub returns-clause-objects : goal.returns-clause-objects
returns-clause-objects c = ivf_objects
