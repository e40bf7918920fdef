use Rattle.output_files.proofs.Saves.{first_kept, second_kept}
use Rattle.output_files.proofs.laws.given_up_changes_neither.Goals as goal

pub returns-clause-second : goal.returns-clause-second
returns-clause-second c = second_kept

pub returns-clause-first : goal.returns-clause-first
returns-clause-first c = first_kept
