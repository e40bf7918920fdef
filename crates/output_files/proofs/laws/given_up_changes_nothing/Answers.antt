use Rattle.output_files.proofs.Saves.{given_up_keeps}
use Rattle.output_files.proofs.laws.given_up_changes_nothing.Goals as goal

pub returns : goal.returns
returns c = given_up_keeps
