use Rattle.output_files.proofs.Followed.{no_link, one_absolute}
use Rattle.output_files.proofs.laws.links_lead_to_one_path.Goals as goal

pub returns-clause-none : goal.returns-clause-none
returns-clause-none c = no_link

pub returns-clause-absolute : goal.returns-clause-absolute
returns-clause-absolute c = one_absolute
