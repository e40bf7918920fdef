use Rattle.std.proofs.Common.{refl}
use Rattle.webm_files.specs.Children.{children_up_to}
use Rattle.webm_files.proofs.files.scale_of.Goals as goal

pub returns-in-None : goal.returns-in-None
unfolding children_up_to
returns-in-None c = rw c.in-None.is refl
