use Rattle.std.proofs.Common.{refl}
use Rattle.webm_writing.proofs.laws.worked_file.Goals as goal

pub returns : goal.returns
returns c = refl
