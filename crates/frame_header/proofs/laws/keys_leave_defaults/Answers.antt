use Rattle.frame_header.proofs.KeyLemmas.{header_of-leaves}
use Rattle.frame_header.proofs.laws.keys_leave_defaults.Goals as goal

pub returns : goal.returns
returns c = header_of-leaves
