use Rattle.frame_header.proofs.KeyLemmas.{header_of-refreshes}
use Rattle.frame_header.proofs.laws.keys_refresh_all.Goals as goal

pub returns : goal.returns
returns c = header_of-refreshes
