use Rattle.frame_header.proofs.KeyLemmas.{header_of-key}
use Rattle.frame_header.proofs.laws.keys_take_no_context.Goals as goal

pub returns : goal.returns
returns c = header_of-key
