use Rattle.frame_header.proofs.InterLemmas.{header_of-probabilities}
use Rattle.frame_header.proofs.laws.probabilities_come_back.Goals as goal

pub returns : goal.returns
returns c = header_of-probabilities
