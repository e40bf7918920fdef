use Rattle.frame_header.proofs.OverLemmas.{headers_are_over_their_own}
use Rattle.frame_header.proofs.laws.headers_are_over_their_own.Goals as goal

pub returns : goal.returns
returns c = headers_are_over_their_own
