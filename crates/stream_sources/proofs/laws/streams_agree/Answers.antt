use Rattle.stream_sources.proofs.OneStream.{agree}
use Rattle.stream_sources.proofs.laws.streams_agree.Goals as goal

pub returns : goal.returns
returns c = agree
