use Rattle.stream_sources.proofs.OneStream.{few}
use Rattle.stream_sources.proofs.laws.streams_are_few.Goals as goal

pub returns : goal.returns
returns c = few
