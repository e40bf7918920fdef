use Rattle.stream_sources.proofs.OneStream.{one_stream_fault}
use Rattle.stream_sources.proofs.laws.stream_has_one_fault.Goals as goal

pub returns : goal.returns
returns c = one_stream_fault
