use Rattle.stream_sources.proofs.OneStream.{other_source_is_ivf, source_is_ivf, source_is_stream}
use Rattle.stream_sources.proofs.laws.sources_are_streams.Goals as goal

pub returns-clause-stream : goal.returns-clause-stream
returns-clause-stream c = source_is_stream

pub returns-clause-ivf : goal.returns-clause-ivf
returns-clause-ivf c = source_is_ivf

pub returns-clause-others : goal.returns-clause-others
returns-clause-others c = other_source_is_ivf
