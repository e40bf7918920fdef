use Rattle.stream_sources.proofs.OneStream.{ivf_is_stream, plausible_is_stream}
use Rattle.stream_sources.proofs.laws.ivf_files_are_streams.Goals as goal

pub returns-clause-rated : goal.returns-clause-rated
returns-clause-rated c = ivf_is_stream

pub returns-clause-plausible : goal.returns-clause-plausible
returns-clause-plausible c = plausible_is_stream
