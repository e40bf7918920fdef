use Rattle.stream_sources.proofs.OneStream.{plausible_is_ivf, refused_as_ivf, stream_is_ivf}
use Rattle.stream_sources.proofs.laws.other_bytes_are_ivf.Goals as goal

pub returns-clause-read : goal.returns-clause-read
returns-clause-read c = stream_is_ivf

pub returns-clause-refused : goal.returns-clause-refused
returns-clause-refused c = refused_as_ivf

pub returns-clause-plausible : goal.returns-clause-plausible
returns-clause-plausible c = plausible_is_ivf
