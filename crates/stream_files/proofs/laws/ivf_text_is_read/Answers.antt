use Rattle.stream_files.proofs.Headers.{text_is_ivf}
use Rattle.stream_files.proofs.laws.ivf_text_is_read.Goals as goal

pub returns : goal.returns
returns c = text_is_ivf
