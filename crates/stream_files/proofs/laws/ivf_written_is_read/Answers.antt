use Rattle.stream_files.proofs.Written.{written_is_read}
use Rattle.stream_files.proofs.laws.ivf_written_is_read.Goals as goal

pub returns : goal.returns
returns c = written_is_read
