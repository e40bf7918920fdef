use Rattle.stream_files.proofs.Headers.{ivf_is_text}
use Rattle.stream_files.proofs.laws.ivf_is_its_text.Goals as goal

pub returns : goal.returns
returns c = ivf_is_text
