use Rattle.std.proofs.Common.{refl}
use Rattle.webm_files.specs.declared.files.WebmFault.TheVariants.{NoMemory}
use Rattle.stream_sources.proofs.sources.read_webm.Goals as goal

pub returns-in-Err-video_of-clause-refused : goal.returns-in-Err-video_of-clause-refused
returns-in-Err-video_of-clause-refused g c = (NoMemory, refl, (c.in-Ok.webm, c.in-Ok.ensures))
