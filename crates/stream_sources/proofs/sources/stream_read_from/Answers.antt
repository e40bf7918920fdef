use Rattle.stream_sources.proofs.OneStream.{source_is_stream}
use Rattle.stream_sources.proofs.sources.stream_read_from.Goals as goal

pub returns : goal.returns
returns g c = source_is_stream (g.B.FileBytes.bytes c.args.file.now) c.in_ok-source.source c.in_ok-source.ensures
