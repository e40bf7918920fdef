use Rattle.stream_sources.proofs.OneStream.{source_few, source_kept}
use Rattle.stream_sources.proofs.laws.sources_are_few.Goals as goal

pub returns-clause-packets : goal.returns-clause-packets
returns-clause-packets c = source_few

pub returns-clause-media : goal.returns-clause-media
returns-clause-media c = source_kept
