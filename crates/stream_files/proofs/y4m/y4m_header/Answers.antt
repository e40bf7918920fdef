use Rattle.stream_files.proofs.Lines.{rate_text-zero}
use Rattle.stream_files.proofs.y4m.y4m_header.Goals as goal

pub returns-then-scale-eq0 : goal.returns-then-scale-eq0
returns-then-scale-eq0 g c = rw (rate_text-zero c.args.rate c.args.scale c.if-scale-eq0.either) c.write_line.ensures
