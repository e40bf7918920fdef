use Rattle.frame_header.proofs.OutlineLemmas.{outlines_are_headers}
use Rattle.frame_header.proofs.laws.outlines_are_headers.Goals as goal

pub returns : goal.returns
returns c = outlines_are_headers
