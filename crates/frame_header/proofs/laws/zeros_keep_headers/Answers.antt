use Rattle.frame_header.proofs.PaddingLemmas.{header_of-zero, started-zero, readers_of-zero, shown_is_kept}
use Rattle.frame_header.proofs.laws.zeros_keep_headers.Goals as goal

pub returns : goal.returns
returns c = record {
  headers = header_of-zero;
  reader = started-zero;
  readers = readers_of-zero;
  shown = shown_is_kept;
}
