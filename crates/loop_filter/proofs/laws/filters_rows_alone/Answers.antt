use Rattle.loop_filter.proofs.Front.{luma_alone, chroma_alone}
use Rattle.loop_filter.proofs.laws.filters_rows_alone.Goals as goal

pub returns : goal.returns
returns c = record { luma = luma_alone; chroma = chroma_alone }
