use Rattle.reference_frames.proofs.AboveRight.{reads_row_above, reads_next_block, repeats_first_row, reads_next_macroblock, repeats_last_column}
use Rattle.reference_frames.proofs.laws.samples_above_and_to_the_right.Goals as goal

pub returns : goal.returns
returns c = record {
  above = reads_row_above;
  next_block = reads_next_block;
  later_rows = repeats_first_row;
  next_macroblock = reads_next_macroblock;
  last_macroblock = repeats_last_column;
}
