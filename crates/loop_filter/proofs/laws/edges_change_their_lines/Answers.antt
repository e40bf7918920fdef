use Rattle.std.proofs.Common.{◌+◌, ◌*◌, arith}
use Rattle.std.specs.Prelude.{◌-◌}
use Rattle.loop_filter.specs.Blocks.{column_edge, row_edge}
use Rattle.loop_filter.proofs.OwnLines.{own-lines, rows-apart, columns-apart}
use Rattle.loop_filter.proofs.laws.edges_change_their_lines.Goals as goal

pub returns : goal.returns
unfolding column_edge row_edge
returns c = record {
  columns = λ filter side block x samples wide. own-lines filter (block.start + x - 4) block.stride 1 side samples (omega arith) (rows-apart side (block.start + x - 4) block.stride wide);
  rows = λ filter side block y samples wide some. own-lines filter (block.start + y * block.stride - 4 * block.stride) 1 block.stride side samples some (columns-apart side (block.start + y * block.stride - 4 * block.stride) block.stride wide);
}
