use Rattle.std.proofs.Common.{arith}
use Rattle.loop_filter.specs.Blocks.{luma}
use Rattle.loop_filter.proofs.Folds.{apart_written}
use Rattle.loop_filter.proofs.frames.filter_luma_plane.Goals as goal

pub returns : goal.returns
returns c =
    apart_written luma c.args.all c.args.my c.args.plane.now c.stride-stride.result c.rows_mut.result.now c.filter_luma_row.new.samples (omega arith) (omega arith) c.requires.frame c.requires.blocks c.stride-stride.ensures.value
    c.rows_mut.ensures.value c.rows_mut.ensures.len c.filter_luma_row.auto.samples c.filter_luma_row.ensures
