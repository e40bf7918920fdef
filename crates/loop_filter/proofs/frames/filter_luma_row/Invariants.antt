use Rattle.std.proofs.Common.{◌≡◌}
use Rattle.loop_filter.specs.Blocks.{luma}
use Rattle.loop_filter.specs.Macroblocks.{plane_in, row_of_all}
use Rattle.loop_filter.proofs.frames.filter_luma_row.Given as goal

abbrev pub invariant-loop-mx : goal.invariant-loop-mx
invariant-loop-mx l = plane_in luma l.all l.stride l.samples ≡ row_of_all luma l.all l.my (plane_in luma l.all l.stride l.initial.samples) l.mx
