use Rattle.std.proofs.Common.{◌≡◌}
use Rattle.loop_filter.specs.Blocks.{luma, chroma}
use Rattle.loop_filter.specs.Macroblocks.{plane_in, row_of_all}
use Rattle.loop_filter.proofs.frames.filter_row.Given as goal

abbrev pub invariant-loop-mx : goal.invariant-loop-mx
invariant-loop-mx l =
    (plane_in luma l.all l.strides.luma l.y ≡ row_of_all luma l.all l.my (plane_in luma l.all l.strides.luma l.initial.y) l.mx)
    × (plane_in chroma l.all l.strides.chroma l.cb ≡ row_of_all chroma l.all l.my (plane_in chroma l.all l.strides.chroma l.initial.cb) l.mx)
    × (plane_in chroma l.all l.strides.chroma l.cr ≡ row_of_all chroma l.all l.my (plane_in chroma l.all l.strides.chroma l.initial.cr) l.mx)
