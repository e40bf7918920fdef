use Rattle.std.proofs.Common.{◌<◌, refl, rules}
use Rattle.loop_filter.specs.Frames.{row_filtered}
use Rattle.loop_filter.proofs.ApartBlocks.{more_of_luma}
use Rattle.loop_filter.proofs.frames.filter_luma_row.Goals as goal

pub loop-mx-init : goal.loop-mx-init
unfolding row_filtered
loop-mx-init c = refl

pub loop-mx-preserved : goal.loop-mx-preserved
loop-mx-preserved c =
    let inside : c.loop-mx.mx < c.args.all.columns = search rules in
    more_of_luma c.args.all c.args.stride c.loop-mx.mx c.args.my c.args.samples.now c.loop-mx.samples c.filter_luma_block.new.samples c.requires.plane c.loop-mx.auto.samples inside c.requires.place c.filter_luma_block.ensures c.loop-mx.invariant
