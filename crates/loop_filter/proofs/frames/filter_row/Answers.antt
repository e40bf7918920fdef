use Rattle.std.proofs.Common.{◌<◌, refl, rules}
use Rattle.loop_filter.specs.Frames.{row_filtered}
use Rattle.loop_filter.proofs.ApartBlocks.{more_of_luma, more_of_chroma}
use Rattle.loop_filter.proofs.frames.filter_row.Goals as goal

pub loop-mx-init : goal.loop-mx-init
unfolding row_filtered
loop-mx-init c = (refl, refl, refl)

pub loop-mx-preserved : goal.loop-mx-preserved
loop-mx-preserved c =
    let inside : c.loop-mx.mx < c.args.all.columns = search rules in (
      more_of_luma c.args.all c.args.strides.luma c.loop-mx.mx c.args.my c.args.y.now c.loop-mx.y c.filter_blocks.new.y c.requires.y c.loop-mx.auto.y inside c.requires.place c.filter_blocks.ensures.y c.loop-mx.invariant.0,
      more_of_chroma c.args.all c.args.strides.chroma c.loop-mx.mx c.args.my c.args.cb.now c.loop-mx.cb c.filter_blocks.new.cb c.requires.cb c.loop-mx.auto.cb inside c.requires.place c.filter_blocks.ensures.cb c.loop-mx.invariant.1,
      more_of_chroma c.args.all c.args.strides.chroma c.loop-mx.mx c.args.my c.args.cr.now c.loop-mx.cr c.filter_blocks.new.cr c.requires.cr c.loop-mx.auto.cr inside c.requires.place c.filter_blocks.ensures.cr c.loop-mx.invariant.2,
    )
