use Rattle.std.proofs.Common.{arith, refl}
use Rattle.macroblock_lists.proofs.Progress.{progress_next}
use Rattle.macroblock_lists.proofs.listing.progress_over.Goals as goal

pub loop-index-preserved : goal.loop-index-preserved
loop-index-preserved c =
    progress_next c.args.tables.now c.args.place c.args.packets.now c.loop-index.index _ c.index-packets-index.result c.loop-index.progress c.in_ok-progress.progress
    (omega arith) refl c.index-packets-index.is c.loop-index.invariant (rw c.as_slice.ensures at c.in_ok-progress.ensures)
