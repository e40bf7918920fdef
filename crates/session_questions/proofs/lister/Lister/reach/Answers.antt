use Rattle.std.proofs.Common.{arith}
use Rattle.session_questions.proofs.Progressed.{known_more}
use Rattle.session_questions.proofs.lister.Lister.reach.Goals as goal

pub loop-place-preserved : goal.loop-place-preserved
loop-place-preserved c =
    known_more c.args.tables.now c.args.store.now.list c.nearest_before-start.result.at c.loop-place.place c.nearest_before-start.result.progress c.packet.result.now c.loop-place.progress c.in_ok-progress.progress
    (omega arith) (omega (arith, c.requires.within)) c.packet.ensures c.loop-place.invariant c.in_ok-progress.ensures
