use Rattle.std.specs.Rc.{rc_slice_items}
use Rattle.list_program.proofs.Flushed.{answer_kept}
use Rattle.list_program.proofs.answering.answer_to.Goals as goal

pub returns-clause-answered : goal.returns-clause-answered
returns-clause-answered g c = answer_kept c.args.output c.args.file.tables.now (rc_slice_items c.args.file.bytes.now) c.in_ok-status.status _ _ _ c.in_ok-status.ensures.answered c.in-Ok.ensures.bytes
