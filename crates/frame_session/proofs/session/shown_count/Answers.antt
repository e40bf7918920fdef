use Rattle.frame_session.proofs.Given.{few_shown}
use Rattle.frame_session.proofs.session.shown_count.Goals as goal

pub returns-clause-few : goal.returns-clause-few
returns-clause-few c = few_shown c.args.store.now.list c.frames.result 1048576 c.frames.ensures c.prove_few.ensures.few
