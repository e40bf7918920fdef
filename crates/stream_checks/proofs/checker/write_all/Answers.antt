use Rattle.stream_checks.proofs.Parts.{two_texts}
use Rattle.stream_checks.proofs.checker.write_all.Goals as goal

pub returns-clause-written : goal.returns-clause-written
returns-clause-written g c = two_texts c.args.form _ _ _ _ _ c.in_ok-partitions.ensures.written c.in_ok-around.ensures.written
