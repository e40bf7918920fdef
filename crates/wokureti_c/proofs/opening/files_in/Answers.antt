use Rattle.std.proofs.Common.{rules, ◌≡◌, ◌<◌, ◌∙◌, false, true, length, ap, nat_le, ◌&&◌, get_or, arith}
use Rattle.frame_session.specs.Answers.{texts_of}
use Rattle.wokureti_c.proofs.Cut.{ends_refused, files_more, last_more, texts_more}
use Rattle.wokureti_c.proofs.opening.files_in.Goals as goal
use Rattle.wokureti_c.proofs.opening.files_in.Goals.{then-end-start-via-then-end-start, then-end-start-via-else-end-start+then-end-bytes}

pub returns-then-end-start-clause-refused : goal.returns-then-end-start-clause-refused
returns-then-end-start-clause-refused c none =
    ends_refused c.args.bytes.now c.args.ends.now c.loop-end.end-index c.loop-end.start c.loop-end-test.true c.loop-end.invariant.start
    elim c.then-end-start.branch [ then-end-start-via-then-end-start w ↦ first_of (search rules, grind arith) | then-end-start-via-else-end-start+then-end-bytes w ↦ first_of (search rules, grind arith) ]

pub loop-end-preserved : goal.loop-end-preserved
loop-end-preserved c = record {
  files = files_more c.args.bytes.now c.args.ends.now c.loop-end.end-index c.loop-end.start (texts_of c.loop-end.files.items) (texts_of c.push.new.self.items) c.loop-end-test.true c.loop-end.invariant.files c.loop-end.invariant.start (ap texts_of c.push.ensures.items ∙ texts_more c.loop-end.files.items _);
  count = first_of (search rules, grind arith);
  start = last_more c.args.ends.now c.loop-end.end-index c.loop-end-test.true;
  within = first_of (search rules, omega arith);
}
