use Rattle.packet_edits.specs.Shown.{stream_of}
use Rattle.lossless_cuts.proofs.AcceptedRuns.{unread}
use Rattle.lossless_cuts.proofs.accepts.unread_from.Goals as goal

pub returns-in-Some-clause-accepted : goal.returns-in-Some-clause-accepted
returns-in-Some-clause-accepted c =
    unread (stream_of c.args.list.now.list) c.args.first c.in-Some.earlier c.args.place c.requires.first.0 c.if-first-earlier.true c.if-earlier-place.true (rw c.in-Some.is at c.requires.before)
