use Rattle.std.proofs.Common.{map, arith}
use Rattle.frame_session.proofs.AtCost.{means_at_cost}
use Rattle.frame_session.proofs.Noted.{means_noted}
use Rattle.frame_session.proofs.serving.run_over.Goals as goal

pub within-requires-clause-sources : goal.within-requires-clause-sources
within-requires-clause-sources g c =
    (omega (arith, c.in_ok-streams.ensures.count, c.requires.sources.0), omega (arith, c.in_ok-streams.ensures.count, c.requires.sources.1))

pub within-requires-clause-few : goal.within-requires-clause-few
within-requires-clause-few g c = c.in_ok-streams.ensures.few

pub returns-in-Ok-serve_all-clause-costs : goal.returns-in-Ok-serve_all-clause-costs
returns-in-Ok-serve_all-clause-costs g c =
    let f = g.F.Write.contents in
    let r = g.P.Write.contents in
    means_at_cost c.args.settings.tables c.args.settings.capacity (map g.B.FileBytes.bytes c.args.files.now) c.args.requests.now (f c.args.frames.now) (f c.serve_all.new.frames) (r c.args.replies.now) (r c.serve_all.new.replies) c.in_ok-streams.streams.items c.in-Ok.session c.serve_all.new.session c.in_ok-streams.ensures.are c.in-Ok.ensures c.in-Ok-serve_all.ensures.costs

pub returns-in-Ok-serve_all-clause-noted : goal.returns-in-Ok-serve_all-clause-noted
returns-in-Ok-serve_all-clause-noted g c =
    let f = g.F.Write.contents in
    let r = g.P.Write.contents in
    let o = g.V.Observer.has_refused in
    means_noted c.args.settings.tables c.args.settings.capacity (map g.B.FileBytes.bytes c.args.files.now) c.args.requests.now (f c.args.frames.now) (f c.serve_all.new.frames) (r c.args.replies.now) (r c.serve_all.new.replies) c.in_ok-streams.streams.items c.in-Ok.session c.serve_all.new.session.state (o c.args.observer.now) (o c.serve_all.new.observer) c.in_ok-streams.ensures.are c.in-Ok.ensures c.in-Ok-serve_all.ensures.noted
