use Rattle.std.proofs.Common.{map, arith}
use Rattle.frame_session.proofs.LiveRuns.{live_means_at_cost, live_means_noted}
use Rattle.frame_session.proofs.live.run_live_over.Goals as goal

pub within-requires-clause-sources : goal.within-requires-clause-sources
within-requires-clause-sources g c =
    (omega (arith, c.in_ok-streams.ensures.count, c.requires.sources.0), omega (arith, c.in_ok-streams.ensures.count, c.requires.sources.1))

pub within-requires-clause-few : goal.within-requires-clause-few
within-requires-clause-few g c = c.in_ok-streams.ensures.few

pub returns-clause-costs : goal.returns-clause-costs
returns-clause-costs g c =
    let i = g.I.Read.remaining in
    let f = g.F.Write.contents in
    let r = g.P.Write.contents in
    let o = g.V.Observer.has_refused in
    live_means_at_cost c.args.settings.tables c.args.settings.capacity (map g.B.FileBytes.bytes c.args.files.now) (i c.args.input.now) (i c.serve_live.new.input) (f c.args.frames.now) (f c.serve_live.new.frames) (r c.args.replies.now) (r c.serve_live.new.replies) (o c.args.observer.now) (o c.serve_live.new.observer) c.in_ok-streams.streams.items c.in-Ok.session c.serve_live.new.session c.in_ok-streams.ensures.are c.in-Ok.ensures c.in_ok-serve_live.ensures.ok

pub returns-clause-noted : goal.returns-clause-noted
returns-clause-noted g c =
    let i = g.I.Read.remaining in
    let f = g.F.Write.contents in
    let r = g.P.Write.contents in
    let o = g.V.Observer.has_refused in
    live_means_noted c.args.settings.tables c.args.settings.capacity (map g.B.FileBytes.bytes c.args.files.now) (i c.args.input.now) (i c.serve_live.new.input) (f c.args.frames.now) (f c.serve_live.new.frames) (r c.args.replies.now) (r c.serve_live.new.replies) (o c.args.observer.now) (o c.serve_live.new.observer) c.in_ok-streams.streams.items c.in-Ok.session c.serve_live.new.session c.in_ok-streams.ensures.are c.in-Ok.ensures c.in_ok-serve_live.ensures.ok
