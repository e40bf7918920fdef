use Rattle.std.proofs.Common.{map, refl}
use Rattle.std.proofs.KnownBytes.{Keeps-refl}
use Rattle.serve_arguments.specs.declared.fault.Fault.TheVariants.{CannotWrite}
use Rattle.serve_program.proofs.Flushed.{flushed, flushed_noted, unflushed}
use Rattle.serve_program.proofs.program.run_to.Goals as goal

pub returns-clause-answered : goal.returns-clause-answered
returns-clause-answered g c =
    let f = g.F.Write.contents in
    let r = g.P.Write.contents in
    flushed c.args.over.settings.tables (map g.B.FileBytes.bytes c.args.over.sources.now) c.args.requests.now (f c.args.frames.now) (f c.run_over.new.frames) (f c.flush.new.self) (r c.args.replies.now) (r c.run_over.new.replies) (r c.flush-2.new.self) c.in-Ok.session.state c.in-Ok.ensures.means c.flush.ensures.bytes c.flush-2.ensures.bytes

pub returns-then-is_err-clause-refused : goal.returns-then-is_err-clause-refused
returns-then-is_err-clause-refused g c =
    let f = g.F.Write.contents in
    let r = g.P.Write.contents in
    unflushed c.args.over.settings.tables (map g.B.FileBytes.bytes c.args.over.sources.now) c.args.requests.now (f c.args.frames.now) (f c.run_over.new.frames) (f c.flush.new.self) (r c.args.replies.now) (r c.run_over.new.replies) (r c.run_over.new.replies) c.in-Ok.session.state CannotWrite refl c.in-Ok.ensures.means c.flush.ensures.bytes (Keeps-refl (r c.run_over.new.replies))

pub returns-then-is_err-2-clause-refused : goal.returns-then-is_err-2-clause-refused
returns-then-is_err-2-clause-refused g c =
    let f = g.F.Write.contents in
    let r = g.P.Write.contents in
    unflushed c.args.over.settings.tables (map g.B.FileBytes.bytes c.args.over.sources.now) c.args.requests.now (f c.args.frames.now) (f c.run_over.new.frames) (f c.flush.new.self) (r c.args.replies.now) (r c.run_over.new.replies) (r c.flush-2.new.self) c.in-Ok.session.state CannotWrite refl c.in-Ok.ensures.means c.flush.ensures.bytes c.flush-2.ensures.bytes

pub returns-clause-noted : goal.returns-clause-noted
returns-clause-noted g c =
    let f = g.F.Write.contents in
    let r = g.P.Write.contents in
    let o = g.V.Observer.has_refused in
    flushed_noted c.args.over.settings.tables (map g.B.FileBytes.bytes c.args.over.sources.now) c.args.requests.now (f c.args.frames.now) (f c.run_over.new.frames) (f c.flush.new.self) (r c.args.replies.now) (r c.run_over.new.replies) (r c.flush-2.new.self) c.in-Ok.session.state (o c.args.observer.now) (o c.run_over.new.observer) c.in-Ok.ensures.noted c.flush.ensures.bytes c.flush-2.ensures.bytes
