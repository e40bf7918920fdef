use Rattle.std.proofs.Common.{◌≡◌, IfOk, Option, refl, rules}
use Rattle.frame_session.specs.declared.refusal.Refusal.{Refusal}
use Rattle.frame_session.proofs.AtCost.{kept_at_cost}
use Rattle.frame_session.proofs.serving.serve_line.Goals as goal

pub returns-in_err-flush-clause-costs : goal.returns-in_err-flush-clause-costs
returns-in_err-flush-clause-costs g c =
    let f = g.F.Write.contents in
    let r = g.P.Write.contents in
    let failed : IfOk c.from_residual-in_err-flush.result (λ (refusal : Option Refusal). refusal ≡ c.in_ok-told.told) = search rules in
    kept_at_cost _ c.args.session.now c.args.line (f c.args.frames.now) (f c.serve.new.frames) (r c.args.replies.now) (r c.serve.new.replies) (r c.flush.new.w) c.in_ok-told.told c.serve.new.session c.in_ok-told.ensures.costs c.flush.ensures failed

pub returns-clause-costs : goal.returns-clause-costs
returns-clause-costs g c =
    let f = g.F.Write.contents in
    let r = g.P.Write.contents in
    kept_at_cost _ c.args.session.now c.args.line (f c.args.frames.now) (f c.serve.new.frames) (r c.args.replies.now) (r c.serve.new.replies) (r c.flush.new.w) c.in_ok-told.told c.serve.new.session c.in_ok-told.ensures.costs c.flush.ensures refl
