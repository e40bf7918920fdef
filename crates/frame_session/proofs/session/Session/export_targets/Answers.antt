use Rattle.std.proofs.Common.{◌≡◌, ◌+◌, ◌<◌, ℕ, List, length, ap, sym, subst, arith, rules}
use Rattle.std.proofs.lemmas.List.{length_push}
use Rattle.lossless_cuts.specs.declared.targets.Target.{Target}
use Rattle.frame_session.specs.Exported.{HasTarget, HaveTargets}
use Rattle.frame_session.specs.Sessions.{SessionState, frame_count}
use Rattle.frame_session.proofs.ExportedFrames.{frame_fault, has_picture, have_more}
use Rattle.frame_session.proofs.session.Session.export_targets.Goals as goal

pub frames-init : goal.frames-init
frames-init c = record {
  has = subst (λ (targets : List Target). HaveTargets c.args.self.now.state 0 targets) (sym c.no_targets-targets.ensures) tt;
  count = ap length c.no_targets-targets.ensures;
  before = tt;
}

pub frames-preserved : goal.frames-preserved
frames-preserved c =
    let now : SessionState = c.args.self.now.state in
    let target : Target = c.in_ok-target.target in
    let at : c.frames.n ≡ 0 + length c.frames.targets.items = omega (arith, c.frames.invariant.count) in
    let here : HasTarget now (0 + length c.frames.targets.items) target = subst (λ (m : ℕ). HasTarget now m target) at c.in_ok-target.ensures.target in
    record {
      has = subst (λ (targets : List Target). HaveTargets now 0 targets) (sym c.in-Ok.ensures.items) (have_more now 0 c.frames.targets.items target c.frames.invariant.has here);
      count = omega (arith, ap length c.in-Ok.ensures.items, length_push c.frames.targets.items target, c.frames.invariant.count);
      before = has_picture now c.frames.n target c.in_ok-target.ensures.target;
    }

pub returns-in_err-target-clause-fault : goal.returns-in_err-target-clause-fault
returns-in_err-target-clause-fault c =
    let less : c.frames.n < frame_count c.args.self.now.state = omega (arith, c.requires) in
    let why = frame_fault c.args.self.now.state c.frames.n c.in_err-target.field-0.0 less (c.frames.targets.items, c.frames.invariant.has, c.frames.invariant.count) c.in_err-target.ensures.fault in
    search rules
