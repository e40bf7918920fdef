use Rattle.std.proofs.Common.{◌≡◌, length}
use Rattle.std.specs.Prelude.{IfSome}
use Rattle.frame_session.specs.Exported.{HasPicture, HaveTargets}
use Rattle.frame_session.proofs.session.Session.export_targets.Given as goal

abbrev pub invariant-frames : goal.invariant-frames
invariant-frames l = record {
  has : HaveTargets l.fn.self.state 0 l.targets.items;
  count : length l.targets.items ≡ l.n;
  before : IfSome l.before (λ target. HasPicture l.fn.self.state target.source target.place (target.width, target.height));
}
