use Rattle.std.proofs.Common.{◌≡◌, map, take}
use Rattle.frame_session.specs.Exported.{duration_at}
use Rattle.frame_session.proofs.session.Session.durations_of.Given as goal

abbrev pub invariant-loop-target : goal.invariant-loop-target
invariant-loop-target l = l.durations.items ≡ map (duration_at l.self.state) (take l.target-index l.targets)
