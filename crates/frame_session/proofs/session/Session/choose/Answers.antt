use Rattle.std.proofs.Common.{arith, rules}
use Rattle.frame_session.proofs.session.Session.choose.Goals as goal

pub invariant_of-self : goal.invariant_of-self
invariant_of-self c = record {
  session = record { sound = c.self.invariant.session.sound; few = c.self.invariant.session.few; current_exists = search (rules, arith) };
  kept = c.new.ensures _ _;
}
