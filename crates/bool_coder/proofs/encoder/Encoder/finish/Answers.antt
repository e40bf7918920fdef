use Rattle.std.proofs.Common.{arith, refl}
use Rattle.std.proofs.lemmas.Nat.{shr_below}
use Rattle.bool_coder.proofs.EncoderSteps.{text-one, text-two}
use Rattle.bool_coder.proofs.encoder.Encoder.finish.Goals as goal
use Rattle.bool_coder.proofs.encoder.Encoder.finish.Goals.{then-shifts-gt0+in_ok-push-2, else-shifts-gt0}

pub overflow_cast-tail : goal.overflow_cast-tail
overflow_cast-tail c =
    let byte = shr_below c.self.inside.low.tail 8 c.self.inside.low.shifts c.self.invariant.2.1 in omega (arith, byte)

pub returns : goal.returns
returns c =
    let small = rw c.deref.ensures.value at c.prove_bytes.ensures in
    rw (← c.self.view_is) (elim c.if-shifts-gt0.branch [
      | then-shifts-gt0+in_ok-push-2 w ↦ text-two c.if-shifts-gt0.bytes.items c.self.inside.low c.self.inside.range small w.if-shifts-gt0.true c.self.invariant.2 (rw (w.bytes-is, w.in_ok-push-2.ensures.items, c.in_ok-push.ensures.items) refl)
      | else-shifts-gt0 w ↦ text-one c.if-shifts-gt0.bytes.items c.self.inside.low c.self.inside.range small (omega (arith, w.if-shifts-gt0.false)) (rw (w.bytes-is, c.in_ok-push.ensures.items) refl)
    ])
