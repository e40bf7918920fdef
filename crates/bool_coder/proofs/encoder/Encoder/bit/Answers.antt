use Rattle.std.proofs.Common.{◌≡◌, arith}
use Rattle.bool_coder.specs.Low.{code_of, StaysInside}
use Rattle.bool_coder.specs.declared.encoder.Low.{Low}
use Rattle.bool_coder.proofs.EncoderSteps.{IsNarrowed, IsNarrowed-one, IsNarrowed-zero, IsNarrowed-written, split-inside, shifted-inside, leading-count, small-mod}
use Rattle.bool_coder.proofs.encoder.Encoder.bit.Goals as goal
use Rattle.bool_coder.proofs.encoder.Encoder.bit.Goals.{Joined-bit, then-bit, else-bit}

pub add-requires-clause-inside : goal.add-requires-clause-inside
add-requires-clause-inside c =
    let whole = split-inside c.self.inside.low c.self.inside.range c.args.prob (omega arith) c.self.invariant.0 c.self.invariant.3 in
    rw c.in_ok-reserve.ensures.items whole

narrowed_here : (c : Joined-bit) → IsNarrowed c.args.bit c.args.prob c.args.self.now c.if-bit.self-inside.low c.if-bit.self-inside.range
narrowed_here c =
    let low : Low = record { bytes = c.reserve.new.self; tail = c.self.inside.low.tail; shifts = c.self.inside.low.shifts } in
    let before : code_of low c.self.inside.range ≡ c.args.self.now = rw c.in_ok-reserve.ensures.items c.self.view_is in
    let inside : StaysInside (code_of low c.self.inside.range) = rw c.in_ok-reserve.ensures.items c.self.invariant.3 in
    rw (← before) (elim c.if-bit.branch [ then-bit w ↦ rw (w.self-inside-is, w.if-bit.true) (IsNarrowed-one c.args.prob low w.add.new.self c.self.inside.range (omega arith) c.self.invariant.0 c.self.invariant.1 inside w.add.ensures.value w.add.ensures.doublings w.add.ensures.tail) | else-bit w ↦ rw (w.self-inside-is, w.if-bit.false) (IsNarrowed-zero c.args.prob low c.self.inside.range (omega arith) c.self.invariant.0 c.self.invariant.1 inside c.self.invariant.2) ])

pub overflow_sub-count : goal.overflow_sub-count
overflow_sub-count c =
    let here = narrowed_here c in
    (leading-count c.if-bit.self-inside.range here.some here.most).0

pub double-requires-clause-few : goal.double-requires-clause-few
double-requires-clause-few c =
    let here = narrowed_here (goal.at.double-requires-clause-few c).Joined-bit in
    (leading-count c.if-bit.self-inside.range here.some here.most).1

pub invariant_of-self-2 : goal.invariant_of-self-2
invariant_of-self-2 c =
    let here = narrowed_here (goal.at.invariant_of-self-2 c).Joined-bit in
    let count = leading-count c.if-bit.self-inside.range here.some here.most in
    let inside = shifted-inside c.if-bit.self-inside.low c.double.new.self c.if-bit.self-inside.range _ here.inside c.double.ensures.value c.double.ensures.doublings in
    rw (small-mod _ count.3) (count.2, count.3, c.double.ensures.tail, inside)

pub returns-clause-value : goal.returns-clause-value
returns-clause-value c =
    let here = narrowed_here (goal.at.returns-clause-value c).Joined-bit in
    let count = leading-count c.if-bit.self-inside.range here.some here.most in
    rw (small-mod _ count.3) (IsNarrowed-written c.args.bit c.args.prob c.args.self.now c.if-bit.self-inside.low c.double.new.self c.if-bit.self-inside.range _ here count.1 count.2 count.3 c.double.ensures.value c.double.ensures.doublings)
