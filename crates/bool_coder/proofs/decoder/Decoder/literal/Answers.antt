use Rattle.std.proofs.Common.{◌≡◌, ◌-◌, sym, ◌∙◌, ap, ℕ, arith}
use Rattle.bool_coder.specs.Reading.{literal, more_bits}
use Rattle.bool_coder.proofs.Literals.{more_bits-step, more_bits-end, with_bit-small}
use Rattle.bool_coder.proofs.decoder.Decoder.literal.Goals as goal

pub loop-i-init : goal.loop-i-init
unfolding literal
loop-i-init c =
    let whole : c.args.count - 0 ≡ c.args.count = omega arith in
    (ap (λ (n : ℕ). more_bits n 0 c.args.self.now) whole, omega arith)

pub loop-i-preserved : goal.loop-i-preserved
loop-i-preserved c =
    (sym (more_bits-step c.args.count c.loop-i._i c.loop-i.value _ _ _ c.loop-i-test.true c.flag-bit.ensures) ∙ c.loop-i.invariant.0, with_bit-small _ _ _ c.loop-i.invariant.1)

pub returns-clause-value : goal.returns-clause-value
returns-clause-value c =
    let all : c.loop-i._i ≡ c.args.count = omega arith in
    sym (rw all at c.loop-i.invariant.0) ∙ more_bits-end _ _ _
