use Rattle.std.proofs.Common.{arith, sym, ◌∙◌, ◌<◌}
use Rattle.token_parser.proofs.ExtraBits.{more_extra_bits-step, more_extra_bits-end, size_in-extra, with_bit-small, extra-smaller}
use Rattle.token_parser.proofs.sizes.read_size_in.Goals as goal

pub overflow_mul-extra : goal.overflow_mul-extra
overflow_mul-extra c =
    let small : c.loop-prob.extra < 1024 = extra-smaller c.loop-prob.prob-index _ (omega (arith, c.requires.few)) c.loop-prob.invariant.small in omega arith

pub loop-prob-preserved : goal.loop-prob-preserved
loop-prob-preserved c = record {
  same = sym (more_extra_bits-step _ _ _ _ _ _ c.loop-prob-test.true c.bit.ensures) ∙ c.loop-prob.invariant.same;
  small = with_bit-small _ _ _ c.loop-prob.invariant.small;
}

pub returns-clause-value : goal.returns-clause-value
returns-clause-value c = size_in-extra _ _ _ _ _ (sym c.loop-prob.invariant.same ∙ more_extra_bits-end _ _ _ _ c.loop-prob-test.false)
