use Rattle.std.proofs.Common.{ℕ, ◌/◌, ◌^◌, ap, subst, refl, arith}
use Rattle.std.specs.Int.{IsGcd}
use Rattle.std.proofs.lemmas.Nat.{div_below}
use Rattle.webm_files.proofs.RateLemmas.{too_great}
use Rattle.webm_files.proofs.rates.lowest.Goals as goal

pub returns-then-scale-gt4294967295-clause-none : goal.returns-then-scale-gt4294967295-clause-none
returns-then-scale-gt4294967295-clause-none c =
    let common : ℕ = c.common_divisor-common.result in
    too_great c.args.a c.args.b common (subst (λ x. IsGcd x c.args.b common) c.from.ensures c.common_divisor-common.ensures.divisor) (omega (arith, c.if-scale-gt4294967295.true))

pub returns-clause-small : goal.returns-clause-small
returns-clause-small c =
    let common : ℕ = c.common_divisor-common.result in record {
      first = omega arith;
      second = omega arith;
      rate = c.args.a / common;
      scale = c.args.b / common;
      lowest = record {
        common = common;
        divisor = subst (λ x. IsGcd x c.args.b common) c.from.ensures c.common_divisor-common.ensures.divisor;
        first = refl;
        second = refl;
      };
      rate_fits = div_below c.args.a common (2 ^ 32) c.common_divisor-common.ensures.least (omega (arith, c.ranges.a, c.common_divisor-common.ensures.least));
      scale_fits = omega (arith, c.if-scale-gt4294967295.false);
    }

pub returns-clause-is : goal.returns-clause-is
returns-clause-is c =
    let common : ℕ = c.common_divisor-common.result in record {
      common = common;
      divisor = subst (λ x. IsGcd x c.args.b common) c.from.ensures c.common_divisor-common.ensures.divisor;
      first = ap (λ n. n / common) c.from-2.ensures;
      second = refl;
    }
