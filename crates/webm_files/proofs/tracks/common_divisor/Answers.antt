use Rattle.std.proofs.Common.{arith}
use Rattle.std.proofs.lemmas.Nat.Gcd.{IsGcd-from_zero, IsGcd-from_mod}
use Rattle.webm_files.proofs.tracks.common_divisor.Goals as goal

pub steps-preserved : goal.steps-preserved
steps-preserved c = record {
  divisor = λ g h. c.steps.invariant.divisor g (IsGcd-from_mod _ _ g h);
  least = omega arith;
}

pub returns-clause-divisor : goal.returns-clause-divisor
returns-clause-divisor c = c.steps.invariant.divisor _ (IsGcd-from_zero _ _ (omega arith))
