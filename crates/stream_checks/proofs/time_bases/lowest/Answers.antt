use Rattle.std.proofs.Math.Nat.{div-mul_cancel, pos_of_dvd_of_pos}
use Rattle.stream_checks.proofs.time_bases.lowest.Goals as goal

pub nonzero_div-result : goal.nonzero_div-result
nonzero_div-result c = pos_of_dvd_of_pos c.common_divisor-divisor.ensures.1 c.requires

pub nonzero_div-result-2 : goal.nonzero_div-result-2
nonzero_div-result-2 c = pos_of_dvd_of_pos c.common_divisor-divisor.ensures.1 c.requires

pub returns : goal.returns
returns c = record {
  divisor = c.common_divisor-divisor.result;
  greatest = c.common_divisor-divisor.ensures;
  top = div-mul_cancel _ c.common_divisor-divisor.ensures.0;
  bottom = div-mul_cancel _ c.common_divisor-divisor.ensures.1;
}
