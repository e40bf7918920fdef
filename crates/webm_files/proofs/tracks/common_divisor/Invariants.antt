use Rattle.std.proofs.Common.{ℕ, ◌<◌}
use Rattle.std.specs.Int.{IsGcd}
use Rattle.webm_files.proofs.tracks.common_divisor.Given as goal

abbrev pub invariant-steps : goal.invariant-steps
invariant-steps l = record {
  divisor : (g : ℕ) → IsGcd l.x l.y g → IsGcd l.fn.a l.fn.b g;
  least : 0 < l.x;
}

abbrev pub decreases-steps : goal.decreases-steps
decreases-steps l = l.y
