use Rattle.std.proofs.Common.{◌≡◌, ℕ, ◌*◌, ◌/◌, arith}
use Rattle.loop_filter.proofs.laws.sides_fix_macroblocks.Goals as goal

-- a multiple of 16, divided by 16
sixteenth : (side n : ℕ) → side ≡ 16 * n → side / 16 ≡ n
sixteenth side n is = omega arith

pub returns : goal.returns
returns c = λ planes columns rows blocks. (sixteenth _ _ blocks.0.0, sixteenth _ _ blocks.0.1)
