-- Quotients that are rounded half up.
use Rattle.std.proofs.Common.{◌≡◌, ℕ, ◌+◌, ◌-◌, ◌*◌, ◌/◌, ◌%◌, ◌<◌, Bool, true, false, cond, nat_le, refl, sym, ap, ◌∙◌, arith}
use Rattle.std.proofs.Math.Nat.{add-zero}
use mir.Val.{bool_byte}
use Rattle.std.proofs.lemmas.Bool.{leb-true, leb-false}
use Rattle.std.proofs.lemmas.Nat.{div-mul-add, div-add-mod', mod_below}

-- the quotient, and one more if the rest is at least half of the divisor
pub half_up : (n by : ℕ) → 0 < by → (2 * n + by) / (2 * by) ≡ n / by + cond (nat_le (by - n % by) (n % by)) 1 0
half_up n by some = by_first (nat_le (by - n % by) (n % by)) refl
  where
    by_first : (b : Bool) → nat_le (by - n % by) (n % by) ≡ b → (2 * n + by) / (2 * by) ≡ n / by + cond b 1 0
    by_first true e =
        let up = leb-true (by - n % by) (n % by) e in
        let less : n % by < by = mod_below n by some in
        let whole : n / by * by + n % by ≡ n = div-add-mod' n by in
        let parts : 2 * n + by ≡ (n / by + 1) * (2 * by) + (2 * (n % by) - by) = omega arith in
        ap (λ (m : ℕ). m / (2 * by)) parts ∙ div-mul-add (n / by + 1) (2 * by) (2 * (n % by) - by) (omega arith)
    by_first false e =
        let up = leb-false (by - n % by) (n % by) e in
        let less : n % by < by = mod_below n by some in
        let whole : n / by * by + n % by ≡ n = div-add-mod' n by in
        let parts : 2 * n + by ≡ (n / by) * (2 * by) + (2 * (n % by) + by) = omega arith in
        ap (λ (m : ℕ). m / (2 * by)) parts ∙ div-mul-add (n / by) (2 * by) (2 * (n % by) + by) (omega arith) ∙ sym (add-zero (n / by))

pub one_if : (b : Bool) → bool_byte b ≡ cond b 1 0
one_if true = refl
one_if false = refl
