-- The numbers of a filter and their form in a lane.
use Rattle.std.specs.Prelude.{max, nat_eq, nat_le}
use Rattle.std.specs.Int.{abs_diff, int_shr}
use Rattle.std.proofs.Common.{◌≡◌, ℕ, ◌+◌, ◌-◌, ◌*◌, ◌/◌, ◌<◌, ◌≤◌, Bool, true, false, not, ◌&&◌, refl, ap, ◌∙◌, arith, ℤ, pos, inl, inr, ◌+ℤ◌, ◌-ℤ◌, ◌*ℤ◌}
use Rattle.std.proofs.lemmas.Int.{ints}
use Rattle.std.proofs.lemmas.Bool.Decides.{nat_tests}
use Rattle.std.proofs.lemmas.Bool.{cases_lt}
use Rattle.loop_filter.specs.declared.edge_limits.EdgeLimits.{EdgeLimits}
use Rattle.loop_filter.specs.Lines.{Line, as_signed, clamped, raised, lowered, is_small_step, is_filtered, has_high_edge_variance, shortfall, eighth, share}
use Rattle.loop_filter.specs.Lanes.{sum_of, raised_by, lowered_by, difference_of, shortfall_from, eighth_of, half_of, adjustment_of, step_over_of, side_of, variance_over_of, excess_of}

-- the number of an offset form
abbrev pub off : ℕ → ℕ → ℤ
off offset d = pos d -ℤ pos offset

-- samples that are moved
pub raised_is : (offset s d : ℕ) → s < 256 → raised s (off offset d) ≡ raised_by offset s d
unfolding raised raised_by
raised_is offset s d small = grind (arith, ints)

pub lowered_is : (offset s d : ℕ) → s < 256 → lowered s (off offset d) ≡ lowered_by offset s d
unfolding lowered lowered_by
lowered_is offset s d small = grind (arith, ints)

-- the number by which both sides are moved
difference_is : (a b : ℕ) → a < 256 → b < 256 → clamped (as_signed a -ℤ as_signed b) ≡ off 128 (difference_of a b)
unfolding difference_of
difference_is a b small small' = grind (arith, ints)

difference_small : (a b : ℕ) → difference_of a b < 256
unfolding difference_of
difference_small a b = grind arith

pub lack_small : (start p q : ℕ) → shortfall_from start p q < 256
unfolding shortfall_from
lack_small start p q = grind arith

lack_up : (start p q : ℕ) → start < 256 → p < q → q < 256 → clamped (off 128 start +ℤ (pos 3 *ℤ (as_signed q -ℤ as_signed p))) ≡ off 128 (shortfall_from start p q)
unfolding shortfall_from
lack_up start p q small less small' =
    let none : p - q ≡ 0 = omega arith in
    let wide : (as_signed q -ℤ as_signed p) ≡ pos (q - p) = omega (arith, ints) in
    rw (none, wide) (grind (arith, ints))

held_down : (start d : ℕ) → start < 256 → clamped (pos start -ℤ pos (128 + 3 * d)) ≡ off 128 (start - 3 * d)
held_down start d small = grind (arith, ints)

lack_down : (start p q : ℕ) → start < 256 → q ≤ p → clamped (off 128 start +ℤ (pos 3 *ℤ (as_signed q -ℤ as_signed p))) ≡ off 128 (shortfall_from start p q)
unfolding shortfall_from
lack_down start p q small less =
    let none : q - p ≡ 0 = omega arith in
    let flat : sum_of (sum_of (sum_of start 0) 0) 0 - (p - q) - (p - q) - (p - q) ≡ start - 3 * (p - q) = grind arith in
    let wide : off 128 start +ℤ (pos 3 *ℤ (as_signed q -ℤ as_signed p)) ≡ pos start -ℤ pos (128 + 3 * (p - q)) = omega (arith, ints) in
    rw (none, flat, wide) (held_down start (p - q) small)

lack_is : (start p q : ℕ) → start < 256 → p < 256 → q < 256 → clamped (off 128 start +ℤ (pos 3 *ℤ (as_signed q -ℤ as_signed p))) ≡ off 128 (shortfall_from start p q)
lack_is start p q small small' small'' = elim (cases_lt p q) [ inl less ↦ lack_up start p q small less small'' | inr from ↦ lack_down start p q small from ]

pub lack_true : (l : Line) → l.p1 < 256 → l.p0 < 256 → l.q0 < 256 → l.q1 < 256 → shortfall true l ≡ off 128 (shortfall_from (difference_of l.p1 l.q1) l.p0 l.q0)
unfolding shortfall
lack_true l a b c d = rw (difference_is l.p1 l.q1 a d) (lack_is (difference_of l.p1 l.q1) l.p0 l.q0 (difference_small l.p1 l.q1) b c)

pub lack_false : (l : Line) → l.p0 < 256 → l.q0 < 256 → shortfall false l ≡ off 128 (shortfall_from 128 l.p0 l.q0)
unfolding shortfall
lack_false l b c = lack_is 128 l.p0 l.q0 (omega arith) b c

pub eighth3_is : (w : ℕ) → w < 256 → eighth 3 (off 128 w) ≡ off 16 (eighth_of 3 w)
unfolding eighth eighth_of
eighth3_is w small = grind (arith, ints)

pub eighth4_is : (w : ℕ) → w < 256 → eighth 4 (off 128 w) ≡ off 16 (eighth_of 4 w)
unfolding eighth eighth_of
eighth4_is w small = grind (arith, ints)

pub eighth_small : (n w : ℕ) → eighth_of n w < 32
unfolding eighth_of
eighth_small n w = omega arith

pub half_is : (e : ℕ) → int_shr (off 16 e +ℤ pos 1) 1 ≡ off 8 (half_of e)
unfolding half_of
half_is e = grind (arith, ints)

pub share27_is : (w : ℕ) → w < 256 → share 27 (off 128 w) ≡ off 27 (adjustment_of 27 w)
unfolding share adjustment_of
share27_is w small = grind (arith, ints)

pub share18_is : (w : ℕ) → w < 256 → share 18 (off 128 w) ≡ off 18 (adjustment_of 18 w)
unfolding share adjustment_of
share18_is w small = grind (arith, ints)

pub share9_is : (w : ℕ) → w < 256 → share 9 (off 128 w) ≡ off 9 (adjustment_of 9 w)
unfolding share adjustment_of
share9_is w small = grind (arith, ints)

-- a move by 0
pub raised_none : (offset s : ℕ) → s < 256 → raised_by offset s offset ≡ s
unfolding raised_by
raised_none offset s small = grind arith

pub lowered_none : (offset s : ℕ) → s < 256 → lowered_by offset s offset ≡ s
unfolding lowered_by
lowered_none offset s small = grind arith

pub share_small : (w : ℕ) → w < 256 → adjustment_of 27 w < 128
unfolding adjustment_of
share_small w small = omega arith

-- a sample that is moved by two numbers one of which is 0
pub raised_first : (s e : ℕ) → e < 32 → raised_by 43 s (sum_of 27 e) ≡ raised_by 16 s e
unfolding raised_by
raised_first s e small = grind arith

pub raised_second : (s n : ℕ) → n < 128 → raised_by 43 s (sum_of n 16) ≡ raised_by 27 s n
unfolding raised_by
raised_second s n small = grind arith

pub lowered_first : (s e : ℕ) → e < 32 → lowered_by 43 s (sum_of 27 e) ≡ lowered_by 16 s e
unfolding lowered_by
lowered_first s e small = grind arith

pub lowered_second : (s n : ℕ) → n < 128 → lowered_by 43 s (sum_of n 16) ≡ lowered_by 27 s n
unfolding lowered_by
lowered_second s n small = grind arith

-- moved samples have 8 bits
pub raised_small : (offset s d : ℕ) → s < 256 → raised_by offset s d < 256
unfolding raised_by
raised_small offset s d small = grind arith

pub lowered_small : (offset s d : ℕ) → s < 256 → lowered_by offset s d < 256
unfolding lowered_by
lowered_small offset s d small = grind arith

-- the tests
pub step_is : (limit p1 p0 q0 q1 : ℕ) → limit < 255 → nat_eq (step_over_of limit p1 p0 q0 q1) 0 ≡ nat_le (abs_diff p0 q0 * 2 + abs_diff p1 q1 / 2) limit
unfolding step_over_of
step_is limit p1 p0 q0 q1 low = grind (arith, nat_tests)

side_is : (limit a b c : ℕ) → nat_eq (max (max a b) c - limit) 0 ≡ (nat_le a limit && nat_le b limit && nat_le c limit)
side_is limit a b c = grind (arith, nat_tests)

both_zero : (a b : ℕ) → nat_eq (sum_of a b) 0 ≡ (nat_eq a 0 && nat_eq b 0)
both_zero a b = grind (arith, nat_tests)

pub varied_is : (threshold : ℕ) (l : Line) → nat_eq (variance_over_of threshold l.p1 l.p0 l.q0 l.q1) 0 ≡ not (has_high_edge_variance threshold l)
unfolding variance_over_of has_high_edge_variance
varied_is threshold l = grind (arith, nat_tests)

sides_are : (limit a b : ℕ) → nat_eq (max a b - limit) 0 ≡ (nat_eq (a - limit) 0 && nat_eq (b - limit) 0)
sides_are limit a b = grind (arith, nat_tests)

and_turned : (d e f : Bool) → (f && e && d) ≡ (d && e && f)
and_turned true true true = refl
and_turned true true false = refl
and_turned true false true = refl
and_turned true false false = refl
and_turned false true true = refl
and_turned false true false = refl
and_turned false false true = refl
and_turned false false false = refl

and_joined : (a b c d e f : Bool) → ((a && b && c) && (f && e && d)) ≡ (a && b && c && d && e && f)
and_joined false b c d e f = refl
and_joined true false c d e f = refl
and_joined true true false d e f = refl
and_joined true true true d e f = and_turned d e f

pub filtered_is : (limits : EdgeLimits) (l : Line) → limits.edge < 255 → nat_eq (excess_of limits l) 0 ≡ is_filtered limits l
unfolding excess_of side_of is_filtered
filtered_is limits l low =
    let within : ℕ → ℕ → Bool = λ (x y : ℕ). nat_le (abs_diff x y) limits.interior in
    rw (both_zero, step_is limits.edge l.p1 l.p0 l.q0 l.q1 low) (ap (λ (b : Bool). is_small_step limits.edge l && b)
    (sides_are limits.interior _ _ ∙ rw (side_is limits.interior (abs_diff l.p3 l.p2) (abs_diff l.p2 l.p1) (abs_diff l.p1 l.p0), side_is limits.interior (abs_diff l.q3 l.q2) (abs_diff l.q2 l.q1) (abs_diff l.q1 l.q0)) (and_joined (within l.p3 l.p2) (within l.p2 l.p1) (within l.p1 l.p0) (within l.q1 l.q0) (within l.q2 l.q1) (within l.q3 l.q2))))
