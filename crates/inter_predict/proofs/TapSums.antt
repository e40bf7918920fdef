-- Signed taps and sums, as the kernel works them out without signs.
use Rattle.std.specs.Prelude.{min, slice_index_or}
use Rattle.std.specs.Int.{int_shr}
use Rattle.std.proofs.Common.{◌≡◌, ℕ, zero, suc, ◌+◌, ◌-◌, ◌*◌, ◌/◌, ◌<◌, List, [], ◌∷◌, map, ℤ, pos, negsuc, ◌+ℤ◌, ◌-ℤ◌, ◌*ℤ◌, neg_ℤ, refl, ap, ◌∙◌, arith, lit≤}
use Rattle.std.proofs.lemmas.Int.{ints}
use Rattle.vp8_tables.specs.declared.filters.TheConstants.{SIX_TAP_FILTERS, BILINEAR_FILTERS}
use Rattle.vp8_tables.specs.Bounds.{clamped_sample}
use Rattle.inter_predict.specs.InterSample.{weighed, filtered, between}
use Rattle.inter_predict.specs.declared.kinds.Kind.TheVariants.{SixTap, Bilinear}
use Rattle.inter_predict.specs.declared.taps.Taps.{Taps}
use Rattle.inter_predict.specs.declared.taps.TheConstants.{TWO_TAPS}
use Rattle.inter_predict.specs.Kernels.{IsTaps, six_taps, taps_of, tapped}

-- a fact at 0 to 7 holds below 8
pub below_eight : (P : ℕ → Type 0) → P 0 → P 1 → P 2 → P 3 → P 4 → P 5 → P 6 → P 7 → (k : ℕ) → k < 8 → P k
below_eight P at0 at1 at2 at3 at4 at5 at6 at7 zero less = at0
below_eight P at0 at1 at2 at3 at4 at5 at6 at7 (suc zero) less = at1
below_eight P at0 at1 at2 at3 at4 at5 at6 at7 (suc (suc zero)) less = at2
below_eight P at0 at1 at2 at3 at4 at5 at6 at7 (suc (suc (suc zero))) less = at3
below_eight P at0 at1 at2 at3 at4 at5 at6 at7 (suc (suc (suc (suc zero)))) less = at4
below_eight P at0 at1 at2 at3 at4 at5 at6 at7 (suc (suc (suc (suc (suc zero))))) less = at5
below_eight P at0 at1 at2 at3 at4 at5 at6 at7 (suc (suc (suc (suc (suc (suc zero)))))) less = at6
below_eight P at0 at1 at2 at3 at4 at5 at6 at7 (suc (suc (suc (suc (suc (suc (suc zero))))))) less = at7
below_eight P at0 at1 at2 at3 at4 at5 at6 at7 (suc (suc (suc (suc (suc (suc (suc (suc k)))))))) less = absurd (omega arith)

-- a rounded sum, shifted and clamped
shifted : (sum : ℤ) (added taken : ℕ) → sum +ℤ pos taken ≡ pos (added + 64) → clamped_sample (int_shr sum 7) ≡ min ((added + 64 - taken) / 128) 255
shifted (pos n) added taken same = let e : n ≡ added + 64 - taken = omega (arith, ints) in rw (← e) refl
shifted (negsuc n) added taken same = let e : added + 64 - taken ≡ 0 = omega (arith, ints) in rw e refl

-- a tap that is taken away
less_times : (tap x : ℕ) → neg_ℤ (pos tap) *ℤ pos x ≡ neg_ℤ (pos (x * tap))
less_times zero x =
    let left : 0 * x ≡ 0 = omega arith in
    let right : x * 0 ≡ 0 = omega arith in
    rw right (ap pos left)
less_times (suc tap) x = let e : suc tap * x ≡ x * suc tap = grind arith in ap (λ n. neg_ℤ (pos n)) e

-- the taps with their signs
abbrev pub signed_taps : Taps → List ℤ
signed_taps t = pos t.a ∷ neg_ℤ (pos t.b) ∷ pos t.c ∷ pos t.d ∷ neg_ℤ (pos t.e) ∷ pos t.f ∷ []

signed_filtered : (t : Taps) (s : ℕ → ℕ) → filtered (signed_taps t) s ≡ tapped t s
unfolding filtered tapped
signed_filtered t s =
    let a : t.a * s 0 ≡ s 0 * t.a = grind arith in
    let c : t.c * s 2 ≡ s 2 * t.c = grind arith in
    let d : t.d * s 3 ≡ s 3 * t.d = grind arith in
    let f : t.f * s 5 ≡ s 5 * t.f = grind arith in
    let sum : (weighed (signed_taps t) s +ℤ pos 64) +ℤ pos (s 1 * t.b + s 4 * t.e) ≡ pos (s 0 * t.a + s 2 * t.c + s 3 * t.d + s 5 * t.f + 64) = rw (less_times t.b (s 1), less_times t.e (s 4), a, c, d, f) (omega (arith, ints)) in
    shifted _ _ _ sum

-- the rows of the code's tables
abbrev pub two_taps : ℕ → Taps
two_taps eighths = taps_of (slice_index_or TWO_TAPS eighths []) 0

-- they are small
whole_alone : IsTaps (six_taps 0)
whole_alone = record { added = lit≤ tt; taken = lit≤ tt; known = λ some. absurd (omega arith); alone = λ whole. (refl, refl, refl, refl, refl) }

pub six_small : (fraction : ℕ) → fraction < 8 → IsTaps (six_taps fraction)
six_small fraction less =
    below_eight (λ f. IsTaps (six_taps f)) whole_alone
    (record { added = lit≤ tt; taken = lit≤ tt; known = λ some. (omega arith, refl); alone = λ whole. absurd (omega arith) })
    (record { added = lit≤ tt; taken = lit≤ tt; known = λ some. (omega arith, refl); alone = λ whole. absurd (omega arith) })
    (record { added = lit≤ tt; taken = lit≤ tt; known = λ some. (omega arith, refl); alone = λ whole. absurd (omega arith) })
    (record { added = lit≤ tt; taken = lit≤ tt; known = λ some. (omega arith, refl); alone = λ whole. absurd (omega arith) })
    (record { added = lit≤ tt; taken = lit≤ tt; known = λ some. (omega arith, refl); alone = λ whole. absurd (omega arith) })
    (record { added = lit≤ tt; taken = lit≤ tt; known = λ some. (omega arith, refl); alone = λ whole. absurd (omega arith) })
    (record { added = lit≤ tt; taken = lit≤ tt; known = λ some. (omega arith, refl); alone = λ whole. absurd (omega arith) })
    fraction less

-- and return the filter's sample
six_signed : (fraction : ℕ) → fraction < 8 → slice_index_or SIX_TAP_FILTERS fraction [] ≡ signed_taps (six_taps fraction)
six_signed fraction less = below_eight (λ f. slice_index_or SIX_TAP_FILTERS f [] ≡ signed_taps (six_taps f)) refl refl refl refl refl refl refl refl fraction less

pub six_between : (fraction : ℕ) → fraction < 8 → (line : ℤ → ℕ) (place : ℤ) → between SixTap fraction line place ≡ tapped (six_taps fraction) (λ k. line ((place -ℤ pos 2) +ℤ pos k))
unfolding between
six_between fraction less line place =
    let samples : ℕ → ℕ = λ (k : ℕ). line ((place -ℤ pos 2) +ℤ pos k) in
    ap (λ taps. filtered taps samples) (six_signed fraction less) ∙ signed_filtered (six_taps fraction) samples

pub two_small : (fraction : ℕ) → fraction < 8 → IsTaps (two_taps fraction)
two_small fraction less =
    below_eight (λ f. IsTaps (two_taps f)) whole_alone
    (record { added = lit≤ tt; taken = lit≤ tt; known = λ some. absurd (omega arith); alone = λ whole. absurd (omega arith) })
    (record { added = lit≤ tt; taken = lit≤ tt; known = λ some. absurd (omega arith); alone = λ whole. absurd (omega arith) })
    (record { added = lit≤ tt; taken = lit≤ tt; known = λ some. absurd (omega arith); alone = λ whole. absurd (omega arith) })
    (record { added = lit≤ tt; taken = lit≤ tt; known = λ some. absurd (omega arith); alone = λ whole. absurd (omega arith) })
    (record { added = lit≤ tt; taken = lit≤ tt; known = λ some. absurd (omega arith); alone = λ whole. absurd (omega arith) })
    (record { added = lit≤ tt; taken = lit≤ tt; known = λ some. absurd (omega arith); alone = λ whole. absurd (omega arith) })
    (record { added = lit≤ tt; taken = lit≤ tt; known = λ some. absurd (omega arith); alone = λ whole. absurd (omega arith) })
    fraction less

-- the two taps of a bilinear filter are the third and fourth of six
abbrev two_only : ℕ → ℕ → Taps
two_only c d = record { a = 0; b = 0; c = c; d = d; e = 0; f = 0; eighths = 0 }

two_apart : (fraction : ℕ) → fraction < 8 → two_only (two_taps fraction).c (two_taps fraction).d ≡ two_taps fraction
two_apart fraction less =
    let P : ℕ → Type 0 = λ (f : ℕ). two_only (two_taps f).c (two_taps f).d ≡ two_taps f in
    below_eight P refl refl refl refl refl refl refl refl fraction less

two_pair : (fraction : ℕ) → fraction < 8 → slice_index_or BILINEAR_FILTERS fraction [] ≡ (two_taps fraction).c ∷ (two_taps fraction).d ∷ []
two_pair fraction less = below_eight (λ f. slice_index_or BILINEAR_FILTERS f [] ≡ (two_taps f).c ∷ (two_taps f).d ∷ []) refl refl refl refl refl refl refl refl fraction less

two_filtered : (c d : ℕ) (s u : ℕ → ℕ) → u 2 ≡ s 0 → u 3 ≡ s 1 → filtered (map pos (c ∷ d ∷ [])) s ≡ tapped (two_only c d) u
unfolding filtered tapped
two_filtered c d s u here next =
    let one : c * s 0 ≡ u 2 * c = rw here (grind arith) in
    let other : d * s 1 ≡ u 3 * d = rw next (grind arith) in
    let sum : (weighed (map pos (c ∷ d ∷ [])) s +ℤ pos 64) +ℤ pos (u 1 * 0 + u 4 * 0) ≡ pos (u 0 * 0 + u 2 * c + u 3 * d + u 5 * 0 + 64) = rw (one, other) (omega (arith, ints)) in
    shifted (weighed (map pos (c ∷ d ∷ [])) s +ℤ pos 64) (u 0 * 0 + u 2 * c + u 3 * d + u 5 * 0) (u 1 * 0 + u 4 * 0) sum

pub two_between : (fraction : ℕ) → fraction < 8 → (line : ℤ → ℕ) (place : ℤ) → between Bilinear fraction line place ≡ tapped (two_taps fraction) (λ k. line ((place -ℤ pos 2) +ℤ pos k))
unfolding between
two_between fraction less line place =
    let here : (place -ℤ pos 2) +ℤ pos 2 ≡ place +ℤ pos 0 = omega (arith, ints) in
    let next : (place -ℤ pos 2) +ℤ pos 3 ≡ place +ℤ pos 1 = omega (arith, ints) in
    ap (λ taps. filtered (map pos taps) (λ k. line (place +ℤ pos k))) (two_pair fraction less)
    ∙ two_filtered (two_taps fraction).c (two_taps fraction).d (λ k. line (place +ℤ pos k)) (λ k. line ((place -ℤ pos 2) +ℤ pos k)) (ap line here) (ap line next)
    ∙ ap (λ taps. tapped taps (λ k. line ((place -ℤ pos 2) +ℤ pos k))) (two_apart fraction less)
