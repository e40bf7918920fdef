-- The second pass over lanes of 16 bits that are small.
use Rattle.std.proofs.Common.{◌≡◌, ℕ, zero, suc, ◌+◌, ◌*◌, ◌%◌, ◌<◌, List, [], ◌∷◌, ◌++◌, length, map, get_or, refl, ap, ◌∙◌, lit<, arith, ℤ, pos, negsuc, ◌+ℤ◌, ◌-ℤ◌, ◌*ℤ◌, w16, SFits, to_z, of_z}
use Rattle.std.specs.Prelude.{replicate, ◌≤ℤ◌}
use Rattle.std.specs.Int.{int_shr}
use Rattle.std.proofs.lemmas.Int.{ints, to_z-of_z, int_wrap_fits}
use lib.Lanes.{Each1, zip2}
use borrow.Rule.Simd.Lanes.{act2}
use borrow.Table.Row.{s_int}
use mir.Syntax.{shr, signed}
use Rattle.vp8_tables.specs.Bounds.{IsWithin}
use Rattle.transforms.specs.Transforms.{by_sine, by_cosine, dct_pass, eighth, reduced}
use Rattle.transforms.specs.Pairs.{AreSmall, lanes_of, passed_lanes, residual_in}
use Rattle.transforms.proofs.Bits.{Stand, Stand-plus, Stand-of, Stand-fits}
use Rattle.transforms.proofs.Passes.{next_same}
use Rattle.transforms.proofs.PairLanes.{kept, passed_on}

abbrev IsSmall : ℤ → Type 0
IsSmall x = (negsuc 8191 ≤ℤ x) × (x ≤ℤ pos 8191)

-- ---- the numbers of a small lane

within_fits : (y : ℤ) → IsWithin 32767 y → SFits w16 y
within_fits (pos n) within = record { sfits = omega (arith, ints, within.0, within.1) }
within_fits (negsuc n) within = record { sfits = omega (arith, ints, within.0, within.1) }

small_fits : (x : ℤ) → IsSmall x → SFits w16 (x +ℤ pos 4)
small_fits x small = within_fits _ (omega (arith, ints, small.0, small.1), omega (arith, ints, small.0, small.1))

sine_within : (x : ℤ) → IsSmall x → IsWithin 4434 (by_sine x)
unfolding by_sine
sine_within (pos n) small = (omega (arith, ints, small.0, small.1), omega (arith, ints, small.0, small.1))
sine_within (negsuc n) small =
    let product : negsuc n *ℤ pos 35468 ≡ negsuc (35468 * n + 35467) = omega (arith, ints) in
    rw product (omega (arith, ints, small.0, small.1), omega (arith, ints, small.0, small.1))

cosine_within : (x : ℤ) → IsSmall x → IsWithin 10704 (by_cosine x)
unfolding by_cosine
cosine_within (pos n) small = (omega (arith, ints, small.0, small.1), omega (arith, ints, small.0, small.1))
cosine_within (negsuc n) small =
    let product : negsuc n *ℤ pos 20091 ≡ negsuc (20091 * n + 20090) = omega (arith, ints) in
    rw product (omega (arith, ints, small.0, small.1), omega (arith, ints, small.0, small.1))

-- four that is added to the first number is added to each result
pass_plus : (n : ℕ) (x0 x1 x2 x3 : ℤ) → dct_pass n (x0 +ℤ pos 4) x1 x2 x3 ≡ dct_pass n x0 x1 x2 x3 +ℤ pos 4
unfolding dct_pass
pass_plus zero x0 x1 x2 x3 = omega (arith, ints)
pass_plus (suc zero) x0 x1 x2 x3 = omega (arith, ints)
pass_plus (suc (suc zero)) x0 x1 x2 x3 = omega (arith, ints)
pass_plus (suc (suc (suc n))) x0 x1 x2 x3 = omega (arith, ints)

-- the sum of four parts
parts_within : (x0 x2 s t : ℤ) → IsSmall x0 → IsSmall x2 → IsWithin 15138 s → (IsWithin 31522 ((x0 +ℤ x2) +ℤ s)) × (IsWithin 31522 ((x0 -ℤ x2) +ℤ s)) × (IsWithin 31522 ((x0 -ℤ x2) -ℤ s)) × (IsWithin 31522 ((x0 +ℤ x2) -ℤ s))
parts_within x0 x2 s t a b c = (
  (omega (arith, ints, a.0, a.1, b.0, b.1, c.0, c.1), omega (arith, ints, a.0, a.1, b.0, b.1, c.0, c.1)),
  (omega (arith, ints, a.0, a.1, b.0, b.1, c.0, c.1), omega (arith, ints, a.0, a.1, b.0, b.1, c.0, c.1)),
  (omega (arith, ints, a.0, a.1, b.0, b.1, c.0, c.1), omega (arith, ints, a.0, a.1, b.0, b.1, c.0, c.1)),
  (omega (arith, ints, a.0, a.1, b.0, b.1, c.0, c.1), omega (arith, ints, a.0, a.1, b.0, b.1, c.0, c.1)),
)

odd_rest : (x1 x3 : ℤ) → IsSmall x1 → IsSmall x3 → IsWithin 15138 (by_sine x1 -ℤ by_cosine x3)
odd_rest x1 x3 small1 small3 =
    let s = sine_within x1 small1 in
    let t = cosine_within x3 small3 in
    (omega (arith, ints, s.0, s.1, t.0, t.1), omega (arith, ints, s.0, s.1, t.0, t.1))

odd_sum : (x1 x3 : ℤ) → IsSmall x1 → IsSmall x3 → IsWithin 15138 (by_cosine x1 +ℤ by_sine x3)
odd_sum x1 x3 small1 small3 =
    let s = sine_within x3 small3 in
    let t = cosine_within x1 small1 in
    (omega (arith, ints, s.0, s.1, t.0, t.1), omega (arith, ints, s.0, s.1, t.0, t.1))

pass_within : (n : ℕ) (x0 x1 x2 x3 : ℤ) → IsSmall x0 → IsSmall x1 → IsSmall x2 → IsSmall x3 → IsWithin 31522 (dct_pass n x0 x1 x2 x3)
unfolding dct_pass
pass_within zero x0 x1 x2 x3 small0 small1 small2 small3 = (parts_within x0 x2 _ (pos 0) small0 small2 (odd_sum x1 x3 small1 small3)).0
pass_within (suc zero) x0 x1 x2 x3 small0 small1 small2 small3 = (parts_within x0 x2 _ (pos 0) small0 small2 (odd_rest x1 x3 small1 small3)).1
pass_within (suc (suc zero)) x0 x1 x2 x3 small0 small1 small2 small3 = (parts_within x0 x2 _ (pos 0) small0 small2 (odd_rest x1 x3 small1 small3)).2
pass_within (suc (suc (suc n))) x0 x1 x2 x3 small0 small1 small2 small3 = (parts_within x0 x2 _ (pos 0) small0 small2 (odd_sum x1 x3 small1 small3)).3

sum_fits : (z : ℤ) → IsWithin 31522 z → SFits w16 (z +ℤ pos 4)
sum_fits z within = within_fits _ (omega (arith, ints, within.0, within.1), omega (arith, ints, within.0, within.1))

shifted_fits : (y : ℤ) → SFits w16 y → SFits w16 (int_shr y 3)
shifted_fits (pos n) fits = record { sfits = omega (arith, ints, fits.sfits) }
shifted_fits (negsuc n) fits = record { sfits = omega (arith, ints, fits.sfits) }

eighth_fits : (n : ℕ) (x0 x1 x2 x3 : ℤ) → IsSmall x0 → IsSmall x1 → IsSmall x2 → IsSmall x3 → SFits w16 (eighth (dct_pass n x0 x1 x2 x3))
unfolding eighth
eighth_fits n x0 x1 x2 x3 small0 small1 small2 small3 = shifted_fits _ (sum_fits _ (pass_within n x0 x1 x2 x3 small0 small1 small2 small3))

abbrev shift : ℕ → ℕ → ℕ
shift = act2 (shr signed) (s_int w16) (s_int w16) (s_int w16)

-- the residual in one lane
residual_lane : (n : ℕ) (x0 x1 x2 x3 : ℤ) → IsSmall x0 → IsSmall x1 → IsSmall x2 → IsSmall x3 → to_z w16 (shift (of_z w16 (reduced (dct_pass n (to_z w16 ((of_z w16 x0 + 4) % 65536)) x1 x2 x3))) 3) ≡ eighth (dct_pass n x0 x1 x2 x3)
unfolding eighth
residual_lane n x0 x1 x2 x3 small0 small1 small2 small3 =
    let fits0 : SFits w16 x0 = within_fits x0 (omega (arith, ints, small0.0, small0.1), omega (arith, ints, small0.0, small0.1)) in
    let four : Stand w16 4 (pos 4) = Stand-of w16 (pos 4) (record { sfits = lit< tt }) in
    let first : to_z w16 ((of_z w16 x0 + 4) % 65536) ≡ x0 +ℤ pos 4 = Stand-fits w16 _ _ (Stand-plus w16 _ _ _ _ (Stand-of w16 x0 fits0) four) (small_fits x0 small0) in
    let fits = sum_fits _ (pass_within n x0 x1 x2 x3 small0 small1 small2 small3) in
    let whole : reduced (dct_pass n (to_z w16 ((of_z w16 x0 + 4) % 65536)) x1 x2 x3) ≡ dct_pass n x0 x1 x2 x3 +ℤ pos 4 = ap (λ (z : ℤ). reduced (dct_pass n z x1 x2 x3)) first ∙ ap reduced (pass_plus n x0 x1 x2 x3) ∙ int_wrap_fits w16 _ fits in
    ap (λ (z : ℤ). to_z w16 (shift (of_z w16 z) 3)) whole
    ∙ ap (λ (z : ℤ). to_z w16 (of_z w16 (int_shr z 3))) (to_z-of_z w16 _ fits)
    ∙ to_z-of_z w16 _ (shifted_fits _ fits)

-- ---- all lanes

-- number n of the second pass, in lanes
abbrev pub in_eighths : ℕ → ℕ → List ℤ → List ℤ → List ℤ → List ℤ → List ℤ
in_eighths n m v0 v1 v2 v3 = map (to_z w16) (zip2 shift (map (of_z w16) (passed_lanes n (map (to_z w16) (zip2 (λ a b. (a + b) % 65536) (map (of_z w16) v0) (replicate m 4))) v1 v2 v3)) (replicate m 3))

eighths_at : (n m : ℕ) (v0 v1 v2 v3 : List ℤ) → length v0 ≡ m → length v1 ≡ m → length v2 ≡ m → length v3 ≡ m → (k : ℕ) → k < m →
    IsSmall (get_or v0 k (pos 0)) → IsSmall (get_or v1 k (pos 0)) → IsSmall (get_or v2 k (pos 0)) → IsSmall (get_or v3 k (pos 0)) → get_or (in_eighths n m v0 v1 v2 v3) k (pos 0) ≡ residual_in n v0 v1 v2 v3 k
eighths_at n zero v0 v1 v2 v3 long0 long1 long2 long3 k less small0 small1 small2 small3 = absurd (omega arith)
eighths_at n (suc m) [] v1 v2 v3 long0 long1 long2 long3 k less small0 small1 small2 small3 = absurd (omega (arith, long0))
eighths_at n (suc m) (x0 ∷ v0) [] v2 v3 long0 long1 long2 long3 k less small0 small1 small2 small3 = absurd (omega (arith, long1))
eighths_at n (suc m) (x0 ∷ v0) (x1 ∷ v1) [] v3 long0 long1 long2 long3 k less small0 small1 small2 small3 = absurd (omega (arith, long2))
eighths_at n (suc m) (x0 ∷ v0) (x1 ∷ v1) (x2 ∷ v2) [] long0 long1 long2 long3 k less small0 small1 small2 small3 = absurd (omega (arith, long3))
eighths_at n (suc m) (x0 ∷ v0) (x1 ∷ v1) (x2 ∷ v2) (x3 ∷ v3) long0 long1 long2 long3 zero less small0 small1 small2 small3 = residual_lane n x0 x1 x2 x3 small0 small1 small2 small3
eighths_at n (suc m) (x0 ∷ v0) (x1 ∷ v1) (x2 ∷ v2) (x3 ∷ v3) long0 long1 long2 long3 (suc k) less small0 small1 small2 small3 =
    eighths_at n m v0 v1 v2 v3 (omega (arith, long0)) (omega (arith, long1)) (omega (arith, long2)) (omega (arith, long3)) k (omega arith) small0 small1 small2 small3

-- the four numbers of each lane
pub record AreColumns (v0 v1 v2 v3 : List ℤ) : Type 0 where
  pub long0 : length v0 ≡ 8
  pub long1 : length v1 ≡ 8
  pub long2 : length v2 ≡ 8
  pub long3 : length v3 ≡ 8
  pub small0 : AreSmall v0
  pub small1 : AreSmall v1
  pub small2 : AreSmall v2
  pub small3 : AreSmall v3

-- number n of the second pass as it is shifted in the code
abbrev pub shifted : List ℤ → List ℤ
shifted p = map (to_z w16) (zip2 shift (map (of_z w16) p) (replicate 8 3))

-- a result of the second pass
pub record IsPassed (n : ℕ) (v0 v1 v2 v3 p : List ℤ) : Type 0 where
  pub is : p ≡ passed_lanes n (map (to_z w16) (zip2 (λ a b. (a + b) % 65536) (map (of_z w16) v0) (replicate 8 4))) (passed_on v1) (passed_on v2) (passed_on v3)
  pub fits1 : Each1 (SFits w16) v1
  pub fits2 : Each1 (SFits w16) v2
  pub fits3 : Each1 (SFits w16) v3

cell : (n : ℕ) (v0 v1 v2 v3 p : List ℤ) → AreColumns v0 v1 v2 v3 → IsPassed n v0 v1 v2 v3 p → (k : ℕ) → k < 8 → to_z w16 (of_z w16 (get_or (shifted p) k (pos 0))) ≡ residual_in n v0 v1 v2 v3 k
cell n v0 v1 v2 v3 p are passed k less =
    let s0 = are.small0 k less in
    let s1 = are.small1 k less in
    let s2 = are.small2 k less in
    let s3 = are.small3 k less in
    let plain : shifted p ≡ in_eighths n 8 v0 v1 v2 v3 = ap shifted passed.is ∙ rw (kept v1 passed.fits1, kept v2 passed.fits2, kept v3 passed.fits3) refl in
    let at : get_or (shifted p) k (pos 0) ≡ residual_in n v0 v1 v2 v3 k = ap (λ (l : List ℤ). get_or l k (pos 0)) plain ∙ eighths_at n 8 v0 v1 v2 v3 are.long0 are.long1 are.long2 are.long3 k less s0 s1 s2 s3 in
    ap (λ (z : ℤ). to_z w16 (of_z w16 z)) at ∙ to_z-of_z w16 _ (eighth_fits n _ _ _ _ s0 s1 s2 s3)

-- ---- rows of residuals

abbrev picked : List ℤ → List ℤ → ℕ → ℤ
picked t s k = to_z w16 (get_or (map (of_z w16) t ++ map (of_z w16) s) k 0)

-- the results of the second pass over the lanes
pub record AreAll (v0 v1 v2 v3 p0 p1 p2 p3 : List ℤ) : Type 0 where
  pub columns : AreColumns v0 v1 v2 v3
  pub passed0 : IsPassed 0 v0 v1 v2 v3 p0
  pub passed1 : IsPassed 1 v0 v1 v2 v3 p1
  pub passed2 : IsPassed 2 v0 v1 v2 v3 p2
  pub passed3 : IsPassed 3 v0 v1 v2 v3 p3

cells : (v0 v1 v2 v3 p0 p1 p2 p3 : List ℤ) → AreAll v0 v1 v2 v3 p0 p1 p2 p3 → (m n : ℕ) → m < 8 → n < 8 →
    to_z w16 (of_z w16 (get_or (shifted p0) m (pos 0))) ∷ to_z w16 (of_z w16 (get_or (shifted p1) m (pos 0))) ∷ to_z w16 (of_z w16 (get_or (shifted p2) m (pos 0))) ∷ to_z w16 (of_z w16 (get_or (shifted p3) m (pos 0)))
    ∷ to_z w16 (of_z w16 (get_or (shifted p0) n (pos 0))) ∷ to_z w16 (of_z w16 (get_or (shifted p1) n (pos 0))) ∷ to_z w16 (of_z w16 (get_or (shifted p2) n (pos 0))) ∷ to_z w16 (of_z w16 (get_or (shifted p3) n (pos 0))) ∷ []
    ≡ residual_in 0 v0 v1 v2 v3 m ∷ residual_in 1 v0 v1 v2 v3 m ∷ residual_in 2 v0 v1 v2 v3 m ∷ residual_in 3 v0 v1 v2 v3 m ∷ residual_in 0 v0 v1 v2 v3 n ∷ residual_in 1 v0 v1 v2 v3 n ∷ residual_in 2 v0 v1 v2 v3 n ∷ residual_in 3 v0 v1 v2 v3 n ∷ []
cells v0 v1 v2 v3 p0 p1 p2 p3 are m n less less' =
    let columns = are.columns in
    next_same (cell 0 v0 v1 v2 v3 p0 columns are.passed0 m less) (next_same (cell 1 v0 v1 v2 v3 p1 columns are.passed1 m less) (next_same (cell 2 v0 v1 v2 v3 p2 columns are.passed2 m less) (next_same (cell 3 v0 v1 v2 v3 p3 columns are.passed3 m less)
    (next_same (cell 0 v0 v1 v2 v3 p0 columns are.passed0 n less') (next_same (cell 1 v0 v1 v2 v3 p1 columns are.passed1 n less') (next_same (cell 2 v0 v1 v2 v3 p2 columns are.passed2 n less') (next_same (cell 3 v0 v1 v2 v3 p3 columns are.passed3 n less') refl)))))))

-- the lower halves of two transposed vectors, and the upper ones
pub low_row : (v0 v1 v2 v3 p0 p1 p2 p3 t s : List ℤ) (m n m' n' : ℕ) → AreAll v0 v1 v2 v3 p0 p1 p2 p3 → m < 8 → m' < 8 →
    t ≡ lanes_of m n (shifted p0) (shifted p1) (shifted p2) (shifted p3) → s ≡ lanes_of m' n' (shifted p0) (shifted p1) (shifted p2) (shifted p3) →
    picked t s 0 ∷ picked t s 1 ∷ picked t s 2 ∷ picked t s 3 ∷ picked t s 8 ∷ picked t s 9 ∷ picked t s 10 ∷ picked t s 11 ∷ []
    ≡ residual_in 0 v0 v1 v2 v3 m ∷ residual_in 1 v0 v1 v2 v3 m ∷ residual_in 2 v0 v1 v2 v3 m ∷ residual_in 3 v0 v1 v2 v3 m ∷ residual_in 0 v0 v1 v2 v3 m' ∷ residual_in 1 v0 v1 v2 v3 m' ∷ residual_in 2 v0 v1 v2 v3 m' ∷ residual_in 3 v0 v1 v2 v3 m' ∷ []
low_row v0 v1 v2 v3 p0 p1 p2 p3 t s m n m' n' are less less' is is' = rw (is, is') (cells v0 v1 v2 v3 p0 p1 p2 p3 are m m' less less')

pub high_row : (v0 v1 v2 v3 p0 p1 p2 p3 t s : List ℤ) (m n m' n' : ℕ) → AreAll v0 v1 v2 v3 p0 p1 p2 p3 → n < 8 → n' < 8 →
    t ≡ lanes_of m n (shifted p0) (shifted p1) (shifted p2) (shifted p3) → s ≡ lanes_of m' n' (shifted p0) (shifted p1) (shifted p2) (shifted p3) →
    picked t s 4 ∷ picked t s 5 ∷ picked t s 6 ∷ picked t s 7 ∷ picked t s 12 ∷ picked t s 13 ∷ picked t s 14 ∷ picked t s 15 ∷ []
    ≡ residual_in 0 v0 v1 v2 v3 n ∷ residual_in 1 v0 v1 v2 v3 n ∷ residual_in 2 v0 v1 v2 v3 n ∷ residual_in 3 v0 v1 v2 v3 n ∷ residual_in 0 v0 v1 v2 v3 n' ∷ residual_in 1 v0 v1 v2 v3 n' ∷ residual_in 2 v0 v1 v2 v3 n' ∷ residual_in 3 v0 v1 v2 v3 n' ∷ []
high_row v0 v1 v2 v3 p0 p1 p2 p3 t s m n m' n' are less less' is is' = rw (is, is') (cells v0 v1 v2 v3 p0 p1 p2 p3 are n n' less less')
