-- Lanes that all lie within -8,192 to 8,191.
use Rattle.std.proofs.Common.{◌≡◌, ℕ, zero, suc, ◌+◌, ◌*◌, ◌%◌, ◌<◌, ◌≤◌, Bool, not, eqb, eqb-true, true, false, cond, List, [], ◌∷◌, length, map, get_or, refl, ap, sym, ◌∙◌, arith, ℤ, pos, negsuc, w16, SFits, to_z, of_z}
use Rattle.std.specs.Prelude.{replicate, ◌≤ℤ◌}
use Rattle.std.proofs.lemmas.Int.{ints, to_z-of_z}
use Rattle.std.proofs.lemmas.Bool.{true≢false}
use Rattle.std.proofs.lemmas.Simd.{mask_l-mod}
use lib.Lanes.{Each1, zip2, sel_l, mask_l, top}
use lib.Signed.{lt_z}
use borrow.Rule.Simd.Lanes.{act2}
use borrow.Table.Row.{s_int}
use mir.Syntax.{bit_or}
use Rattle.transforms.specs.Pairs.{AreSmall}

-- the bits of a comparison, of the greater of two numbers and of the smaller
abbrev below : ℕ → ℕ → ℕ
below a b = cond (lt_z (to_z w16 a) (to_z w16 b)) 65535 0

abbrev greater : List ℕ → List ℕ → List ℕ
greater xs ys = sel_l (map (top 15) (zip2 below xs ys)) ys xs

abbrev smaller : List ℕ → List ℕ → List ℕ
smaller xs ys = sel_l (map (top 15) (zip2 below xs ys)) xs ys

abbrev either : ℕ → ℕ → ℕ
either = act2 bit_or (s_int w16) (s_int w16) (s_int w16)

abbrev bits_of : List ℤ → List ℕ
bits_of v = map (of_z w16) v

-- the lanes in which one of four numbers lies outside
abbrev pub far_lanes : ℕ → List ℤ → List ℤ → List ℤ → List ℤ → List Bool
far_lanes n v0 v1 v2 v3 = map (top 15) (zip2 either (zip2 below (replicate n 8191) (greater (greater (bits_of v0) (bits_of v1)) (greater (bits_of v2) (bits_of v3)))) (zip2 below (smaller (smaller (bits_of v0) (bits_of v1)) (smaller (bits_of v2) (bits_of v3))) (replicate n 57344)))

mask_top : (b : Bool) → top 15 (cond b 65535 0) ≡ b
mask_top true = refl
mask_top false = refl

-- of numbers
abbrev bigger : ℤ → ℤ → ℤ
bigger x y = cond (lt_z x y) y x

abbrev lesser : ℤ → ℤ → ℤ
lesser x y = cond (lt_z x y) x y

chosen : (b : Bool) (x y : ℤ) → cond b (of_z w16 x) (of_z w16 y) ≡ of_z w16 (cond b x y)
chosen true x y = refl
chosen false x y = refl

chosen_fits : (b : Bool) (x y : ℤ) → SFits w16 x → SFits w16 y → SFits w16 (cond b x y)
chosen_fits true x y fx fy = fx
chosen_fits false x y fx fy = fy

bigger_bits : (x y : ℤ) → SFits w16 x → SFits w16 y → cond (top 15 (below (of_z w16 x) (of_z w16 y))) (of_z w16 y) (of_z w16 x) ≡ of_z w16 (bigger x y)
bigger_bits x y fx fy = rw (to_z-of_z w16 x fx, to_z-of_z w16 y fy, mask_top) (chosen (lt_z x y) y x)

lesser_bits : (x y : ℤ) → SFits w16 x → SFits w16 y → cond (top 15 (below (of_z w16 x) (of_z w16 y))) (of_z w16 x) (of_z w16 y) ≡ of_z w16 (lesser x y)
lesser_bits x y fx fy = rw (to_z-of_z w16 x fx, to_z-of_z w16 y fy, mask_top) (chosen (lt_z x y) x y)

abbrev biggest : ℤ → ℤ → ℤ → ℤ → ℤ
biggest x0 x1 x2 x3 = bigger (bigger x0 x1) (bigger x2 x3)

abbrev least : ℤ → ℤ → ℤ → ℤ → ℤ
least x0 x1 x2 x3 = lesser (lesser x0 x1) (lesser x2 x3)

-- no bit is set if both comparisons fail
none_set : (s t : Bool) → top 15 (either (cond s 65535 0) (cond t 65535 0)) ≡ false → (s ≡ false) × (t ≡ false)
none_set false false clear = (refl, refl)
none_set false true clear = absurd (true≢false clear)
none_set true false clear = absurd (true≢false clear)
none_set true true clear = absurd (true≢false clear)

abbrev IsSmall : ℤ → Type 0
IsSmall x = (negsuc 8191 ≤ℤ x) × (x ≤ℤ pos 8191)

under_bigger : (x y : ℤ) → (x ≤ℤ bigger x y) × (y ≤ℤ bigger x y)
under_bigger x y = (grind (arith, ints), grind (arith, ints))

over_lesser : (x y : ℤ) → (lesser x y ≤ℤ x) × (lesser x y ≤ℤ y)
over_lesser x y = (grind (arith, ints), grind (arith, ints))

not_above : (x : ℤ) → lt_z (pos 8191) x ≡ false → x ≤ℤ pos 8191
not_above x fails = grind (arith, ints)

not_under : (x : ℤ) → lt_z x (negsuc 8191) ≡ false → negsuc 8191 ≤ℤ x
not_under x fails = grind (arith, ints)

-- the bits of a lane of both
abbrev more_bits : ℕ → ℕ → ℕ
more_bits a b = cond (top 15 (below a b)) b a

abbrev less_bits : ℕ → ℕ → ℕ
less_bits a b = cond (top 15 (below a b)) a b

module _ (x0 x1 x2 x3 : ℤ) (fits0 : SFits w16 x0) (fits1 : SFits w16 x1) (fits2 : SFits w16 x2) (fits3 : SFits w16 x3) where
  abbrev most_of : ℕ
  most_of = more_bits (more_bits (of_z w16 x0) (of_z w16 x1)) (more_bits (of_z w16 x2) (of_z w16 x3))

  abbrev least_of : ℕ
  least_of = less_bits (less_bits (of_z w16 x0) (of_z w16 x1)) (less_bits (of_z w16 x2) (of_z w16 x3))

  most_is : to_z w16 most_of ≡ biggest x0 x1 x2 x3
  most_is =
      let f01 = chosen_fits (lt_z x0 x1) x1 x0 fits1 fits0 in
      let f23 = chosen_fits (lt_z x2 x3) x3 x2 fits3 fits2 in
      ap (λ (k : ℕ). to_z w16 (more_bits k (more_bits (of_z w16 x2) (of_z w16 x3)))) (bigger_bits x0 x1 fits0 fits1)
      ∙ ap (λ (k : ℕ). to_z w16 (more_bits (of_z w16 (bigger x0 x1)) k)) (bigger_bits x2 x3 fits2 fits3)
      ∙ ap (to_z w16) (bigger_bits (bigger x0 x1) (bigger x2 x3) f01 f23)
      ∙ to_z-of_z w16 _ (chosen_fits (lt_z (bigger x0 x1) (bigger x2 x3)) (bigger x2 x3) (bigger x0 x1) f23 f01)

  least_is : to_z w16 least_of ≡ least x0 x1 x2 x3
  least_is =
      let f01 = chosen_fits (lt_z x0 x1) x0 x1 fits0 fits1 in
      let f23 = chosen_fits (lt_z x2 x3) x2 x3 fits2 fits3 in
      ap (λ (k : ℕ). to_z w16 (less_bits k (less_bits (of_z w16 x2) (of_z w16 x3)))) (lesser_bits x0 x1 fits0 fits1)
      ∙ ap (λ (k : ℕ). to_z w16 (less_bits (of_z w16 (lesser x0 x1)) k)) (lesser_bits x2 x3 fits2 fits3)
      ∙ ap (to_z w16) (lesser_bits (lesser x0 x1) (lesser x2 x3) f01 f23)
      ∙ to_z-of_z w16 _ (chosen_fits (lt_z (lesser x0 x1) (lesser x2 x3)) (lesser x0 x1) (lesser x2 x3) f01 f23)

  lane_small : top 15 (either (below 8191 most_of) (below least_of 57344)) ≡ false → IsSmall x0 × IsSmall x1 × IsSmall x2 × IsSmall x3
  lane_small clear =
      let both = none_set (lt_z (pos 8191) (to_z w16 most_of)) (lt_z (to_z w16 least_of) (negsuc 8191)) clear in
      let up = not_above (biggest x0 x1 x2 x3) (ap (λ (z : ℤ). lt_z (pos 8191) z) (sym most_is) ∙ both.0) in
      let down = not_under (least x0 x1 x2 x3) (ap (λ (z : ℤ). lt_z z (negsuc 8191)) (sym least_is) ∙ both.1) in
      let u01 = under_bigger x0 x1 in
      let u23 = under_bigger x2 x3 in
      let u = under_bigger (bigger x0 x1) (bigger x2 x3) in
      let o01 = over_lesser x0 x1 in
      let o23 = over_lesser x2 x3 in
      let o = over_lesser (lesser x0 x1) (lesser x2 x3) in
      (both_ends x0 down o.0 o01.0 u01.0 u.0 up, both_ends x1 down o.0 o01.1 u01.1 u.0 up, both_ends x2 down o.1 o23.0 u23.0 u.1 up, both_ends x3 down o.1 o23.1 u23.1 u.1 up)
    where
      both_ends : (x : ℤ) {a b c d : ℤ} → negsuc 8191 ≤ℤ a → a ≤ℤ b → b ≤ℤ x → x ≤ℤ c → c ≤ℤ d → d ≤ℤ pos 8191 → IsSmall x
      both_ends x h0 h1 h2 h3 h4 h5 = (omega (arith, ints), omega (arith, ints))

-- no lane is set
unset : (b : Bool) (n : ℕ) → cond b 1 0 + 2 * n ≡ 0 → (b ≡ false) × (n ≡ 0)
unset true n clear = absurd (omega (arith, clear))
unset false n clear = (refl, omega (arith, clear))

abbrev AllSmall : ℕ → List ℤ → List ℤ → List ℤ → List ℤ → Type 0
AllSmall k v0 v1 v2 v3 = IsSmall (get_or v0 k (pos 0)) × IsSmall (get_or v1 k (pos 0)) × IsSmall (get_or v2 k (pos 0)) × IsSmall (get_or v3 k (pos 0))

all_small : (n : ℕ) (v0 v1 v2 v3 : List ℤ) → length v0 ≡ n → length v1 ≡ n → length v2 ≡ n → length v3 ≡ n → Each1 (SFits w16) v0 → Each1 (SFits w16) v1 → Each1 (SFits w16) v2 → Each1 (SFits w16) v3 →
    mask_l (far_lanes n v0 v1 v2 v3) ≡ 0 → (k : ℕ) → k < n → AllSmall k v0 v1 v2 v3
all_small zero v0 v1 v2 v3 long0 long1 long2 long3 fits0 fits1 fits2 fits3 clear k less = absurd (omega arith)
all_small (suc n) [] v1 v2 v3 long0 long1 long2 long3 fits0 fits1 fits2 fits3 clear k less = absurd (omega (arith, long0))
all_small (suc n) (x0 ∷ v0) [] v2 v3 long0 long1 long2 long3 fits0 fits1 fits2 fits3 clear k less = absurd (omega (arith, long1))
all_small (suc n) (x0 ∷ v0) (x1 ∷ v1) [] v3 long0 long1 long2 long3 fits0 fits1 fits2 fits3 clear k less = absurd (omega (arith, long2))
all_small (suc n) (x0 ∷ v0) (x1 ∷ v1) (x2 ∷ v2) [] long0 long1 long2 long3 fits0 fits1 fits2 fits3 clear k less = absurd (omega (arith, long3))
all_small (suc n) (x0 ∷ v0) (x1 ∷ v1) (x2 ∷ v2) (x3 ∷ v3) long0 long1 long2 long3 fits0 fits1 fits2 fits3 clear zero less = lane_small x0 x1 x2 x3 fits0.0 fits1.0 fits2.0 fits3.0 (unset _ (mask_l (far_lanes n v0 v1 v2 v3)) clear).0
all_small (suc n) (x0 ∷ v0) (x1 ∷ v1) (x2 ∷ v2) (x3 ∷ v3) long0 long1 long2 long3 fits0 fits1 fits2 fits3 clear (suc k) less =
    all_small n v0 v1 v2 v3 (omega (arith, long0)) (omega (arith, long1)) (omega (arith, long2)) (omega (arith, long3)) fits0.1 fits1.1 fits2.1 fits3.1 (unset _ (mask_l (far_lanes n v0 v1 v2 v3)) clear).1 k (omega arith)

far_length : (n : ℕ) (v0 v1 v2 v3 : List ℤ) → length (far_lanes n v0 v1 v2 v3) ≤ n
far_length zero v0 v1 v2 v3 = omega arith
far_length (suc n) [] v1 v2 v3 = omega arith
far_length (suc n) (x0 ∷ v0) [] v2 v3 = omega arith
far_length (suc n) (x0 ∷ v0) (x1 ∷ v1) [] v3 = omega arith
far_length (suc n) (x0 ∷ v0) (x1 ∷ v1) (x2 ∷ v2) [] = omega arith
far_length (suc n) (x0 ∷ v0) (x1 ∷ v1) (x2 ∷ v2) (x3 ∷ v3) = let le = far_length n v0 v1 v2 v3 in omega (arith, le)

not_not : (b : Bool) → not (not b) ≡ true → b ≡ true
not_not true is = refl
not_not false is = absurd (true≢false (sym is))

pub small_lanes : (v0 v1 v2 v3 : List ℤ) → length v0 ≡ 8 → length v1 ≡ 8 → length v2 ≡ 8 → length v3 ≡ 8 → Each1 (SFits w16) v0 → Each1 (SFits w16) v1 → Each1 (SFits w16) v2 → Each1 (SFits w16) v3 →
    not (not (eqb (mask_l (far_lanes 8 v0 v1 v2 v3) % 18446744073709551616) 0)) ≡ true → AreSmall v0 × AreSmall v1 × AreSmall v2 × AreSmall v3
small_lanes v0 v1 v2 v3 long0 long1 long2 long3 fits0 fits1 fits2 fits3 is =
    let le = far_length 8 v0 v1 v2 v3 in
    let clear : mask_l (far_lanes 8 v0 v1 v2 v3) ≡ 0 = sym (mask_l-mod (far_lanes 8 v0 v1 v2 v3) 64 (omega (arith, le))) ∙ eqb-true _ 0 (not_not _ is) in
    let all = all_small 8 v0 v1 v2 v3 long0 long1 long2 long3 fits0 fits1 fits2 fits3 clear in
    ((λ k less. (all k less).0), (λ k less. (all k less).1), (λ k less. (all k less).2), (λ k less. (all k less).3))
