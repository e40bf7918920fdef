-- Sums and differences of samples in lanes.
use Rattle.std.specs.Prelude.{min, length, replicate}
use Rattle.std.proofs.Common.{◌≡◌, ℕ, ◌+◌, ◌-◌, ◌<◌, ◌≤◌, ◌*◌, ◌%◌, Bool, true, false, cond, ltb, leb, List, [], ◌∷◌, map, inl, inr, pos, negsuc, ◌-ℤ◌, refl, ap, sym, ◌∙◌, arith, w8, Fits}
use lib.Lanes.{Each1, zip2, sel_l, fold_l}
use Rattle.std.proofs.lemmas.Bool.Decides.{nat_tests}
use Rattle.std.proofs.lemmas.Bool.{cases_lt}
use Rattle.std.proofs.lemmas.Int.{ints}
use Rattle.vp8_tables.specs.Bounds.{clamped_sample}
use Rattle.intra_predict.specs.Means.{gradient}

-- two lists with equal heads and equal tails
same_lanes : (x y : ℕ) (xs ys : List ℕ) → x ≡ y → xs ≡ ys → x ∷ xs ≡ y ∷ ys
same_lanes x y xs ys first rest = ap (λ (z : ℕ). z ∷ xs) first ∙ ap (λ (l : List ℕ). y ∷ l) rest

-- the top bit of a mask is the result of the comparison
mask_tells : (b : Bool) → leb 128 (cond b 255 0) ≡ b
mask_tells true = refl
mask_tells false = refl

-- one lane of a sum that is clamped at 255
clamped_sum : (a b : ℕ) → a < 256 → (a + cond (leb 128 (cond (ltb b (255 - a)) 255 0)) b (255 - a)) % 256 ≡ min (a + b) 255
clamped_sum a b small = rw mask_tells (grind (arith, nat_tests))

-- one lane of a difference that is clamped at 0
held_rest : (a b : ℕ) → a < 256 → b < 256 → (cond (leb 128 (cond (ltb a b) 255 0)) b a + (256 - b)) % 256 ≡ a - b
held_rest a b small small' = rw mask_tells (grind (arith, nat_tests))

-- all lanes of sums that are clamped at 255
pub clamped_sums : (xs ys : List ℕ) → Each1 (Fits w8) xs → zip2 (λ a b. (a + b) % 256) xs (sel_l (map (λ m. leb 128 m) (zip2 (λ b n. cond (ltb b n) 255 0) ys (map (λ a. 255 - a) xs))) ys (map (λ a. 255 - a) xs)) ≡ zip2 (λ a b. min (a + b) 255) xs ys
clamped_sums [] ys fits = refl
clamped_sums (x ∷ xs) [] fits = refl
clamped_sums (x ∷ xs) (y ∷ ys) fits = same_lanes _ _ _ _ (clamped_sum x y fits.0.fits) (clamped_sums xs ys fits.1)

-- all lanes of differences that are clamped at 0
pub clamped_rests : (xs ys : List ℕ) → Each1 (Fits w8) xs → Each1 (Fits w8) ys → zip2 (λ a b. (a + (256 - b)) % 256) (sel_l (map (λ m. leb 128 m) (zip2 (λ a b. cond (ltb a b) 255 0) xs ys)) ys xs) ys ≡ zip2 (λ a b. a - b) xs ys
clamped_rests [] ys fits fits' = refl
clamped_rests (x ∷ xs) [] fits fits' = refl
clamped_rests (x ∷ xs) (y ∷ ys) fits fits' = same_lanes _ _ _ _ (held_rest x y fits.0.fits fits'.0.fits) (clamped_rests xs ys fits.1 fits'.1)

-- a difference of natural numbers, clamped
held_difference : (n c : ℕ) → clamped_sample (pos n -ℤ pos c) ≡ min (n - c) 255
held_difference n c =
    elim (cases_lt n c) [
      | inl below ↦
          let less : pos n -ℤ pos c ≡ negsuc (c - n - 1) = omega (arith, ints) in
          let none : 0 ≡ min (n - c) 255 = omega arith in
          ap clamped_sample less ∙ none
      | inr above ↦
          let more : pos n -ℤ pos c ≡ pos (n - c) = omega (arith, ints) in
          ap clamped_sample more
    ]

-- a sample to the left that is moved by the difference above it
moved : (left above corner : ℕ) → left < 256 → min (left + (above - corner)) 255 - (corner - above) ≡ gradient left above corner
unfolding gradient
moved left above corner small = let same : min (left + (above - corner)) 255 - (corner - above) ≡ min (left + above - corner) 255 = grind (arith, nat_tests) in same ∙ sym (held_difference (left + above) corner)

-- a row of them
pub moved_row : (left corner : ℕ) (above : List ℕ) → left < 256
    → zip2 (λ a b. a - b) (zip2 (λ a b. min (a + b) 255) (replicate (length above) left) (zip2 (λ a b. a - b) above (replicate (length above) corner))) (zip2 (λ a b. a - b) (replicate (length above) corner) above)
    ≡ map (λ a. gradient left a corner) above
moved_row left corner [] small = refl
moved_row left corner (x ∷ xs) small = same_lanes _ _ _ _ (moved left x corner small) (moved_row left corner xs small)

-- a sum of few samples, which lanes of 16 bits hold
pub summed : (total : ℕ) (xs : List ℕ) → Each1 (Fits w8) xs → total + 256 * length xs < 65536 → fold_l (λ a b. (a + b) % 65536) total (map (λ a. a) xs) ≡ fold_l (λ a b. a + b) total xs
summed total [] fits few = refl
summed total (x ∷ xs) fits few =
    let small : x < 256 = fits.0.fits in
    let clamped_sample : (total + x) % 65536 ≡ total + x = omega arith in
    ap (λ n. fold_l (λ a b. (a + b) % 65536) n (map (λ a. a) xs)) clamped_sample ∙ summed (total + x) xs fits.1 (omega arith)

-- and it is 255 for each of them at most
pub sum_bounded : (total : ℕ) (xs : List ℕ) → Each1 (Fits w8) xs → fold_l (λ a b. a + b) total xs ≤ total + 255 * length xs
sum_bounded total [] fits = omega arith
sum_bounded total (x ∷ xs) fits =
    let small : x < 256 = fits.0.fits in
    omega (arith, sum_bounded (total + x) xs fits.1)
