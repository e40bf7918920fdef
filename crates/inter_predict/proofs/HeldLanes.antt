-- Lanes of 16 bits that are clamped.
use Rattle.std.specs.Prelude.{min, replicate, slice_index}
use Rattle.std.proofs.Common.{◌≡◌, ℕ, ◌+◌, ◌-◌, ◌<◌, ◌/◌, ◌%◌, ◌^◌, Bool, true, false, cond, ltb, leb, List, [], ◌∷◌, map, length, refl, ap, sym, ◌∙◌, arith, w16, Fits}
use lib.Lanes.{Each1, zip2, sel_l}
use Rattle.std.proofs.lemmas.Bool.Decides.{nat_tests}
use Rattle.std.proofs.lemmas.List.{get_or-map}

-- two lists with equal heads and equal tails
pub same_lanes : (x y : ℕ) (xs ys : List ℕ) → x ≡ y → xs ≡ ys → x ∷ xs ≡ y ∷ ys
same_lanes x y xs ys first rest = ap (λ (z : ℕ). z ∷ xs) first ∙ ap (λ (l : List ℕ). y ∷ l) rest

-- the top bit of a mask is the result of the comparison
mask_tells : (b : Bool) → leb 32768 (cond b 65535 0) ≡ b
mask_tells true = refl
mask_tells false = refl

-- one lane of a difference that is clamped at 0
held_rest : (a b : ℕ) → a < 65536 → b < 65536 → (cond (leb 32768 (cond (ltb a b) 65535 0)) b a + (65536 - b)) % 65536 ≡ a - b
held_rest a b small small' = rw mask_tells (grind (arith, nat_tests))

-- all lanes of differences that are clamped at 0
pub clamped_rests : (xs ys : List ℕ) → Each1 (Fits w16) xs → Each1 (Fits w16) ys → zip2 (λ a b. (a + (65536 - b)) % 65536) (sel_l (map (λ m. leb 32768 m) (zip2 (λ a b. cond (ltb a b) 65535 0) xs ys)) ys xs) ys ≡ zip2 (λ a b. a - b) xs ys
clamped_rests [] ys fits fits' = refl
clamped_rests (x ∷ xs) [] fits fits' = refl
clamped_rests (x ∷ xs) (y ∷ ys) fits fits' = same_lanes _ _ _ _ (held_rest x y fits.0.fits fits'.0.fits) (clamped_rests xs ys fits.1 fits'.1)

-- one lane of 128ths, clamped at 32767 and shifted
held_sample : (a : ℕ) → cond (leb 32768 (cond (ltb a 32767) 65535 0)) a 32767 / 128 ≡ min (a / 128) 255
held_sample a = rw mask_tells (grind (arith, nat_tests))

-- lanes of 128ths, clamped at 32767 and shifted
abbrev pub clamped_lanes : ℕ → List ℕ → List ℕ
clamped_lanes n xs = sel_l (map (λ m. leb 32768 m) (zip2 (λ a b. cond (ltb a b) 65535 0) xs (replicate n 32767))) xs (replicate n 32767)

abbrev pub shifted_lanes : ℕ → List ℕ → List ℕ
shifted_lanes n xs = zip2 (λ a b. a / 2 ^ b) (clamped_lanes n xs) (replicate n 7)

clamped_samples : (xs : List ℕ) → shifted_lanes (length xs) xs ≡ map (λ (lane : ℕ). min (lane / 128) 255) xs
clamped_samples [] = refl
clamped_samples (x ∷ xs) = same_lanes _ _ _ _ (held_sample x) (clamped_samples xs)

pub clamped_lane : (n : ℕ) (xs : List ℕ) (lane : ℕ) → length xs ≡ n → lane < n → slice_index (shifted_lanes n xs) lane ≡ min (slice_index xs lane / 128) 255
clamped_lane n xs lane long less =
    ap (λ (k : ℕ). slice_index (shifted_lanes k xs) lane) (sym long)
    ∙ ap (λ (l : List ℕ). slice_index l lane) (clamped_samples xs)
    ∙ get_or-map (λ (value : ℕ). min (value / 128) 255) xs lane 0 0 (omega (arith, long))

-- lanes whose width alone changes
pub as_they_are : (xs : List ℕ) → map (λ (a : ℕ). a) xs ≡ xs
as_they_are [] = refl
as_they_are (x ∷ xs) = same_lanes _ _ _ _ refl (as_they_are xs)
