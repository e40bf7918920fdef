-- The result of each operation on lanes, in one lane.
use Rattle.std.specs.Prelude.{min, max, replicate, slice_index}
use Rattle.std.proofs.Common.{◌≡◌, ℕ, ◌+◌, ◌-◌, ◌*◌, ◌/◌, ◌%◌, ◌^◌, ◌<◌, ◌≤◌, Bool, true, false, cond, ltb, leb, eqb, List, [], ◌∷◌, map, length, refl, sym, ap, subst, ◌∙◌, arith, w8, Fits}
use lib.Lanes.{Each1, zip2, sel_l}
use Rattle.std.proofs.lemmas.Bool.Decides.{nat_tests}
use Rattle.std.proofs.Math.Nat.{mul-le-mul_right}
use Rattle.std.proofs.lemmas.Simd.{get_or-zip2, length-zip2, get_or-sel_l}
use Rattle.std.proofs.lemmas.List.{get_or-replicate, get_or-map, length-map, length-replicate}
use Rattle.loop_filter.specs.Lanes.{sum_of, either_of, adjustment_of}

-- two lists with equal heads and equal tails
same_lanes : (x y : ℕ) (xs ys : List ℕ) → x ≡ y → xs ≡ ys → x ∷ xs ≡ y ∷ ys
same_lanes x y xs ys first rest = ap (λ (z : ℕ). z ∷ xs) first ∙ ap (λ (l : List ℕ). y ∷ l) rest

-- the top bit of a mask is the comparison's result
mask_tells : (b : Bool) → leb 128 (cond b 255 0) ≡ b
mask_tells true = refl
mask_tells false = refl

-- one lane of a sum that is clamped to 255, of a difference that is clamped to 0, and of the greater of two
sum_lane : (a b : ℕ) → a < 256 → (a + cond (leb 128 (cond (ltb b (255 - a)) 255 0)) b (255 - a)) % 256 ≡ min (a + b) 255
sum_lane a b small = rw mask_tells (grind (arith, nat_tests))

rest_lane : (a b : ℕ) → a < 256 → b < 256 → (cond (leb 128 (cond (ltb a b) 255 0)) b a + (256 - b)) % 256 ≡ a - b
rest_lane a b small small' = rw mask_tells (grind (arith, nat_tests))

greater_lane : (a b : ℕ) → cond (leb 128 (cond (ltb a b) 255 0)) b a ≡ max a b
greater_lane a b = rw mask_tells (grind (arith, nat_tests))

-- all of them
sum_lanes : (xs ys : List ℕ) → Each1 (Fits w8) xs → zip2 (λ a b. (a + b) % 256) xs (sel_l (map (λ m. leb 128 m) (zip2 (λ b n. cond (ltb b n) 255 0) ys (map (λ a. 255 - a) xs))) ys (map (λ a. 255 - a) xs)) ≡ zip2 sum_of xs ys
sum_lanes [] ys fits = refl
sum_lanes (x ∷ xs) [] fits = refl
sum_lanes (x ∷ xs) (y ∷ ys) fits = same_lanes _ _ _ _ (sum_lane x y fits.0.fits) (sum_lanes xs ys fits.1)

rest_lanes : (xs ys : List ℕ) → Each1 (Fits w8) xs → Each1 (Fits w8) ys → zip2 (λ a b. (a + (256 - b)) % 256) (sel_l (map (λ m. leb 128 m) (zip2 (λ a b. cond (ltb a b) 255 0) xs ys)) ys xs) ys ≡ zip2 (λ a b. a - b) xs ys
rest_lanes [] ys fits fits' = refl
rest_lanes (x ∷ xs) [] fits fits' = refl
rest_lanes (x ∷ xs) (y ∷ ys) fits fits' = same_lanes _ _ _ _ (rest_lane x y fits.0.fits fits'.0.fits) (rest_lanes xs ys fits.1 fits'.1)

greater_lanes : (xs ys : List ℕ) → sel_l (map (λ m. leb 128 m) (zip2 (λ a b. cond (ltb a b) 255 0) xs ys)) ys xs ≡ zip2 max xs ys
greater_lanes [] ys = refl
greater_lanes (x ∷ xs) [] = refl
greater_lanes (x ∷ xs) (y ∷ ys) = same_lanes _ _ _ _ (greater_lane x y) (greater_lanes xs ys)

-- each of them, at its index
lane2 : (f : ℕ → ℕ → ℕ) (xs ys : List ℕ) (n i : ℕ) → length xs ≡ n → length ys ≡ n → i < n → slice_index (zip2 f xs ys) i ≡ f (slice_index xs i) (slice_index ys i)
lane2 f xs ys n i long long' less = get_or-zip2 f xs ys i 0 0 0 (omega (arith, long)) (omega (arith, long'))

pub sum_at : (xs ys : List ℕ) (n i : ℕ) → (length xs ≡ n) × Each1 (Fits w8) xs → length ys ≡ n → i < n → slice_index (zip2 (λ a b. (a + b) % 256) xs (sel_l (map (λ m. leb 128 m) (zip2 (λ b n. cond (ltb b n) 255 0) ys (map (λ a. 255 - a) xs))) ys (map (λ a. 255 - a) xs))) i ≡ sum_of (slice_index xs i) (slice_index ys i)
sum_at xs ys n i fits long less = ap (λ l. slice_index l i) (sum_lanes xs ys fits.1) ∙ lane2 sum_of xs ys n i fits.0 long less

pub rest_at : (xs ys : List ℕ) (n i : ℕ) → (length xs ≡ n) × Each1 (Fits w8) xs → (length ys ≡ n) × Each1 (Fits w8) ys → i < n → slice_index (zip2 (λ a b. (a + (256 - b)) % 256) (sel_l (map (λ m. leb 128 m) (zip2 (λ a b. cond (ltb a b) 255 0) xs ys)) ys xs) ys) i ≡ slice_index xs i - slice_index ys i
rest_at xs ys n i fits fits' less = ap (λ l. slice_index l i) (rest_lanes xs ys fits.1 fits'.1) ∙ lane2 (λ a b. a - b) xs ys n i fits.0 fits'.0 less

pub greater_at : (xs ys : List ℕ) (n i : ℕ) → length xs ≡ n → length ys ≡ n → i < n → slice_index (sel_l (map (λ m. leb 128 m) (zip2 (λ a b. cond (ltb a b) 255 0) xs ys)) ys xs) i ≡ max (slice_index xs i) (slice_index ys i)
greater_at xs ys n i long long' less = ap (λ l. slice_index l i) (greater_lanes xs ys) ∙ lane2 max xs ys n i long long' less

-- a shift
pub shifted_at : (by : ℕ) (xs : List ℕ) (n i : ℕ) → length xs ≡ n → i < n → slice_index (zip2 (λ a b. a / 2 ^ b) xs (replicate n by)) i ≡ slice_index xs i / 2 ^ by
shifted_at by xs n i long less = lane2 (λ a b. a / 2 ^ b) xs (replicate n by) n i long (length-replicate {A = ℕ} n by) less ∙ ap (λ k. slice_index xs i / 2 ^ k) (get_or-replicate n i by 0 less)

-- a choice by whether a lane is 0
inside : (n i l : ℕ) → l ≡ n → i < n → i < l
inside n i l same less = omega arith

abbrev pub masks : List ℕ → ℕ → List ℕ
masks ts n = zip2 (λ a b. cond (eqb a b) 255 0) ts (replicate n 0)

masks_long : (ts : List ℕ) (n : ℕ) → length ts ≡ n → length (masks ts n) ≡ n
masks_long ts n long = length-zip2 _ ts (replicate n 0) (long ∙ sym (length-replicate {A = ℕ} n 0)) ∙ long

mask_at : (ts : List ℕ) (n i : ℕ) → length ts ≡ n → i < n → slice_index (masks ts n) i ≡ cond (eqb (slice_index ts i) 0) 255 0
mask_at ts n i long less = lane2 (λ a b. cond (eqb a b) 255 0) ts (replicate n 0) n i long (length-replicate {A = ℕ} n 0) less ∙ ap (λ k. cond (eqb (slice_index ts i) k) 255 0) (get_or-replicate n i 0 0 less)

pub either_at : (ts xs ys : List ℕ) (n i : ℕ) → length ts ≡ n → length xs ≡ n → length ys ≡ n → i < n → slice_index (sel_l (map (λ m. leb 128 m) (masks ts n)) xs ys) i ≡ either_of (slice_index ts i) (slice_index xs i) (slice_index ys i)
either_at ts xs ys n i long long' long'' less =
    get_or-sel_l (map (λ m. leb 128 m) (masks ts n)) xs ys i 0 (inside n i _ (length-map (masks ts n) (λ m. leb 128 m) ∙ masks_long ts n long) less) (inside n i _ long' less) (inside n i _ long'' less)
    ∙ ap (λ (b : Bool). cond b (slice_index xs i) (slice_index ys i)) (get_or-map (λ m. leb 128 m) (masks ts n) i 0 false (inside n i _ (masks_long ts n long) less) ∙ ap (leb 128) (mask_at ts n i long less) ∙ mask_tells _)

-- outer adjustments, in lanes of 16 bits
abbrev pub nines : ℕ → List ℕ → List ℕ
nines n xs = zip2 (λ a b. a * b % 65536) (map (λ (a : ℕ). a) xs) (replicate n 9)

abbrev pub plus : List ℕ → List ℕ → List ℕ
plus xs ys = zip2 (λ a b. (a + b) % 65536) xs ys

abbrev pub shifted : ℕ → List ℕ → List ℕ
shifted n xs = zip2 (λ a b. a / 2 ^ b) xs (replicate n 7)

abbrev pub far : ℕ → List ℕ → List ℕ
far n xs = plus (nines n xs) (replicate n 63)

abbrev pub middle : ℕ → List ℕ → List ℕ
middle n xs = plus (far n xs) (nines n xs)

abbrev pub near : ℕ → List ℕ → List ℕ
near n xs = plus (middle n xs) (nines n xs)

far_lane : (x : ℕ) → x < 256 → (x * 9 % 65536 + 63) % 65536 / 128 ≡ adjustment_of 9 x
unfolding adjustment_of
far_lane x small = omega arith

middle_lane : (x : ℕ) → x < 256 → ((x * 9 % 65536 + 63) % 65536 + x * 9 % 65536) % 65536 / 128 ≡ adjustment_of 18 x
unfolding adjustment_of
middle_lane x small = omega arith

near_lane : (x : ℕ) → x < 256 → (((x * 9 % 65536 + 63) % 65536 + x * 9 % 65536) % 65536 + x * 9 % 65536) % 65536 / 128 ≡ adjustment_of 27 x
unfolding adjustment_of
near_lane x small = omega arith

far_lanes : (xs : List ℕ) → Each1 (Fits w8) xs → shifted (length xs) (far (length xs) xs) ≡ map (adjustment_of 9) xs
far_lanes [] fits = refl
far_lanes (x ∷ xs) fits = same_lanes _ _ _ _ (far_lane x fits.0.fits) (far_lanes xs fits.1)

middle_lanes : (xs : List ℕ) → Each1 (Fits w8) xs → shifted (length xs) (middle (length xs) xs) ≡ map (adjustment_of 18) xs
middle_lanes [] fits = refl
middle_lanes (x ∷ xs) fits = same_lanes _ _ _ _ (middle_lane x fits.0.fits) (middle_lanes xs fits.1)

near_lanes : (xs : List ℕ) → Each1 (Fits w8) xs → shifted (length xs) (near (length xs) xs) ≡ map (adjustment_of 27) xs
near_lanes [] fits = refl
near_lanes (x ∷ xs) fits = same_lanes _ _ _ _ (near_lane x fits.0.fits) (near_lanes xs fits.1)

share_small : (k x : ℕ) → k ≤ 27 → x < 256 → adjustment_of k x < 256
unfolding adjustment_of
share_small k x few small =
    let most : x * k ≤ 255 * k = mul-le-mul_right k (omega arith) in
    omega arith

share_fits : (k : ℕ) (xs : List ℕ) → k ≤ 27 → Each1 (Fits w8) xs → Each1 (Fits w8) (map (adjustment_of k) xs)
share_fits k [] few fits = tt
share_fits k (x ∷ xs) few fits = (record { fits = share_small k x few fits.0.fits }, share_fits k xs few fits.1)

-- of n lanes
abbrev pub Shared : ℕ → List ℕ → List ℕ → Type 0
Shared k xs ys = ys ≡ map (adjustment_of k) xs

pub far_shared : (n : ℕ) (xs : List ℕ) → (length xs ≡ n) × Each1 (Fits w8) xs → Shared 9 xs (shifted n (far n xs))
far_shared n xs fits = subst (λ (m : ℕ). Shared 9 xs (shifted m (far m xs))) fits.0 (far_lanes xs fits.1)

pub middle_shared : (n : ℕ) (xs : List ℕ) → (length xs ≡ n) × Each1 (Fits w8) xs → Shared 18 xs (shifted n (middle n xs))
middle_shared n xs fits = subst (λ (m : ℕ). Shared 18 xs (shifted m (middle m xs))) fits.0 (middle_lanes xs fits.1)

pub near_shared : (n : ℕ) (xs : List ℕ) → (length xs ≡ n) × Each1 (Fits w8) xs → Shared 27 xs (shifted n (near n xs))
near_shared n xs fits = subst (λ (m : ℕ). Shared 27 xs (shifted m (near m xs))) fits.0 (near_lanes xs fits.1)

same_map : (xs : List ℕ) → map (λ (a : ℕ). a) xs ≡ xs
same_map [] = refl
same_map (x ∷ xs) = ap (λ (l : List ℕ). x ∷ l) (same_map xs)

pub shares_fit : (k : ℕ) (xs ys : List ℕ) → k ≤ 27 → Each1 (Fits w8) xs → Shared k xs ys → Each1 (Fits w8) ys
shares_fit k xs ys few fits is = rw is (share_fits k xs few fits)

pub shares_at : (k : ℕ) (xs ys : List ℕ) (n i : ℕ) → length xs ≡ n → Shared k xs ys → i < n → slice_index (map (λ (a : ℕ). a) ys) i ≡ adjustment_of k (slice_index xs i)
shares_at k xs ys n i long is less = ap (λ l. slice_index l i) (same_map ys ∙ is) ∙ get_or-map (adjustment_of k) xs i 0 0 (omega (arith, long))
