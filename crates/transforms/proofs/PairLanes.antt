-- Lanes of two blocks in the passes of the inverse DCT.
use Rattle.std.proofs.Common.{◌≡◌, ℕ, zero, suc, ◌+◌, ◌-◌, ◌*◌, ◌%◌, ◌<◌, List, [], ◌∷◌, ◌++◌, length, map, get_or, refl, ap, ◌∙◌, arith, ℤ, pos, ◌+ℤ◌, ◌-ℤ◌, w16, w32, SFits, to_z, of_z}
use Rattle.std.specs.Prelude.{replicate}
use Rattle.std.proofs.lemmas.Int.{to_z-of_z, SFits-int_wrap}
use Rattle.std.proofs.lemmas.List.{get_or_append_left, get_or-append_right, get_or-map, length-map}
use Rattle.std.proofs.lemmas.Simd.{Each1-get_or}
use lib.Lanes.{Each1, zip2}
use borrow.Rule.Simd.Lanes.{act2}
use borrow.Table.Row.{s_int}
use mir.Syntax.{shr, signed}
use mir.ValLaws.{of_z_fits}
use borrow.Author.Gap.{read_sfits}
use Rattle.transforms.specs.Transforms.{by_sine, by_cosine, dct_pass, dct_column, reduced}
use Rattle.transforms.specs.Pairs.{pair_row, pair_column, passed_lanes, lanes_of}
use Rattle.transforms.proofs.Passes.{next_same}
use Rattle.transforms.proofs.Bits.{Stand, Stand-plus, Stand-minus, Stand-of, sine_product, cosine_product}
use Rattle.transforms.proofs.Columns.{shifted_small, sine_factor, cosine_factor, sine_stands, cosine_stands, lane}

-- lanes that are passed to a function keep their numbers
pub kept : (xs : List ℤ) → Each1 (SFits w16) xs → map (to_z w16) (map (of_z w16) xs) ≡ xs
kept [] fits = refl
kept (x ∷ xs) fits = next_same (to_z-of_z w16 x fits.0) (kept xs fits.1)

-- ---- lanes times a factor

-- the products by the bits k, in 65,536ths
abbrev pub products : ℕ → ℕ → List ℤ → List ℕ
products n k xs = zip2 (act2 (shr signed) (s_int w32) (s_int w32) (s_int w32)) (zip2 (λ a b. a * b % 4294967296) (map (λ a. of_z w32 (to_z w16 a)) (map (of_z w16) xs)) (replicate n k)) (replicate n 16)

-- the lanes and their products
abbrev pub more_lanes : ℕ → ℕ → List ℤ → List ℤ
more_lanes n k xs = map (to_z w16) (zip2 (λ a b. (a + b) % 65536) (map (of_z w16) xs) (map (λ a. of_z w16 (to_z w32 a)) (products n k xs)))

more_of : (k : ℕ) (f : ℤ → ℤ) → ((x : ℤ) → SFits w16 x → Stand w16 ((of_z w16 x + of_z w16 (to_z w32 (act2 (shr signed) (s_int w32) (s_int w32) (s_int w32) (of_z w32 (to_z w16 (of_z w16 x)) * k % 4294967296) 16))) % 65536) (f x)) →
    (n : ℕ) (xs : List ℤ) → length xs ≡ n → Each1 (SFits w16) xs → more_lanes n k xs ≡ map (λ x. reduced (f x)) xs
more_of k f stands n [] long fits = refl
more_of k f stands zero (x ∷ xs) long fits = absurd (omega (arith, long))
more_of k f stands (suc n) (x ∷ xs) long fits = next_same (stands x fits.0).is (more_of k f stands n xs (omega (arith, long)) fits.1)

pub sine_lanes : (xs : List ℤ) → length xs ≡ 8 → Each1 (SFits w16) xs → more_lanes 8 4294937228 xs ≡ map (λ x. reduced (by_sine x)) xs
sine_lanes = more_of 4294937228 by_sine sine_stands 8

pub cosine_lanes : (xs : List ℤ) → length xs ≡ 8 → Each1 (SFits w16) xs → more_lanes 8 20091 xs ≡ map (λ x. reduced (by_cosine x)) xs
cosine_lanes = more_of 20091 by_cosine cosine_stands 8

-- each product has 16 bits
products_of : (k : ℕ) → ((x : ℤ) → SFits w16 x → SFits w16 (to_z w32 (act2 (shr signed) (s_int w32) (s_int w32) (s_int w32) (of_z w32 (to_z w16 (of_z w16 x)) * k % 4294967296) 16))) →
    (n : ℕ) (xs : List ℤ) → length xs ≡ n → Each1 (SFits w16) xs → Each1 (λ a. SFits w16 (to_z w32 a)) (products n k xs)
products_of k small n [] long fits = tt
products_of k small zero (x ∷ xs) long fits = absurd (omega (arith, long))
products_of k small (suc n) (x ∷ xs) long fits = (small x fits.0, products_of k small n xs (omega (arith, long)) fits.1)

pub sine_products : (xs : List ℤ) → length xs ≡ 8 → Each1 (SFits w16) xs → Each1 (λ a. SFits w16 (to_z w32 a)) (products 8 4294937228 xs)
sine_products = products_of 4294937228 (λ x fits. shifted_small _ _ x fits sine_factor (sine_product x fits)) 8

pub cosine_products : (xs : List ℤ) → length xs ≡ 8 → Each1 (SFits w16) xs → Each1 (λ a. SFits w16 (to_z w32 a)) (products 8 20091 xs)
cosine_products = products_of 20091 (λ x fits. shifted_small _ _ x fits cosine_factor (cosine_product x fits)) 8

-- ---- a pass

Stand-reduced : (z : ℤ) → Stand w16 (of_z w16 (reduced z)) z
Stand-reduced z = record { below = (of_z_fits w16 (reduced z) (SFits-int_wrap w16 z)).fits; is = to_z-of_z w16 (reduced z) (SFits-int_wrap w16 z) }

abbrev sum : ℕ → ℕ → ℕ
sum a b = (a + b) % 65536

abbrev rest : ℕ → ℕ → ℕ
rest a b = (a + (65536 - b)) % 65536

abbrev of_sine : ℤ → ℤ
of_sine x = reduced (by_sine x)

abbrev of_cosine : ℤ → ℤ
of_cosine x = reduced (by_cosine x)

module _ (x0 x1 x2 x3 : ℤ) (fits0 : SFits w16 x0) (fits2 : SFits w16 x2) where
  even_sum : Stand w16 (sum (of_z w16 x0) (of_z w16 x2)) (x0 +ℤ x2)
  even_sum = Stand-plus w16 _ _ _ _ (Stand-of w16 x0 fits0) (Stand-of w16 x2 fits2)

  even_rest : Stand w16 (rest (of_z w16 x0) (of_z w16 x2)) (x0 -ℤ x2)
  even_rest = Stand-minus w16 _ _ _ _ (Stand-of w16 x0 fits0) (Stand-of w16 x2 fits2)

  odd_rest : Stand w16 (rest (of_z w16 (of_sine x1)) (of_z w16 (of_cosine x3))) (by_sine x1 -ℤ by_cosine x3)
  odd_rest = Stand-minus w16 _ _ _ _ (Stand-reduced (by_sine x1)) (Stand-reduced (by_cosine x3))

  odd_sum : Stand w16 (sum (of_z w16 (of_cosine x1)) (of_z w16 (of_sine x3))) (by_cosine x1 +ℤ by_sine x3)
  odd_sum = Stand-plus w16 _ _ _ _ (Stand-reduced (by_cosine x1)) (Stand-reduced (by_sine x3))

  lane0 : to_z w16 (sum (sum (of_z w16 x0) (of_z w16 x2)) (sum (of_z w16 (of_cosine x1)) (of_z w16 (of_sine x3)))) ≡ reduced (dct_pass 0 x0 x1 x2 x3)
  unfolding dct_pass
  lane0 = (Stand-plus w16 _ _ _ _ even_sum odd_sum).is

  lane1 : to_z w16 (sum (rest (of_z w16 x0) (of_z w16 x2)) (rest (of_z w16 (of_sine x1)) (of_z w16 (of_cosine x3)))) ≡ reduced (dct_pass 1 x0 x1 x2 x3)
  unfolding dct_pass
  lane1 = (Stand-plus w16 _ _ _ _ even_rest odd_rest).is

  lane2 : to_z w16 (rest (rest (of_z w16 x0) (of_z w16 x2)) (rest (of_z w16 (of_sine x1)) (of_z w16 (of_cosine x3)))) ≡ reduced (dct_pass 2 x0 x1 x2 x3)
  unfolding dct_pass
  lane2 = (Stand-minus w16 _ _ _ _ even_rest odd_rest).is

  lane3 : to_z w16 (rest (sum (of_z w16 x0) (of_z w16 x2)) (sum (of_z w16 (of_cosine x1)) (of_z w16 (of_sine x3)))) ≡ reduced (dct_pass 3 x0 x1 x2 x3)
  unfolding dct_pass
  lane3 = (Stand-minus w16 _ _ _ _ even_sum odd_sum).is

-- the numbers of all lanes, if those of each are the numbers of a pass
passed_by : (n : ℕ) (f g h : ℕ → ℕ → ℕ) (s t : ℤ → ℤ) → ((x0 x1 x2 x3 : ℤ) → SFits w16 x0 → SFits w16 x2 → to_z w16 (f (g (of_z w16 x0) (of_z w16 x2)) (h (of_z w16 (s x1)) (of_z w16 (t x3)))) ≡ reduced (dct_pass n x0 x1 x2 x3)) →
    (v0 v1 v2 v3 : List ℤ) → Each1 (SFits w16) v0 → Each1 (SFits w16) v2 →
    map (to_z w16) (zip2 f (zip2 g (map (of_z w16) v0) (map (of_z w16) v2)) (zip2 h (map (of_z w16) (map s v1)) (map (of_z w16) (map t v3)))) ≡ passed_lanes n v0 v1 v2 v3
passed_by n f g h s t each [] v1 v2 v3 fits0 fits2 = refl
passed_by n f g h s t each (x0 ∷ v0) [] [] v3 fits0 fits2 = refl
passed_by n f g h s t each (x0 ∷ v0) [] (x2 ∷ v2) v3 fits0 fits2 = refl
passed_by n f g h s t each (x0 ∷ v0) (x1 ∷ v1) [] v3 fits0 fits2 = refl
passed_by n f g h s t each (x0 ∷ v0) (x1 ∷ v1) (x2 ∷ v2) [] fits0 fits2 = refl
passed_by n f g h s t each (x0 ∷ v0) (x1 ∷ v1) (x2 ∷ v2) (x3 ∷ v3) fits0 fits2 = next_same (each x0 x1 x2 x3 fits0.0 fits2.0) (passed_by n f g h s t each v0 v1 v2 v3 fits0.1 fits2.1)

pub passed0 : (v0 v1 v2 v3 : List ℤ) → Each1 (SFits w16) v0 → Each1 (SFits w16) v2 →
    map (to_z w16) (zip2 sum (zip2 sum (map (of_z w16) v0) (map (of_z w16) v2)) (zip2 sum (map (of_z w16) (map of_cosine v1)) (map (of_z w16) (map of_sine v3)))) ≡ passed_lanes 0 v0 v1 v2 v3
passed0 = passed_by 0 sum sum sum of_cosine of_sine lane0

pub passed1 : (v0 v1 v2 v3 : List ℤ) → Each1 (SFits w16) v0 → Each1 (SFits w16) v2 →
    map (to_z w16) (zip2 sum (zip2 rest (map (of_z w16) v0) (map (of_z w16) v2)) (zip2 rest (map (of_z w16) (map of_sine v1)) (map (of_z w16) (map of_cosine v3)))) ≡ passed_lanes 1 v0 v1 v2 v3
passed1 = passed_by 1 sum rest rest of_sine of_cosine lane1

pub passed2 : (v0 v1 v2 v3 : List ℤ) → Each1 (SFits w16) v0 → Each1 (SFits w16) v2 →
    map (to_z w16) (zip2 rest (zip2 rest (map (of_z w16) v0) (map (of_z w16) v2)) (zip2 rest (map (of_z w16) (map of_sine v1)) (map (of_z w16) (map of_cosine v3)))) ≡ passed_lanes 2 v0 v1 v2 v3
passed2 = passed_by 2 rest rest rest of_sine of_cosine lane2

pub passed3 : (v0 v1 v2 v3 : List ℤ) → Each1 (SFits w16) v0 → Each1 (SFits w16) v2 →
    map (to_z w16) (zip2 rest (zip2 sum (map (of_z w16) v0) (map (of_z w16) v2)) (zip2 sum (map (of_z w16) (map of_cosine v1)) (map (of_z w16) (map of_sine v3)))) ≡ passed_lanes 3 v0 v1 v2 v3
passed3 = passed_by 3 rest sum sum of_cosine of_sine lane3

-- ---- vectors that are transposed

lane_same : (x : ℤ) → SFits w16 x → lane (of_z w16 x) ≡ x
lane_same x fits =
    let same = to_z-of_z w16 x fits in
    ap (λ (z : ℤ). to_z w16 (of_z w16 (to_z w16 (of_z w16 z)))) same ∙ ap (λ (z : ℤ). to_z w16 (of_z w16 z)) same ∙ same

-- a lane of the first of two vectors that are interleaved twice, and one of the second
first_lane : (v w : List ℤ) (m : ℕ) → length v ≡ 8 → Each1 (SFits w16) v → m < 8 → lane (get_or (map (of_z w16) v ++ map (of_z w16) w) m 0) ≡ get_or v m (pos 0)
first_lane v w m long fits less =
    let inside : m < length v = omega (arith, long, less) in
    let is : get_or (map (of_z w16) v ++ map (of_z w16) w) m 0 ≡ of_z w16 (get_or v m (pos 0)) = get_or_append_left (map (of_z w16) v) (map (of_z w16) w) 0 m (rw (length-map v (of_z w16)) inside) ∙ get_or-map (of_z w16) v m (pos 0) 0 inside in
    ap lane is ∙ lane_same _ (Each1-get_or (SFits w16) v m (pos 0) inside fits)

second_lane : (v w : List ℤ) (m : ℕ) → length v ≡ 8 → length w ≡ 8 → Each1 (SFits w16) w → m < 8 → lane (get_or (map (of_z w16) v ++ map (of_z w16) w) (m + 8) 0) ≡ get_or w m (pos 0)
second_lane v w m long long' fits less =
    let inside : m < length w = omega (arith, long', less) in
    let at : m + 8 - 8 ≡ m = omega arith in
    let is : get_or (map (of_z w16) v ++ map (of_z w16) w) (m + 8) 0 ≡ of_z w16 (get_or w m (pos 0)) = get_or-append_right (map (of_z w16) v) (map (of_z w16) w) 8 (m + 8) 0 (length-map v (of_z w16) ∙ long) (omega arith) ∙ ap (λ (k : ℕ). get_or (map (of_z w16) w) k 0) at ∙ get_or-map (of_z w16) w m (pos 0) 0 inside in
    ap lane is ∙ lane_same _ (Each1-get_or (SFits w16) w m (pos 0) inside fits)

abbrev IsVector : List ℤ → Type 0
IsVector v = (length v ≡ 8) × Each1 (SFits w16) v

abbrev joined : List ℤ → List ℤ → ℕ → ℤ
joined v w m = lane (get_or (map (of_z w16) v ++ map (of_z w16) w) m 0)

pub turned_lanes : (v0 v1 v2 v3 : List ℤ) (m n : ℕ) → IsVector v0 → IsVector v1 → IsVector v2 → IsVector v3 → m < 8 → n < 8 →
    joined v0 v2 m ∷ joined v1 v3 m ∷ joined v0 v2 (m + 8) ∷ joined v1 v3 (m + 8) ∷ joined v0 v2 n ∷ joined v1 v3 n ∷ joined v0 v2 (n + 8) ∷ joined v1 v3 (n + 8) ∷ [] ≡ lanes_of m n v0 v1 v2 v3
turned_lanes v0 v1 v2 v3 m n is0 is1 is2 is3 less less' =
    next_same (first_lane v0 v2 m is0.0 is0.1 less) (next_same (first_lane v1 v3 m is1.0 is1.1 less) (next_same (second_lane v0 v2 m is0.0 is2.0 is2.1 less) (next_same (second_lane v1 v3 m is1.0 is3.0 is3.1 less)
    (next_same (first_lane v0 v2 n is0.0 is0.1 less') (next_same (first_lane v1 v3 n is1.0 is1.1 less') (next_same (second_lane v0 v2 n is0.0 is2.0 is2.1 less') (next_same (second_lane v1 v3 n is1.0 is3.0 is3.1 less') refl)))))))

-- ---- lanes that fit

pub read_lanes : (xs : List ℕ) → Each1 (SFits w16) (map (to_z w16) xs)
read_lanes [] = tt
read_lanes (x ∷ xs) = (read_sfits w16 x, read_lanes xs)

pub passed_fit : (n : ℕ) (v0 v1 v2 v3 : List ℤ) → Each1 (SFits w16) (passed_lanes n v0 v1 v2 v3)
passed_fit n [] v1 v2 v3 = tt
passed_fit n (x0 ∷ v0) [] v2 v3 = tt
passed_fit n (x0 ∷ v0) (x1 ∷ v1) [] v3 = tt
passed_fit n (x0 ∷ v0) (x1 ∷ v1) (x2 ∷ v2) [] = tt
passed_fit n (x0 ∷ v0) (x1 ∷ v1) (x2 ∷ v2) (x3 ∷ v3) = (SFits-int_wrap w16 _, passed_fit n v0 v1 v2 v3)

-- ---- the columns after the first pass

abbrev pub passed_on : List ℤ → List ℤ
passed_on xs = map (to_z w16) (map (of_z w16) xs)

-- number n of the first pass over the rows of both blocks
abbrev pub in_rows : ℕ → List ℤ → List ℤ → List ℤ
in_rows n f s = passed_lanes n (pair_row f s 0) (pair_row f s 1) (pair_row f s 2) (pair_row f s 3)

in_rows_fit : (n : ℕ) (f s : List ℤ) → Each1 (SFits w16) (in_rows n f s)
in_rows_fit n f s = passed_fit n (pair_row f s 0) (pair_row f s 1) (pair_row f s 2) (pair_row f s 3)

pub rows_passed : (n : ℕ) (f s r0 r1 r2 r3 p : List ℤ) → Each1 (SFits w16) r0 → Each1 (SFits w16) r1 → Each1 (SFits w16) r2 → Each1 (SFits w16) r3 → r0 ≡ pair_row f s 0 → r1 ≡ pair_row f s 1 → r2 ≡ pair_row f s 2 → r3 ≡ pair_row f s 3 →
    p ≡ passed_lanes n (passed_on r0) (passed_on r1) (passed_on r2) (passed_on r3) → p ≡ in_rows n f s
rows_passed n f s r0 r1 r2 r3 p fits0 fits1 fits2 fits3 is0 is1 is2 is3 is =
    is ∙ ap (λ (l : List ℤ). passed_lanes n l (passed_on r1) (passed_on r2) (passed_on r3)) (kept r0 fits0 ∙ is0) ∙ ap (λ (l : List ℤ). passed_lanes n (pair_row f s 0) l (passed_on r2) (passed_on r3)) (kept r1 fits1 ∙ is1)
    ∙ ap (λ (l : List ℤ). passed_lanes n (pair_row f s 0) (pair_row f s 1) l (passed_on r3)) (kept r2 fits2 ∙ is2) ∙ ap (λ (l : List ℤ). passed_lanes n (pair_row f s 0) (pair_row f s 1) (pair_row f s 2) l) (kept r3 fits3 ∙ is3)

-- transposed vectors whose numbers are known
pub turned_from : (m n : ℕ) (p0 p1 p2 p3 q0 q1 q2 q3 : List ℤ) → Each1 (SFits w16) q0 → Each1 (SFits w16) q1 → Each1 (SFits w16) q2 → Each1 (SFits w16) q3 → p0 ≡ q0 → p1 ≡ q1 → p2 ≡ q2 → p3 ≡ q3 →
    lanes_of m n (passed_on p0) (passed_on p1) (passed_on p2) (passed_on p3) ≡ lanes_of m n q0 q1 q2 q3
turned_from m n p0 p1 p2 p3 q0 q1 q2 q3 fits0 fits1 fits2 fits3 is0 is1 is2 is3 =
    let k0 : passed_on p0 ≡ q0 = rw is0 (kept q0 fits0) in
    let k1 : passed_on p1 ≡ q1 = rw is1 (kept q1 fits1) in
    let k2 : passed_on p2 ≡ q2 = rw is2 (kept q2 fits2) in
    let k3 : passed_on p3 ≡ q3 = rw is3 (kept q3 fits3) in
    ap (λ (l : List ℤ). lanes_of m n l (passed_on p1) (passed_on p2) (passed_on p3)) k0 ∙ ap (λ (l : List ℤ). lanes_of m n q0 l (passed_on p2) (passed_on p3)) k1
    ∙ ap (λ (l : List ℤ). lanes_of m n q0 q1 l (passed_on p3)) k2 ∙ ap (λ (l : List ℤ). lanes_of m n q0 q1 q2 l) k3

-- the four vectors after the first pass, transposed
pub record ArePassed (f s p0 p1 p2 p3 : List ℤ) : Type 0 where
  pub is0 : p0 ≡ in_rows 0 f s
  pub is1 : p1 ≡ in_rows 1 f s
  pub is2 : p2 ≡ in_rows 2 f s
  pub is3 : p3 ≡ in_rows 3 f s

turned_rows : (m n : ℕ) (f s p0 p1 p2 p3 : List ℤ) → ArePassed f s p0 p1 p2 p3 → lanes_of m n (passed_on p0) (passed_on p1) (passed_on p2) (passed_on p3) ≡ lanes_of m n (in_rows 0 f s) (in_rows 1 f s) (in_rows 2 f s) (in_rows 3 f s)
turned_rows m n f s p0 p1 p2 p3 are = turned_from m n p0 p1 p2 p3 (in_rows 0 f s) (in_rows 1 f s) (in_rows 2 f s) (in_rows 3 f s) (in_rows_fit 0 f s) (in_rows_fit 1 f s) (in_rows_fit 2 f s) (in_rows_fit 3 f s) are.is0 are.is1 are.is2 are.is3

pub column0 : (f s p0 p1 p2 p3 : List ℤ) → ArePassed f s p0 p1 p2 p3 → lanes_of 0 1 (passed_on p0) (passed_on p1) (passed_on p2) (passed_on p3) ≡ pair_column f s 0
unfolding dct_column
column0 f s p0 p1 p2 p3 are = turned_rows 0 1 f s p0 p1 p2 p3 are

pub column1 : (f s p0 p1 p2 p3 : List ℤ) → ArePassed f s p0 p1 p2 p3 → lanes_of 2 3 (passed_on p0) (passed_on p1) (passed_on p2) (passed_on p3) ≡ pair_column f s 1
unfolding dct_column
column1 f s p0 p1 p2 p3 are = turned_rows 2 3 f s p0 p1 p2 p3 are

pub column2 : (f s p0 p1 p2 p3 : List ℤ) → ArePassed f s p0 p1 p2 p3 → lanes_of 4 5 (passed_on p0) (passed_on p1) (passed_on p2) (passed_on p3) ≡ pair_column f s 2
unfolding dct_column
column2 f s p0 p1 p2 p3 are = turned_rows 4 5 f s p0 p1 p2 p3 are

pub column3 : (f s p0 p1 p2 p3 : List ℤ) → ArePassed f s p0 p1 p2 p3 → lanes_of 6 7 (passed_on p0) (passed_on p1) (passed_on p2) (passed_on p3) ≡ pair_column f s 3
unfolding dct_column
column3 f s p0 p1 p2 p3 are = turned_rows 6 7 f s p0 p1 p2 p3 are
