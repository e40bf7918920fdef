-- The contents of interleaved vectors.
use Rattle.std.specs.Prelude.{slice_index}
use Rattle.std.proofs.Common.{◌≡◌, ℕ, zero, suc, ◌*◌, ◌+◌, ◌-◌, ◌<◌, List, [], ◌∷◌, ◌++◌, length, get_or, refl, ap, ◌∙◌, arith}
use Rattle.std.proofs.lemmas.List.{get_or_append_left, get_or-append_right}

-- a lane of the first of two concatenated vectors, and one of the second
front : (a b : List ℕ) (m : ℕ) → length a ≡ 16 → m < 16 → get_or (a ++ b) m 0 ≡ get_or a m 0
front a b m long less = get_or_append_left a b 0 m (omega (arith, long))

following : (a b : List ℕ) (m : ℕ) → length a ≡ 16 → get_or (a ++ b) (m + 16) 0 ≡ get_or b m 0
following a b m long = get_or-append_right a b 16 (m + 16) 0 long (omega arith) ∙ (let same : m + 16 - 16 ≡ m = omega arith in ap (λ (i : ℕ). get_or b i 0) same)

-- lane m of eight vectors, concatenated four and four
pub eight_lanes : (a0 a1 a2 a3 b0 b1 b2 b3 : List ℕ) (m : ℕ) (rest rest' : List ℕ) → length a0 ≡ 16 → length a1 ≡ 16 → length a2 ≡ 16 → length a3 ≡ 16 → m < 16 → rest ≡ rest'
    → get_or (a0 ++ b0) m 0 ∷ get_or (a1 ++ b1) m 0 ∷ get_or (a2 ++ b2) m 0 ∷ get_or (a3 ++ b3) m 0 ∷ get_or (a0 ++ b0) (m + 16) 0 ∷ get_or (a1 ++ b1) (m + 16) 0 ∷ get_or (a2 ++ b2) (m + 16) 0 ∷ get_or (a3 ++ b3) (m + 16) 0 ∷ rest
    ≡ get_or a0 m 0 ∷ get_or a1 m 0 ∷ get_or a2 m 0 ∷ get_or a3 m 0 ∷ get_or b0 m 0 ∷ get_or b1 m 0 ∷ get_or b2 m 0 ∷ get_or b3 m 0 ∷ rest'
eight_lanes a0 a1 a2 a3 b0 b1 b2 b3 m rest rest' l0 l1 l2 l3 less same =
    rw (front a0 b0 m l0 less, front a1 b1 m l1 less, front a2 b2 m l2 less, front a3 b3 m l3 less, following a0 b0 m l0, following a1 b1 m l1, following a2 b2 m l2, following a3 b3 m l3, same) refl

-- two of its lanes, one after the other
pub sixteen_lanes : (a0 a1 a2 a3 b0 b1 b2 b3 : List ℕ) (m n : ℕ) → length a0 ≡ 16 → length a1 ≡ 16 → length a2 ≡ 16 → length a3 ≡ 16 → m < 16 → n < 16
    → get_or (a0 ++ b0) m 0 ∷ get_or (a1 ++ b1) m 0 ∷ get_or (a2 ++ b2) m 0 ∷ get_or (a3 ++ b3) m 0 ∷ get_or (a0 ++ b0) (m + 16) 0 ∷ get_or (a1 ++ b1) (m + 16) 0 ∷ get_or (a2 ++ b2) (m + 16) 0 ∷ get_or (a3 ++ b3) (m + 16) 0
    ∷ get_or (a0 ++ b0) n 0 ∷ get_or (a1 ++ b1) n 0 ∷ get_or (a2 ++ b2) n 0 ∷ get_or (a3 ++ b3) n 0 ∷ get_or (a0 ++ b0) (n + 16) 0 ∷ get_or (a1 ++ b1) (n + 16) 0 ∷ get_or (a2 ++ b2) (n + 16) 0 ∷ get_or (a3 ++ b3) (n + 16) 0 ∷ []
    ≡ get_or a0 m 0 ∷ get_or a1 m 0 ∷ get_or a2 m 0 ∷ get_or a3 m 0 ∷ get_or b0 m 0 ∷ get_or b1 m 0 ∷ get_or b2 m 0 ∷ get_or b3 m 0
    ∷ get_or a0 n 0 ∷ get_or a1 n 0 ∷ get_or a2 n 0 ∷ get_or a3 n 0 ∷ get_or b0 n 0 ∷ get_or b1 n 0 ∷ get_or b2 n 0 ∷ get_or b3 n 0 ∷ []
sixteen_lanes a0 a1 a2 a3 b0 b1 b2 b3 m n l0 l1 l2 l3 less less' =
    eight_lanes a0 a1 a2 a3 b0 b1 b2 b3 m _ _ l0 l1 l2 l3 less (eight_lanes a0 a1 a2 a3 b0 b1 b2 b3 n _ _ l0 l1 l2 l3 less' refl)

-- a fact of each number below 8 holds for all of them
pub below_eight : (P : ℕ → Type 0) → P 0 → P 1 → P 2 → P 3 → P 4 → P 5 → P 6 → P 7 → (k : ℕ) → k < 8 → P k
below_eight P h0 h1 h2 h3 h4 h5 h6 h7 zero less = h0
below_eight P h0 h1 h2 h3 h4 h5 h6 h7 (suc zero) less = h1
below_eight P h0 h1 h2 h3 h4 h5 h6 h7 (suc (suc zero)) less = h2
below_eight P h0 h1 h2 h3 h4 h5 h6 h7 (suc (suc (suc zero))) less = h3
below_eight P h0 h1 h2 h3 h4 h5 h6 h7 (suc (suc (suc (suc zero)))) less = h4
below_eight P h0 h1 h2 h3 h4 h5 h6 h7 (suc (suc (suc (suc (suc zero))))) less = h5
below_eight P h0 h1 h2 h3 h4 h5 h6 h7 (suc (suc (suc (suc (suc (suc zero)))))) less = h6
below_eight P h0 h1 h2 h3 h4 h5 h6 h7 (suc (suc (suc (suc (suc (suc (suc zero))))))) less = h7
below_eight P h0 h1 h2 h3 h4 h5 h6 h7 (suc (suc (suc (suc (suc (suc (suc (suc k)))))))) less = absurd (omega arith)

-- two vectors of eight lanes, interleaved
abbrev pub in_turn : List ℕ → List ℕ
in_turn ab =
    get_or ab 0 0 ∷ get_or ab 8 0 ∷ get_or ab 1 0 ∷ get_or ab 9 0 ∷ get_or ab 2 0 ∷ get_or ab 10 0 ∷ get_or ab 3 0 ∷ get_or ab 11 0
    ∷ get_or ab 4 0 ∷ get_or ab 12 0 ∷ get_or ab 5 0 ∷ get_or ab 13 0 ∷ get_or ab 6 0 ∷ get_or ab 14 0 ∷ get_or ab 7 0 ∷ get_or ab 15 0 ∷ []

pub even_lane : (a b : List ℕ) → length a ≡ 8 → (k : ℕ) → k < 8 → slice_index (in_turn (a ++ b)) (2 * k) ≡ slice_index a k
even_lane a b long =
    let at : (m : ℕ) → m < 8 → get_or (a ++ b) m 0 ≡ get_or a m 0 = λ (m : ℕ) (less : m < 8). get_or_append_left a b 0 m (omega (arith, long)) in
    below_eight (λ k. slice_index (in_turn (a ++ b)) (2 * k) ≡ slice_index a k) (at 0 (omega arith)) (at 1 (omega arith)) (at 2 (omega arith)) (at 3 (omega arith)) (at 4 (omega arith)) (at 5 (omega arith)) (at 6 (omega arith)) (at 7 (omega arith))

pub odd_lane : (a b : List ℕ) → length a ≡ 8 → (k : ℕ) → k < 8 → slice_index (in_turn (a ++ b)) (2 * k + 1) ≡ slice_index b k
odd_lane a b long =
    let at : (m : ℕ) → get_or (a ++ b) (m + 8) 0 ≡ get_or b m 0 = λ (m : ℕ). get_or-append_right a b 8 (m + 8) 0 long (omega arith) ∙ (let same : m + 8 - 8 ≡ m = omega arith in ap (λ (i : ℕ). get_or b i 0) same) in
    below_eight (λ k. slice_index (in_turn (a ++ b)) (2 * k + 1) ≡ slice_index b k) (at 0) (at 1) (at 2) (at 3) (at 4) (at 5) (at 6) (at 7)

-- two vectors of eight lanes, one after the other
abbrev pub in_order : List ℕ → List ℕ
in_order ab =
    get_or ab 0 0 ∷ get_or ab 1 0 ∷ get_or ab 2 0 ∷ get_or ab 3 0 ∷ get_or ab 4 0 ∷ get_or ab 5 0 ∷ get_or ab 6 0 ∷ get_or ab 7 0
    ∷ get_or ab 8 0 ∷ get_or ab 9 0 ∷ get_or ab 10 0 ∷ get_or ab 11 0 ∷ get_or ab 12 0 ∷ get_or ab 13 0 ∷ get_or ab 14 0 ∷ get_or ab 15 0 ∷ []

pub first_lane : (a b : List ℕ) → length a ≡ 8 → (k : ℕ) → k < 8 → slice_index (in_order (a ++ b)) k ≡ slice_index a k
first_lane a b long =
    let at : (m : ℕ) → m < 8 → get_or (a ++ b) m 0 ≡ get_or a m 0 = λ (m : ℕ) (less : m < 8). get_or_append_left a b 0 m (omega (arith, long)) in
    below_eight (λ k. slice_index (in_order (a ++ b)) k ≡ slice_index a k) (at 0 (omega arith)) (at 1 (omega arith)) (at 2 (omega arith)) (at 3 (omega arith)) (at 4 (omega arith)) (at 5 (omega arith)) (at 6 (omega arith)) (at 7 (omega arith))

pub second_lane : (a b : List ℕ) → length a ≡ 8 → (k : ℕ) → k < 8 → slice_index (in_order (a ++ b)) (8 + k) ≡ slice_index b k
second_lane a b long =
    let at : (m : ℕ) → get_or (a ++ b) (m + 8) 0 ≡ get_or b m 0 = λ (m : ℕ). get_or-append_right a b 8 (m + 8) 0 long (omega arith) ∙ (let same : m + 8 - 8 ≡ m = omega arith in ap (λ (i : ℕ). get_or b i 0) same) in
    below_eight (λ k. slice_index (in_order (a ++ b)) (8 + k) ≡ slice_index b k) (at 0) (at 1) (at 2) (at 3) (at 4) (at 5) (at 6) (at 7)
