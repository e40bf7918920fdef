-- The contents of vectors of thirty-two lanes whose halves are interleaved.
use Rattle.std.proofs.Common.{◌≡◌, ℕ, ◌+◌, ◌-◌, ◌<◌, ◌≤◌, List, ◌∷◌, ◌++◌, length, get_or, refl, ap, ◌∙◌, arith}
use Rattle.std.proofs.lemmas.List.{get_or_append_left, get_or-append_right}
use Rattle.loop_filter.specs.Lanes.{interleaved_from}

-- a lane of the first of two concatenated vectors, and one of the second
front : (a b : List ℕ) (m : ℕ) → length a ≡ 32 → m < 32 → get_or (a ++ b) m 0 ≡ get_or a m 0
front a b m long less = get_or_append_left a b 0 m (omega (arith, long))

following : (a b : List ℕ) (m : ℕ) → length a ≡ 32 → get_or (a ++ b) (m + 32) 0 ≡ get_or b m 0
following a b m long = get_or-append_right a b 32 (m + 32) 0 long (omega arith) ∙ (let same : m + 32 - 32 ≡ m = omega arith in ap (λ (i : ℕ). get_or b i 0) same)

-- eight lanes of both in turn
pub in_turn : (first : ℕ) (a b rest rest' : List ℕ) → length a ≡ 32 → first ≤ 24 → rest ≡ rest'
    → get_or (a ++ b) (first + 0) 0 ∷ get_or (a ++ b) (first + 0 + 32) 0 ∷ get_or (a ++ b) (first + 1) 0 ∷ get_or (a ++ b) (first + 1 + 32) 0 ∷ get_or (a ++ b) (first + 2) 0 ∷ get_or (a ++ b) (first + 2 + 32) 0 ∷ get_or (a ++ b) (first + 3) 0 ∷ get_or (a ++ b) (first + 3 + 32) 0 ∷ get_or (a ++ b) (first + 4) 0 ∷ get_or (a ++ b) (first + 4 + 32) 0 ∷ get_or (a ++ b) (first + 5) 0 ∷ get_or (a ++ b) (first + 5 + 32) 0 ∷ get_or (a ++ b) (first + 6) 0 ∷ get_or (a ++ b) (first + 6 + 32) 0 ∷ get_or (a ++ b) (first + 7) 0 ∷ get_or (a ++ b) (first + 7 + 32) 0 ∷ rest
    ≡ interleaved_from first a b ++ rest'
in_turn first a b rest rest' long le same =
    rw (front a b (first + 0) long (omega arith), following a b (first + 0) long, front a b (first + 1) long (omega arith), following a b (first + 1) long, front a b (first + 2) long (omega arith), following a b (first + 2) long, front a b (first + 3) long (omega arith), following a b (first + 3) long, front a b (first + 4) long (omega arith), following a b (first + 4) long, front a b (first + 5) long (omega arith), following a b (first + 5) long, front a b (first + 6) long (omega arith), following a b (first + 6) long, front a b (first + 7) long (omega arith), following a b (first + 7) long, same) refl

-- three rounds of interleaving eight vectors
pub three_rounds : (f g h : List ℕ → List ℕ → List ℕ) (w0 w1 w2 w3 w4 w5 w6 w7 x04 x15 x26 x37 even odd r : List ℕ)
    → x04 ≡ f w0 w4 → x15 ≡ f w1 w5 → x26 ≡ f w2 w6 → x37 ≡ f w3 w7 → even ≡ g x04 x26 → odd ≡ g x15 x37 → r ≡ h even odd
    → r ≡ h (g (f w0 w4) (f w2 w6)) (g (f w1 w5) (f w3 w7))
three_rounds f g h w0 w1 w2 w3 w4 w5 w6 w7 x04 x15 x26 x37 even odd r e04 e15 e26 e37 e_even e_odd e = e ∙ rw (e_even, e_odd, e04, e15, e26, e37) refl
