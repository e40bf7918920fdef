-- Blocks by the indices of their samples.
use Rattle.std.proofs.Common.{◌≡◌, ℕ, zero, suc, ◌+◌, ◌*◌, ◌<◌, List, [], ◌∷◌, length, refl, ap, ◌∙◌, arith}
use Rattle.std.specs.Prelude.{slice_index, replicate}
use Rattle.std.proofs.Math.Nat.{mul-le-mul_left}
use Rattle.std.proofs.lemmas.List.{get_or-replicate}
use Rattle.intra_predict.specs.Blocks.{IsBlock}

-- a fact at 0 to 3 holds below 4
pub below_four : (P : ℕ → Type 0) → P 0 → P 1 → P 2 → P 3 → (k : ℕ) → k < 4 → P k
below_four P at0 at1 at2 at3 zero less = at0
below_four P at0 at1 at2 at3 (suc zero) less = at1
below_four P at0 at1 at2 at3 (suc (suc zero)) less = at2
below_four P at0 at1 at2 at3 (suc (suc (suc zero))) less = at3
below_four P at0 at1 at2 at3 (suc (suc (suc (suc k)))) less = absurd (omega arith)

-- an index is within its block
pub place_inside : (side column row : ℕ) → column < side → row < side → row * side + column < side * side
place_inside side column row inside below = grind (arith, mul-le-mul_left)

-- sixteen samples, each right for its index
pub is_sixteen : (sample : ℕ → ℕ → ℕ) {a b c d e f g h i j k l m n o p : ℕ} → a ≡ sample 0 0 → b ≡ sample 1 0 → c ≡ sample 2 0 → d ≡ sample 3 0 → e ≡ sample 0 1 → f ≡ sample 1 1 → g ≡ sample 2 1 → h ≡ sample 3 1 → i ≡ sample 0 2 → j ≡ sample 1 2 → k ≡ sample 2 2 → l ≡ sample 3 2 → m ≡ sample 0 3 → n ≡ sample 1 3 → o ≡ sample 2 3 → p ≡ sample 3 3 → IsBlock 4 sample (a ∷ b ∷ c ∷ d ∷ e ∷ f ∷ g ∷ h ∷ i ∷ j ∷ k ∷ l ∷ m ∷ n ∷ o ∷ p ∷ [])
is_sixteen sample {a} {b} {c} {d} {e} {f} {g} {h} {i} {j} {k} {l} {m} {n} {o} {p} ea eb ec ed ee ef eg eh ei ej ek el em en eo ep =
    let samples : List ℕ = a ∷ b ∷ c ∷ d ∷ e ∷ f ∷ g ∷ h ∷ i ∷ j ∷ k ∷ l ∷ m ∷ n ∷ o ∷ p ∷ [] in
    let In : ℕ → ℕ → Type 0 = λ (column row : ℕ). slice_index samples (row * 4 + column) ≡ sample column row in
    record {
      whole = refl;
      each = λ column row inside below.
          below_four (λ r. In column r) (below_four (λ c. In c 0) ea eb ec ed column inside) (below_four (λ c. In c 1) ee ef eg eh column inside) (below_four (λ c. In c 2) ei ej ek el column inside) (below_four (λ c. In c 3) em en eo ep column inside) row below;
    }

-- the same block by another function of column and row
pub IsBlock-same : (side : ℕ) (one other : ℕ → ℕ → ℕ) (samples : List ℕ) → IsBlock side one samples → ((column row : ℕ) → column < side → row < side → one column row ≡ other column row) → IsBlock side other samples
IsBlock-same side one other samples block same = record { whole = block.whole; each = λ column row inside below. block.each column row inside below ∙ same column row inside below }

-- a block of one value
pub IsBlock-filled : (side value : ℕ) (samples : List ℕ) → length samples ≡ side * side → samples ≡ replicate (length samples) value → IsBlock side (λ column row. value) samples
IsBlock-filled side value samples whole filled =
    let at : (k : ℕ) → k < length samples → slice_index samples k ≡ value = λ k less. ap (λ (list : List ℕ). slice_index list k) filled ∙ get_or-replicate (length samples) k value 0 less in
    record { whole = whole; each = λ column row inside below. at (row * side + column) (omega (arith, place_inside side column row inside below)) }
