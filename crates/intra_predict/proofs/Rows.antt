-- Blocks that are written row by row.
use Rattle.std.proofs.Common.{◌≡◌, ◌⊎◌, ℕ, ◌+◌, ◌-◌, ◌*◌, ◌<◌, ◌≤◌, inl, inr, List, length, refl, ◌∙◌, arith}
use Rattle.std.specs.Prelude.{slice_index}
use Rattle.std.specs.Simd.Lanes.{put_chunk}
use Rattle.std.proofs.Math.Nat.{mul-le-mul_right}
use Rattle.std.proofs.lemmas.Bool.{cases_lt}
use Rattle.std.proofs.lemmas.Simd.{length-put_chunk, get_or-put_chunk_below, get_or-put_chunk_at, get_or-put_chunk_above}
use Rattle.intra_predict.specs.Blocks.{IsBlockAmong}

-- rows do not overlap
earlier_row : (stride row n : ℕ) → row < n → row * stride + stride ≤ n * stride
earlier_row stride row n less =
    let le : (row + 1) * stride ≤ n * stride = mul-le-mul_right stride (omega arith) in
    omega (arith, le)

-- a row is no further down than the last
pub upper_row : (stride row n : ℕ) → row < n → row * stride ≤ (n - 1) * stride
upper_row stride row n less = mul-le-mul_right stride (omega arith)

-- no row
pub no_rows : (sample : ℕ → ℕ → ℕ) (width stride : ℕ) (old : List ℕ) → IsBlockAmong sample width 0 stride old old
no_rows sample width stride old = record { whole = refl; each = λ column row inside below. absurd (omega arith); others = λ column row inside beside. refl }

-- an index that is not written
kept : (i : ℕ) (xs ys : List ℕ) (p : ℕ) → (p < i) ⊎ (i + length ys ≤ p) → slice_index (put_chunk i xs ys) p ≡ slice_index xs p
kept i xs ys p (inl before) = get_or-put_chunk_below i xs ys p 0 before
kept i xs ys p (inr following) = get_or-put_chunk_above i xs ys p 0 following

-- an index outside the written part of row n is before it or after it
beside_row : (width n stride column row : ℕ) → width ≤ stride → column < stride → (width ≤ column) ⊎ (n + 1 ≤ row) → (row * stride + column < n * stride) ⊎ (n * stride + width ≤ row * stride + column)
beside_row width n stride column row fits inside beside =
    elim (cases_lt row n) [
      | inl earlier ↦ inl (omega (arith, earlier_row stride row n earlier))
      | inr from ↦ elim (cases_lt n row) [
        | inl later ↦ inr (omega (arith, earlier_row stride n row later))
        | inr upto ↦
            let same : row ≡ n = omega arith in
            rw same (elim beside [
              | inl right ↦ inr (omega arith)
              | inr below ↦ absurd (omega arith)
            ])
      ]
    ]

-- an index outside the first n + 1 rows is outside the first n
beside_before : (width n column row : ℕ) → (width ≤ column) ⊎ (n + 1 ≤ row) → (width ≤ column) ⊎ (n ≤ row)
beside_before width n column row (inl right) = inl right
beside_before width n column row (inr below) = inr (omega arith)

-- one more row
pub row_put : (sample : ℕ → ℕ → ℕ) (width n stride : ℕ) (old now line : List ℕ) → IsBlockAmong sample width n stride old now → width ≤ stride → n * stride + width ≤ length old → length line ≡ width → ((column : ℕ) → column < width → slice_index line column ≡ sample column n) →
    IsBlockAmong sample width (n + 1) stride old (put_chunk (n * stride) now line)
row_put sample width n stride old now line before fits room long right =
    let there : n * stride + length line ≤ length now = omega (arith, before.whole) in
    record {
      whole = length-put_chunk (n * stride) now line ∙ before.whole;
      each = λ column row inside less.
          elim (cases_lt row n) [
            | inl earlier ↦ get_or-put_chunk_below (n * stride) now line (row * stride + column) 0 (omega (arith, earlier_row stride row n earlier)) ∙ before.each column row inside earlier
            | inr from ↦
                let same : row ≡ n = omega arith in
                rw same (get_or-put_chunk_at (n * stride) now line column 0 (omega arith) there ∙ right column inside)
          ];
      others = λ column row inside beside. kept (n * stride) now line (row * stride + column) (rw long (beside_row width n stride column row fits inside beside)) ∙ before.others column row inside (beside_before width n column row beside);
    }

-- the same block by another function of column and row
pub among_same : (one other : ℕ → ℕ → ℕ) (width height stride : ℕ) (old new : List ℕ) → IsBlockAmong one width height stride old new → ((column row : ℕ) → column < width → row < height → one column row ≡ other column row) → IsBlockAmong other width height stride old new
among_same one other width height stride old new block same = record { whole = block.whole; each = λ column row inside below. block.each column row inside below ∙ same column row inside below; others = block.others }
