-- Strips that are written row by row.
use Rattle.std.specs.Prelude.{slice_index}
use Rattle.std.specs.Simd.Lanes.{chunk, put_chunk}
use Rattle.std.proofs.Common.{◌≡◌, ◌⊎◌, ℕ, ◌+◌, ◌-◌, ◌*◌, ◌<◌, ◌≤◌, inl, inr, List, length, refl, ap, subst, sym, ◌∙◌, arith}
use Rattle.std.proofs.Math.Nat.{mul-le-mul_right}
use Rattle.std.proofs.lemmas.Bool.{cases_lt}
use Rattle.std.proofs.lemmas.Simd.{length-chunk, get_or-chunk, length-put_chunk, get_or-put_chunk_below, get_or-put_chunk_at, get_or-put_chunk_above}
use Rattle.inter_predict.specs.declared.rows.Strip.{Strip}
use Rattle.inter_predict.specs.Kernels.{IsRoomFor, IsStrip}

-- rows do not overlap
pub earlier_row : (stride row n : ℕ) → row < n → row * stride + stride ≤ n * stride
earlier_row stride row n less =
    let le : (row + 1) * stride ≤ n * stride = mul-le-mul_right stride (omega arith) in
    omega (arith, le)

-- no row
pub no_rows : (sample : ℕ → ℕ → ℕ) (first width stride : ℕ) (old : List ℕ) → IsStrip sample first width 0 stride old old
no_rows sample first width stride old = record { whole = refl; each = λ column row inside below. absurd (omega arith); others = λ column row inside beside. refl }

-- an index that is not written
kept : (i : ℕ) (xs ys : List ℕ) (p : ℕ) → (p < i) ⊎ (i + length ys ≤ p) → slice_index (put_chunk i xs ys) p ≡ slice_index xs p
kept i xs ys p (inl before) = get_or-put_chunk_below i xs ys p 0 before
kept i xs ys p (inr following) = get_or-put_chunk_above i xs ys p 0 following

-- an index outside the written part of row n is before it or after it
beside_row : (first width n stride column row : ℕ) → first + width ≤ stride → column < stride → (column < first) ⊎ ((first + width ≤ column) ⊎ (n + 1 ≤ row)) → (row * stride + column < n * stride + first) ⊎ (n * stride + first + width ≤ row * stride + column)
beside_row first width n stride column row fits inside beside =
    elim (cases_lt row n) [
      | inl earlier ↦ inl (omega (arith, earlier_row stride row n earlier))
      | inr from ↦ elim (cases_lt n row) [
        | inl later ↦ inr (omega (arith, earlier_row stride n row later))
        | inr upto ↦
            let same : row ≡ n = omega arith in
            rw same (elim beside [
              | inl left ↦ inl (omega arith)
              | inr other ↦ elim other [
                | inl right ↦ inr (omega arith)
                | inr below ↦ absurd (omega arith)
              ]
            ])
      ]
    ]

-- an index outside the first n + 1 rows is outside the first n
beside_before : (first width n column row : ℕ) → (column < first) ⊎ ((first + width ≤ column) ⊎ (n + 1 ≤ row)) → (column < first) ⊎ ((first + width ≤ column) ⊎ (n ≤ row))
beside_before first width n column row (inl left) = inl left
beside_before first width n column row (inr (inl right)) = inr (inl right)
beside_before first width n column row (inr (inr below)) = inr (inr (omega arith))

-- one more row
pub row_put : (sample : ℕ → ℕ → ℕ) (first width n stride : ℕ) (old now line : List ℕ) → IsStrip sample first width n stride old now → first + width ≤ stride → n * stride + (first + width) ≤ length old → length line ≡ width
    → ((column : ℕ) → column < width → slice_index line column ≡ sample column n) → IsStrip sample first width (n + 1) stride old (put_chunk (n * stride + first) now line)
row_put sample first width n stride old now line before fits room long right =
    let there : n * stride + first + length line ≤ length now = omega (arith, before.whole) in
    record {
      whole = length-put_chunk (n * stride + first) now line ∙ before.whole;
      each = λ column row inside less.
          elim (cases_lt row n) [
            | inl earlier ↦ get_or-put_chunk_below (n * stride + first) now line (row * stride + (first + column)) 0 (omega (arith, earlier_row stride row n earlier)) ∙ before.each column row inside earlier
            | inr from ↦
                let same : row ≡ n = omega arith in
                let place : n * stride + (first + column) ≡ n * stride + first + column = omega arith in
                rw (same, place) (get_or-put_chunk_at (n * stride + first) now line column 0 (omega arith) there ∙ right column inside)
          ];
      others = λ column row inside beside. kept (n * stride + first) now line (row * stride + column) (rw long (beside_row first width n stride column row fits inside beside)) ∙ before.others column row inside (beside_before first width n column row beside);
    }

-- one more row, of the lanes of a vector from `from` on
pub row_stored : (sample : ℕ → ℕ → ℕ) (first width n stride from : ℕ) (old now new row : List ℕ) → IsStrip sample first width n stride old now → first + width ≤ stride → n * stride + (first + width) ≤ length old → from + width ≤ length row → new ≡ put_chunk (n * stride + first) now (chunk from width row)
    → ((column : ℕ) → column < width → slice_index row (from + column) ≡ sample column n) → IsStrip sample first width (n + 1) stride old new
row_stored sample first width n stride from old now new row before fits room long new_is right =
    let strip : IsStrip sample first width (n + 1) stride old (put_chunk (n * stride + first) now (chunk from width row)) =
    row_put sample first width n stride old now (chunk from width row) before fits room (length-chunk from width row long) (λ column inside. get_or-chunk from width row column 0 inside ∙ right column inside) in
    subst (λ (l : List ℕ). IsStrip sample first width (n + 1) stride old l) (sym new_is) strip

-- a row is no further down than the last
pub upper_row : (stride row n : ℕ) → row < n → row * stride ≤ (n - 1) * stride
upper_row stride row n less = mul-le-mul_right stride (omega arith)

-- a row of a strip is in the list
pub row_there : (strip : Strip) (row width len : ℕ) → row < strip.height → IsRoomFor strip width len → row * strip.stride + (strip.first + width) ≤ len
row_there strip row width len less room = omega (arith, room.1, upper_row strip.stride row strip.height less)

-- no column
pub no_columns : (sample : ℕ → ℕ → ℕ) (first height stride : ℕ) (old : List ℕ) → IsStrip sample first 0 height stride old old
no_columns sample first height stride old = record { whole = refl; each = λ column row inside below. absurd (omega arith); others = λ column row inside beside. refl }

-- an index outside both strips is outside each
beside_left : (first width total height column row : ℕ) → width ≤ total → (column < first) ⊎ ((first + total ≤ column) ⊎ (height ≤ row)) → (column < first) ⊎ ((first + width ≤ column) ⊎ (height ≤ row))
beside_left first width total height column row le (inl before) = inl before
beside_left first width total height column row le (inr (inl following)) = inr (inl (omega arith))
beside_left first width total height column row le (inr (inr below)) = inr (inr below)

beside_right : (first next more total height column row : ℕ) → first ≤ next → next + more ≤ first + total → (column < first) ⊎ ((first + total ≤ column) ⊎ (height ≤ row)) → (column < next) ⊎ ((next + more ≤ column) ⊎ (height ≤ row))
beside_right first next more total height column row le end (inl before) = inl (omega arith)
beside_right first next more total height column row le end (inr (inl following)) = inr (inl (omega arith))
beside_right first next more total height column row le end (inr (inr below)) = inr (inr below)

-- two strips side by side
pub joined : (one other : ℕ → ℕ → ℕ) (first next width more total height stride : ℕ) (old now new : List ℕ) → next ≡ first + width → total ≡ width + more → next + more ≤ stride → IsStrip one first width height stride old now → IsStrip other next more height stride now new → ((column row : ℕ) → other column row ≡ one (width + column) row) → IsStrip one first total height stride old new
joined one other first next width more total height stride old now new next_is total_is fits left right same = record {
  whole = right.whole ∙ left.whole;
  each = λ column row inside below.
      elim (cases_lt column width) [
        | inl before ↦ right.others (first + column) row (omega arith) (inl (omega arith)) ∙ left.each column row before below
        | inr from ↦
            let there : next + (column - width) ≡ first + column = omega arith in
            let here : width + (column - width) ≡ column = omega arith in
            ap (λ k. slice_index new (row * stride + k)) (sym there) ∙ right.each (column - width) row (omega arith) below ∙ same (column - width) row ∙ ap (λ k. one k row) here
      ];
  others = λ column row inside beside. right.others column row inside (beside_right first next more total height column row (omega arith) (omega arith) beside) ∙ left.others column row inside (beside_left first width total height column row (omega arith) beside);
}
