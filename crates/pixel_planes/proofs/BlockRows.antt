-- The rows of a block, at the front of it or apart from each other.
use Rattle.std.specs.Prelude.{slice_index, slice_range}
use Rattle.std.specs.Simd.Lanes.{chunk}
use Rattle.std.proofs.Common.{◌≡◌, ℕ, zero, suc, ◌+◌, ◌*◌, ◌<◌, ◌≤◌, List, ◌++◌, length, take, refl, ap, sym, ◌∙◌, arith, length-append, inl, inr}
use Rattle.std.proofs.Math.Nat.{mul-le-mul_left, mul-le-mul_right, suc-mul}
use Rattle.std.proofs.lemmas.Bool.{cases_lt}
use Rattle.std.proofs.lemmas.Simd.{length-chunk, get_or-chunk}
use Rattle.pixel_planes.specs.Layout.{rows_of, flat_plane}
use Rattle.pixel_planes.specs.Samples.{row_of}
use Rattle.pixel_planes.proofs.Parts.{part_is, chunk_left, chunk_right, chunk_all, take_more_chunk}

-- one more row
pub rows_of-suc : (items : List ℕ) (first stride width n : ℕ) → rows_of items first stride width (suc n) ≡ rows_of items first stride width n ++ chunk (first + n * stride) width items
unfolding rows_of
rows_of-suc items first stride width n = ap (λ row. rows_of items first stride width n ++ row) (part_is items (first + n * stride) width)

-- row y ends within the rows
pub row_room : (first stride width y n : ℕ) → width ≤ stride → y < n → first + y * stride + width ≤ first + n * stride
row_room first stride width y n wide below = grind (arith, mul-le-mul_left)

-- the number of samples of so many rows
pub length-rows_of : (items : List ℕ) (first stride width n : ℕ) → width ≤ stride → first + n * stride ≤ length items → length (rows_of items first stride width n) ≡ n * width
unfolding rows_of
length-rows_of items first stride width zero wide fits = omega arith
length-rows_of items first stride width (suc n) wide fits =
    let step : suc n * stride ≡ n * stride + stride = suc-mul n stride in
    let here : length (chunk (first + n * stride) width items) ≡ width = length-chunk (first + n * stride) width items (omega arith) in
    let above : length (rows_of items first stride width n) ≡ n * width = length-rows_of items first stride width n wide (omega arith) in
    rw (part_is items (first + n * stride) width, length-append, above, here, suc-mul n width) refl

-- row y of these rows
pub chunk_of_rows : (items : List ℕ) (first stride width n y : ℕ) → width ≤ stride → first + n * stride ≤ length items → y < n → chunk (y * width) width (rows_of items first stride width n) ≡ chunk (first + y * stride) width items
unfolding rows_of
chunk_of_rows items first stride width zero y wide fits below = absurd (omega arith)
chunk_of_rows items first stride width (suc n) y wide fits below =
    let step : suc n * stride ≡ n * stride + stride = suc-mul n stride in
    let len : length (rows_of items first stride width n) ≡ n * width = length-rows_of items first stride width n wide (omega arith) in
    let row : length (chunk (first + n * stride) width items) ≡ width = length-chunk (first + n * stride) width items (omega arith) in
    rw (rows_of-suc items first stride width n)
    (elim (cases_lt y n) [
      | inl above ↦
          let fits' : 0 + y * width + width ≤ 0 + n * width = row_room 0 width width y n (omega arith) above in
          chunk_left (y * width) width (rows_of items first stride width n) (chunk (first + n * stride) width items) (omega arith) ∙ chunk_of_rows items first stride width n y wide (omega arith) above
      | inr past ↦
          let last : y ≡ n = omega arith in
          rw last (chunk_right (n * width) 0 width (n * width) (rows_of items first stride width n) (chunk (first + n * stride) width items) len (omega arith) ∙ chunk_all width (chunk (first + n * stride) width items) row)
    ])

-- the sample in column x of row y of these rows
pub sample_of_rows : (items : List ℕ) (first stride width n x y : ℕ) → width ≤ stride → first + n * stride ≤ length items → y < n → x < width → slice_index (rows_of items first stride width n) (y * width + x) ≡ slice_index items (first + y * stride + x)
sample_of_rows items first stride width n x y wide fits below in_row =
    sym (get_or-chunk (y * width) width (rows_of items first stride width n) x 0 in_row) ∙ ap (λ row. slice_index row x) (chunk_of_rows items first stride width n y wide fits below) ∙ get_or-chunk (first + y * stride) width items x 0 in_row

-- rows that are one directly after the other at the front of the block
pub rows_at_front : (items : List ℕ) (width n : ℕ) → rows_of items 0 width width n ≡ take (n * width) items
unfolding rows_of
rows_at_front items width zero = let none : 0 * width ≡ 0 = omega arith in rw none refl
rows_at_front items width (suc n) =
    let at : 0 + n * width ≡ n * width = omega arith in
    rows_of-suc items 0 width width n ∙ ap (λ rows. rows ++ chunk (0 + n * width) width items) (rows_at_front items width n) ∙ ap (λ k. take (n * width) items ++ chunk k width items) at ∙ take_more_chunk (n * width) width items ∙ ap (λ k. take k items) (sym (suc-mul n width))

-- the same rows in two blocks
pub same_rows : (xs ys : List ℕ) (first stride first' stride' width n : ℕ) → ((y : ℕ) → y < n → chunk (first + y * stride) width xs ≡ chunk (first' + y * stride') width ys) → rows_of xs first stride width n ≡ rows_of ys first' stride' width n
unfolding rows_of
same_rows xs ys first stride first' stride' width zero each = refl
same_rows xs ys first stride first' stride' width (suc n) each =
    let here : chunk (first + n * stride) width xs ≡ chunk (first' + n * stride') width ys = each n (omega arith) in
    rw (rows_of-suc xs first stride width n, rows_of-suc ys first' stride' width n, same_rows xs ys first stride first' stride' width n (λ y below. each y (omega arith)), here) refl

-- a row ends where the rows below it begin
pub row_ends : (y k s : ℕ) → y < k → y * s + s ≤ k * s
row_ends y k s below = let more : suc y * s ≡ y * s + s = suc-mul y s in let le : suc y * s ≤ k * s = mul-le-mul_right s (omega arith) in omega arith

-- row y of a plane at the front of the block
pub row_of_flat : (width height y : ℕ) (items : List ℕ) → height * width ≤ length items → y < height → row_of (flat_plane width height items) y ≡ slice_range items (y * width) (y * width + width)
row_of_flat width height y items fits below =
    let at : 0 + y * width ≡ y * width = omega arith in
    part_is (rows_of items 0 width width height) (y * width) width ∙ chunk_of_rows items 0 width width height y (omega arith) (omega arith) below ∙ ap (λ k. chunk k width items) at ∙ sym (part_is items (y * width) width)
