-- A row with its border.
use Rattle.std.specs.Prelude.{slice_index}
use Rattle.std.specs.Simd.Lanes.{chunk}
use Rattle.std.proofs.Common.{◌≡◌, ℕ, ◌-◌, ◌<◌, min, List, ◌++◌, length, replicate, refl, ◌∙◌, arith, length-append, inl, inr}
use Rattle.std.proofs.lemmas.Bool.{cases_lt}
use Rattle.std.proofs.lemmas.List.{length-replicate, get_or-replicate, get_or_append_left, get_or-append_right}
use Rattle.pixel_planes.specs.Layout.{bordered_row, bordered_side}
use Rattle.pixel_planes.proofs.Parts.{chunk_left, chunk_right, chunk_all}

-- the border adds twice its width to a row's length
pub length-bordered_row : (border : ℕ) (row : List ℕ) → length (bordered_row border row) ≡ bordered_side (length row) border
length-bordered_row border row =
    rw (length-append, length-append, length-replicate border (slice_index row 0), length-replicate border (slice_index row (length row - 1))) (omega arith)

-- the row itself in it
pub row_in_bordered : (border width : ℕ) (row : List ℕ) → length row ≡ width → chunk border width (bordered_row border row) ≡ row
row_in_bordered border width row len =
    let left : List ℕ = replicate border (slice_index row 0) in
    let right : List ℕ = replicate border (slice_index row (length row - 1)) in
    chunk_right border 0 width border left (row ++ right) (length-replicate border (slice_index row 0)) (omega arith) ∙ chunk_left 0 width row right (omega arith) ∙ chunk_all width row len

-- a sample of it
pub sample_in_bordered : (border column : ℕ) (row : List ℕ) → column < bordered_side (length row) border → slice_index (bordered_row border row) column ≡ slice_index row (min (column - border) (length row - 1))
sample_in_bordered border column row within =
    let first : ℕ = slice_index row 0 in
    let last : ℕ = slice_index row (length row - 1) in
    let wide : length (replicate border first) ≡ border = length-replicate border first in
    elim (cases_lt column border) [
      | inl before ↦
          let held : min (column - border) (length row - 1) ≡ 0 = omega arith in
          rw held (get_or_append_left (replicate border first) (row ++ replicate border last) 0 column (omega arith) ∙ get_or-replicate border column first 0 before)
      | inr following ↦
          rw (get_or-append_right (replicate border first) (row ++ replicate border last) border column 0 wide following)
          (elim (cases_lt (column - border) (length row)) [
            | inl inside ↦
                let held : min (column - border) (length row - 1) ≡ column - border = omega arith in
                rw held (get_or_append_left row (replicate border last) 0 (column - border) inside)
            | inr past ↦
                let held : min (column - border) (length row - 1) ≡ length row - 1 = omega arith in
                rw held (get_or-append_right row (replicate border last) (length row) (column - border) 0 refl past ∙ get_or-replicate border (column - border - length row) last 0 (omega arith))
          ])
    ]
