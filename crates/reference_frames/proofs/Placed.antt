-- Samples that are written within a square.
use Rattle.std.specs.Prelude.{slice_index, slice_index_or, None, Some}
use Rattle.std.proofs.Common.{◌≡◌, ℕ, ◌+◌, ◌-◌, ◌*◌, ◌%◌, ◌<◌, ◌≤◌, ◌⊎◌, inl, inr, List, [], ◌++◌, length, take, drop, ℤ, pos, ◌+ℤ◌, refl, ap, sym, ◌∙◌, arith}
use Rattle.std.proofs.lemmas.Bool.{cases_lt}
use Rattle.inter_predict.specs.Blocks.{IsBlockIn}
use Rattle.inter_predict.specs.InterSample.{inter_sample, predicted}
use Rattle.inter_predict.specs.declared.kinds.Kind.{Kind}
use Rattle.intra_predict.specs.Blocks.{IsBlockAmong}
use Rattle.pixel_planes.specs.Samples.{Samples}
use Rattle.vp8_tables.specs.Bounds.{clamped_sample}
use Rattle.transforms.specs.Transforms.{inverse_dct}
use Rattle.reference_frames.specs.PlacedBlocks.{IsInSquare, IsPlaced, from_corner, square_from}
use Rattle.reference_frames.specs.Restored.{Residual, block_at, restored}
use Rattle.reference_frames.proofs.Squares.{index_in, index_before, index_above, index_within, start_within, from_place, part_new, part_before, part_kept, whole_put}

-- a block that was written at the start of a part of the samples was written among them
pub placed_at : (f g : ℕ → ℕ → ℕ) (across side column row : ℕ) (old part rest : List ℕ) → 0 < side → column + side ≤ across → (row + side) * across ≤ length old →
    ((i j : ℕ) → IsInSquare column row side i j → g (i - column) (j - row) ≡ f i j) →
    IsBlockIn g side side across (take (length old - (across * row + column)) (drop (across * row + column) old)) part → rest ≡ drop (length old - (across * row + column)) (drop (across * row + column) old) → IsPlaced f across side column row old (take (across * row + column) old ++ (part ++ rest))
placed_at f g across side column row old part rest some wide high same is following =
    let start : ℕ = across * row + column in
    let room : start ≤ length old = start_within across side column row (length old) some wide high in
    record {
      whole = whole_put old part rest start room is.whole following;
      each = λ i j inside.
          let place : j * across + i ≡ start + ((j - row) * across + (i - column)) = index_in across i j column row inside.0 inside.2 in
          let to_i : i < column + side = inside.1 in
          let to_j : j < row + side = inside.3 in
          let within : start + ((j - row) * across + (i - column)) < length old = omega (arith, high, place, index_within across i j (row + side) (omega arith) to_j) in
          rw place (part_new old part rest start ((j - row) * across + (i - column)) is.whole within ∙ is.each (i - column) (j - row) (omega arith) (omega arith) ∙ same i j inside);
      others = λ i j a out.
          elim (cases_lt j row) [
            | inl higher ↦ part_before old (part ++ rest) start (j * across + i) room (index_above across i j column row a higher)
            | inr below ↦ elim (cases_lt i column) [
              | inr right ↦
                  let place : j * across + i ≡ start + ((j - row) * across + (i - column)) = index_in across i j column row right below in
                  let away : (side ≤ i - column) ⊎ (side ≤ j - row) = elim (cases_lt i (column + side)) [
                    | inr beside ↦ inl (omega arith)
                    | inl near ↦ elim (cases_lt j (row + side)) [ inl here ↦ absurd (out (right, near, below, here)) | inr lower ↦ inr (omega arith) ]
                  ] in
                  part_kept old part rest start ((j - row) * across + (i - column)) (j * across + i) room is.whole following place (is.others (i - column) (j - row) (omega arith) away)
              | inl left ↦ elim (cases_lt row j) [
                | inl lower ↦
                    let place : j * across + i ≡ start + ((j - row - 1) * across + (across + i - column)) = index_before across i j column row (omega arith) lower in
                    part_kept old part rest start ((j - row - 1) * across + (across + i - column)) (j * across + i) room is.whole following place (is.others (across + i - column) (j - row - 1) (omega arith) (inl (omega arith)))
                | inr same_row ↦
                    let first : j ≡ row = omega arith in
                    part_before old (part ++ rest) start (j * across + i) room (rw first (omega arith))
              ]
            ]
          ];
    }

-- a square depends on its own samples only
pub placed_as : (f g : ℕ → ℕ → ℕ) (across side column row : ℕ) (old new : List ℕ) → ((i j : ℕ) → IsInSquare column row side i j → g i j ≡ f i j) → IsPlaced g across side column row old new → IsPlaced f across side column row old new
placed_as f g across side column row old new same is = record {
  whole = is.whole;
  each = λ i j inside. is.each i j inside ∙ same i j inside;
  others = is.others;
}

-- the samples of a square by the columns and rows of the part that it is in, which begins in column x of row y
pub from_part : (f g : ℕ → ℕ → ℕ) (side x y column row at_column at_row : ℕ) → at_column ≡ x + column → at_row ≡ y + row → ((i j : ℕ) → IsInSquare column row side i j → g (x + i) (y + j) ≡ f i j) → (i j : ℕ) → IsInSquare at_column at_row side i j → g i j ≡ from_corner x y f i j
from_part f g side x y column row at_column at_row to_column to_row same i j inside =
    let from_i : at_column ≤ i = inside.0 in
    let to_i : i < at_column + side = inside.1 in
    let from_j : at_row ≤ j = inside.2 in
    let to_j : j < at_row + side = inside.3 in
    let right : x + (i - x) ≡ i = omega (arith, to_column, from_i) in
    let down : y + (j - y) ≡ j = omega (arith, to_row, from_j) in
    sym (ap (λ n. g n j) right) ∙ sym (ap (λ n. g (x + (i - x)) n) down)
    ∙ same (i - x) (j - y) (omega (arith, to_column, from_i), omega (arith, to_column, from_i, to_i), omega (arith, to_row, from_j), omega (arith, to_row, from_j, to_j))

-- a square by the columns and rows of that part
pub placed_from : (f g : ℕ → ℕ → ℕ) (across side x y column row at_column at_row : ℕ) (old new : List ℕ) → at_column ≡ x + column → at_row ≡ y + row → ((i j : ℕ) → IsInSquare column row side i j → g (x + i) (y + j) ≡ f i j) →
    IsPlaced g across side at_column at_row old new → IsPlaced (from_corner x y f) across side at_column at_row old new
placed_from f g across side x y column row at_column at_row old new to_column to_row same is =
    placed_as (from_corner x y f) g across side at_column at_row old new (from_part f g side x y column row at_column at_row to_column to_row same) is

-- the same position in other words
pub placed_there : (f : ℕ → ℕ → ℕ) (across side column row at_column at_row : ℕ) (old new : List ℕ) → at_column ≡ column → at_row ≡ row → IsPlaced f across side column row old new → IsPlaced f across side at_column at_row old new
placed_there f across side column row at_column at_row old new to_column to_row is = rw (to_column, to_row) is

-- four squares, the second to the right of the first and the others below them, are one of twice the side
pub four_placed : (f : ℕ → ℕ → ℕ) (across side column row : ℕ) (s0 s1 s2 s3 s4 : List ℕ) → column + side + side ≤ across →
    IsPlaced f across side column row s0 s1 → IsPlaced f across side (column + side) row s1 s2 → IsPlaced f across side column (row + side) s2 s3 → IsPlaced f across side (column + side) (row + side) s3 s4 → IsPlaced f across (side + side) column row s0 s4
four_placed f across side column row s0 s1 s2 s3 s4 wide a b c d = record {
  whole = d.whole ∙ c.whole ∙ b.whole ∙ a.whole;
  each = λ i j inside.
      let from_i : column ≤ i = inside.0 in
      let to_i : i < column + (side + side) = inside.1 in
      let from_j : row ≤ j = inside.2 in
      let to_j : j < row + (side + side) = inside.3 in
      let in_i : i < across = omega arith in
      elim (cases_lt j (row + side)) [
        | inr lower ↦ elim (cases_lt i (column + side)) [
          | inr right ↦ d.each i j (right, omega arith, lower, omega arith)
          | inl left ↦ d.others i j in_i (λ q. absurd (omega (arith, q.0))) ∙ c.each i j (from_i, left, lower, omega arith)
        ]
        | inl higher ↦
            let under : (IsInSquare (column + side) (row + side) side i j → ⊥) × (IsInSquare column (row + side) side i j → ⊥) = ((λ q. absurd (omega (arith, q.2))), (λ q. absurd (omega (arith, q.2)))) in
            d.others i j in_i under.0 ∙ c.others i j in_i under.1 ∙ elim (cases_lt i (column + side)) [
              | inr right ↦ b.each i j (right, omega arith, from_j, higher)
              | inl left ↦ b.others i j in_i (λ q. absurd (omega (arith, q.0))) ∙ a.each i j (from_i, left, from_j, higher)
            ]
      ];
  others = λ i j in_i out.
      d.others i j in_i (λ q. out (omega (arith, q.0), omega (arith, q.1), omega (arith, q.2), omega (arith, q.3)))
      ∙ c.others i j in_i (λ q. out (q.0, omega (arith, q.1), omega (arith, q.2), omega (arith, q.3)))
      ∙ b.others i j in_i (λ q. out (omega (arith, q.0), omega (arith, q.1), q.2, omega (arith, q.3)))
      ∙ a.others i j in_i (λ q. out (q.0, omega (arith, q.1), q.2, omega (arith, q.3)));
}

-- a sample of a block that begins in this column and row, by its own column and row
pub moved : (kind : Kind) (p : Samples) (column row i j : ℕ) (right below : ℤ) → column ≤ i → row ≤ j → predicted kind p (pos column) (pos row) right below (i - column) (j - row) ≡ inter_sample kind p (pos i) (pos j) right below
moved kind p column row i j right below a b =
    let across : column + (i - column) ≡ i = omega (arith, a) in
    let down : row + (j - row) ≡ j = omega (arith, b) in
    rw (across, down) refl

-- ---- a square and its residual

-- the residual of a sample depends on that sample only
restored_same : (side first : ℕ) (residual : Residual) (one other : ℕ → ℕ → ℕ) (i j : ℕ) → one i j ≡ other i j → restored side first residual one i j ≡ restored side first residual other i j
restored_same side first None one other i j same = same
restored_same side first (Some blocks) one other i j same = ap (λ n. clamped_sample (pos n +ℤ inverse_dct (slice_index_or blocks (block_at side first i j) []) (i % 4) (j % 4))) same

-- a square without a residual stays as it is
pub none_added_to : (side first across x y : ℕ) (old : List ℕ) → IsPlaced (from_corner x y (restored side first None (square_from old across x y))) across side x y old old
none_added_to side first across x y old = record {
  whole = refl;
  each = λ i j inside. sym (ap (λ n. slice_index old n) (from_place across x y i j inside.0 inside.2));
  others = λ i j a out. refl;
}

-- a residual that was added to predicted samples
pub restored_placed : (side first : ℕ) (residual : Residual) (sample : ℕ → ℕ → ℕ) (across x y : ℕ) (s0 s1 s2 : List ℕ) → IsPlaced (from_corner x y sample) across side x y s0 s1 → IsPlaced (from_corner x y (restored side first residual (square_from s1 across x y))) across side x y s1 s2 →
    IsPlaced (from_corner x y (restored side first residual sample)) across side x y s0 s2
restored_placed side first residual sample across x y s0 s1 s2 is added = record {
  whole = added.whole ∙ is.whole;
  each = λ i j inside. added.each i j inside ∙ restored_same side first residual (square_from s1 across x y) sample (i - x) (j - y) (ap (λ n. slice_index s1 n) (from_place across x y i j inside.0 inside.2) ∙ is.each i j inside);
  others = λ i j a out. added.others i j a out ∙ is.others i j a out;
}

-- a block of equal sides, as inter prediction writes it
pub as_block_in : (sample : ℕ → ℕ → ℕ) (side stride : ℕ) (old new : List ℕ) → IsBlockAmong sample side side stride old new → IsBlockIn sample side side stride old new
as_block_in sample side stride old new is = record { whole = is.whole; each = is.each; others = is.others }
