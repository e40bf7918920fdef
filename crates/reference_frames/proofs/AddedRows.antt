-- The residuals of the rows of blocks of a square, one after another.
use Rattle.std.specs.Prelude.{slice_index}
use Rattle.std.proofs.Common.{◌≡◌, ℕ, ◌+◌, ◌-◌, ◌*◌, ◌/◌, ◌%◌, ◌<◌, ◌≤◌, inl, inr, List, length, Some, ℤ, refl, ap, sym, ◌∙◌, arith}
use Rattle.std.proofs.lemmas.Bool.{cases_lt}
use Rattle.intra_predict.specs.WholeSample.{side_of}
use Rattle.intra_predict.specs.declared.modes.BlockSize.{BlockSize}
use Rattle.intra_predict.specs.declared.modes.BlockSize.TheVariants.{Sixteen, Eight}
use Rattle.reference_frames.specs.Restored.{restored}
use Rattle.reference_frames.specs.AddedBlocks.{IsAddedAt, blocks_residual}
use Rattle.reference_frames.specs.PlacedBlocks.{IsInSquare, IsPlaced, from_corner, square_from}
use Rattle.reference_frames.proofs.Squares.{from_place}

-- the residuals of the first n rows of blocks were added to a square that begins in column x of row y
pub record HasRows (side first : ℕ) (blocks : List (List ℤ)) (across x y n : ℕ) (old new : List ℕ) : Type 0 where
  pub whole : length new ≡ length old
  pub done : (i j : ℕ) → i < side → j < side → j < 4 * n → slice_index new ((y + j) * across + (x + i)) ≡ restored side first (Some blocks) (square_from old across x y) i j
  pub later : (i j : ℕ) → i < side → j < side → 4 * n ≤ j → slice_index new ((y + j) * across + (x + i)) ≡ slice_index old ((y + j) * across + (x + i))
  pub outside : (i j : ℕ) → i < across → (IsInSquare x y side i j → ⊥) → slice_index new (j * across + i) ≡ slice_index old (j * across + i)

pub no_row : (side first : ℕ) (blocks : List (List ℤ)) (across x y : ℕ) (old : List ℕ) → HasRows side first blocks across x y 0 old old
no_row side first blocks across x y old = record { whole = refl; done = λ i j a b less. absurd (omega arith); later = λ i j a b c. refl; outside = λ i j a out. refl }

-- the rows of blocks of a square
pub rows_inside : (size : BlockSize) (n : ℕ) → n < side_of size / 4 → (4 * n + 4 ≤ side_of size) × (n * (side_of size / 4) + side_of size / 4 ≤ side_of size / 4 * (side_of size / 4)) × (0 < side_of size)
rows_inside Sixteen n less = (omega (arith, less), omega (arith, less), omega arith)
rows_inside Eight n less = (omega (arith, less), omega (arith, less), omega arith)

-- one row more
pub row_more : (size : BlockSize) (first : ℕ) (blocks : List (List ℤ)) (across x y n : ℕ) (old samples new : List ℕ) → x + side_of size ≤ across → n < side_of size / 4 → HasRows (side_of size) first blocks across x y n old samples →
    IsAddedAt (blocks_residual blocks (first + n * (side_of size / 4))) across (side_of size) x (y + 4 * n) samples new → HasRows (side_of size) first blocks across x y (n + 1) old new
row_more size first blocks across x y n old samples new wide few before is =
    let within = rows_inside size n few in
    record {
      whole = is.whole ∙ before.whole;
      done = λ i j a b less.
          let in_row : x + i < across = omega (arith, a, wide) in
          elim (cases_lt j (4 * n)) [
            | inl earlier ↦ is.others (x + i) (y + j) in_row (λ q. let from : y + 4 * n ≤ y + j = q.2 in absurd (omega (arith, from, earlier))) ∙ before.done i j a b earlier
            | inr from ↦
                let row : n ≡ j / 4 = omega (arith, from, less) in
                let column_at : x + i - x ≡ i = omega arith in
                let row_at : y + j - (y + 4 * n) ≡ j % 4 = omega (arith, from, less) in
                let block : first + n * (side_of size / 4) + i / 4 ≡ first + (j / 4 * (side_of size / 4) + i / 4) = rw row (omega arith) in
                is.each (x + i) (y + j) (omega arith, omega (arith, a), omega (arith, from), omega (arith, less)) ∙ rw (column_at, row_at, block, before.later i j a b from) refl
          ];
      later = λ i j a b more.
          is.others (x + i) (y + j) (omega (arith, a, wide)) (λ q. let to : y + j < y + 4 * n + 4 = q.3 in absurd (omega (arith, to, more))) ∙ before.later i j a b (omega (arith, more));
      outside = λ i j a out.
          is.others i j a (λ q. let from : y + 4 * n ≤ j = q.2 in let to : j < y + 4 * n + 4 = q.3 in out (q.0, q.1, omega (arith, from), omega (arith, to, within.0))) ∙ before.outside i j a out;
    }

all_below : (size : BlockSize) (j n : ℕ) → j < side_of size → n ≡ side_of size / 4 → j < 4 * n
all_below Sixteen j n less all = omega (arith, less, all)
all_below Eight j n less all = omega (arith, less, all)

-- all rows
pub all_added : (size : BlockSize) (first : ℕ) (blocks : List (List ℤ)) (across x y n : ℕ) (old new : List ℕ) → HasRows (side_of size) first blocks across x y n old new → n ≡ side_of size / 4 →
    IsPlaced (from_corner x y (restored (side_of size) first (Some blocks) (square_from old across x y))) across (side_of size) x y old new
all_added size first blocks across x y n old new has all = record {
  whole = has.whole;
  each = λ i j inside.
      let from_i : x ≤ i = inside.0 in
      let to_i : i < x + side_of size = inside.1 in
      let from_j : y ≤ j = inside.2 in
      let to_j : j < y + side_of size = inside.3 in
      let right : i - x < side_of size = omega (arith, from_i, to_i) in
      let down : j - y < side_of size = omega (arith, from_j, to_j) in
      sym (ap (λ n. slice_index new n) (from_place across x y i j from_i from_j)) ∙ has.done (i - x) (j - y) right down (all_below size (j - y) n down all);
  others = has.outside;
}
