-- Residuals that are added to two blocks next to each other, one after the other.
use Rattle.std.specs.Prelude.{slice_index}
use Rattle.std.proofs.Common.{◌≡◌, ℕ, ◌+◌, ◌-◌, ◌*◌, ◌/◌, ◌%◌, ◌<◌, ◌≤◌, ◌⊎◌, inl, inr, List, ◌++◌, length, get_or, take, drop, refl, ap, sym, ◌∙◌, arith, ℤ, pos, ◌+ℤ◌}
use Rattle.std.proofs.Math.ListN.{drop_of_length-le}
use Rattle.std.proofs.lemmas.Bool.{cases_lt}
use Rattle.std.proofs.lemmas.List.{take_all, length-take-le, length-drop, length-append, get_or-take, get_or-drop, append-nil, get_or_append_left, get_or-append_right}
use Rattle.vp8_tables.specs.Bounds.{clamped_sample}
use Rattle.transforms.specs.Transforms.{inverse_dct}
use Rattle.transforms.specs.Residuals.{IsAdded, pair_residual}

module _ (one two : ℕ → ℕ → ℤ) (stride : ℕ) (old mid part : List ℕ) (wide : 8 ≤ stride) (room : 3 * stride + 8 ≤ length old) (first : IsAdded one 4 stride old mid) (second : IsAdded two 4 stride (take (length mid - 4) (drop 4 mid)) part) where
  abbrev pub both : List ℕ
  both = take 4 mid ++ (part ++ drop (length mid - 4) (drop 4 mid))

  long : 4 ≤ length mid
  long = omega (arith, first.whole, room)

  rest_is : take (length mid - 4) (drop 4 mid) ≡ drop 4 mid
  rest_is = take_all (length mid - 4) (drop 4 mid) (omega (arith, length-drop 4 mid))

  both_is : both ≡ take 4 mid ++ part
  both_is = ap (λ (l : List ℕ). take 4 mid ++ (part ++ l)) (drop_of_length-le (drop 4 mid) (omega (arith, length-drop 4 mid))) ∙ ap (λ (l : List ℕ). take 4 mid ++ l) (append-nil part)

  part_long : length part ≡ length mid - 4
  part_long = second.whole ∙ ap length rest_is ∙ length-drop 4 mid

  front : length (take 4 mid) ≡ 4
  front = length-take-le 4 mid long

  both_long : length both ≡ length mid
  both_long = ap length both_is ∙ length-append (take 4 mid) part ∙ omega (arith, front, part_long, long)

  -- the first four samples, and each other
  at_front : (k : ℕ) → k < 4 → slice_index both k ≡ slice_index mid k
  at_front k less = ap (λ (l : List ℕ). get_or l k 0) both_is ∙ get_or_append_left (take 4 mid) part 0 k (omega (arith, front, less)) ∙ get_or-take 4 mid k 0 less

  at_part : (k : ℕ) → slice_index both (4 + k) ≡ slice_index part k
  at_part k =
      let place : 4 + k - 4 ≡ k = omega arith in
      ap (λ (l : List ℕ). get_or l (4 + k) 0) both_is ∙ get_or-append_right (take 4 mid) part 4 (4 + k) 0 front (omega arith) ∙ ap (λ (n : ℕ). get_or part n 0) place

  at_rest : (k : ℕ) → slice_index (take (length mid - 4) (drop 4 mid)) k ≡ slice_index mid (4 + k)
  at_rest k = ap (λ (l : List ℕ). get_or l k 0) rest_is ∙ get_or-drop 4 mid k 0

  -- a sample in the first four columns of a row after the first, or right of the second block
  unchanged : (column row k : ℕ) → column < stride → (4 ≤ column) ⊎ (4 ≤ row) → k ≡ row * stride + column → slice_index both (4 + k) ≡ slice_index mid (4 + k)
  unchanged column row k inside beside is = at_part k ∙ rw is (second.others column row inside beside ∙ at_rest (row * stride + column))

  -- the first block
  left : (column row : ℕ) → column < 4 → slice_index both (row * stride + column) ≡ slice_index mid (row * stride + column)
  left column row inside =
      elim (cases_lt 0 row) [
        | inr top ↦ let zero_row : row * stride + column < 4 = (let is : row ≡ 0 = omega (arith, top) in rw is (omega (arith, inside))) in at_front (row * stride + column) zero_row
        | inl later ↦
            let split : row ≡ (row - 1) + 1 = omega (arith, later) in
            let place : row * stride + column ≡ 4 + ((row - 1) * stride + (stride + column - 4)) = (let rows : row * stride ≡ (row - 1) * stride + stride = (let e : row * stride ≡ ((row - 1) + 1) * stride = ap (λ (n : ℕ). n * stride) split in omega (arith, e)) in omega (arith, rows, wide)) in
            rw place (unchanged (stride + column - 4) (row - 1) ((row - 1) * stride + (stride + column - 4)) (omega (arith, wide, inside)) (inl (omega (arith, wide))) refl)
      ]

  right_place : (column row : ℕ) → 4 ≤ column → row * stride + column ≡ 4 + (row * stride + (column - 4))
  right_place column row from = omega (arith, from)

  -- the second
  right : (column row : ℕ) → 4 ≤ column → column < 8 → row < 4 → slice_index both (row * stride + column) ≡ clamped_sample (pos (slice_index old (row * stride + column)) +ℤ two (column - 4) row)
  right column row from to below =
      let k = row * stride + (column - 4) in
      let place = right_place column row from in
      let before : slice_index mid (row * stride + column) ≡ slice_index old (row * stride + column) = first.others column row (omega (arith, wide, to)) (inl from) in
      ap (λ (n : ℕ). slice_index both n) place ∙ at_part k ∙ second.each (column - 4) row (omega (arith, from, to)) below
      ∙ ap (λ (n : ℕ). clamped_sample (pos n +ℤ two (column - 4) row)) (at_rest k ∙ ap (λ (n : ℕ). slice_index mid n) (sym place) ∙ before)

  beside : (column row : ℕ) → column < stride → (8 ≤ column) ⊎ (4 ≤ row) → slice_index both (row * stride + column) ≡ slice_index mid (row * stride + column)
  beside column row inside out =
      elim (cases_lt column 4) [
        | inl near ↦ left column row near
        | inr from ↦
            let place = right_place column row from in
            let away : (4 ≤ column - 4) ⊎ (4 ≤ row) = elim out [ inl far ↦ inl (omega (arith, far)) | inr below ↦ inr below ] in
            rw place (unchanged (column - 4) row (row * stride + (column - 4)) (omega (arith, inside)) away refl)
      ]

  pub both_added : (residual : ℕ → ℕ → ℤ) → ((column row : ℕ) → column < 4 → residual column row ≡ one column row) → ((column row : ℕ) → 4 ≤ column → column < 8 → residual column row ≡ two (column - 4) row) → IsAdded residual 8 stride old both
  both_added residual is_one is_two = record {
    whole = both_long ∙ first.whole;
    each = λ column row inside below.
        elim (cases_lt column 4) [
          | inl near ↦ left column row near ∙ first.each column row near below ∙ ap (λ (r : ℤ). clamped_sample (pos (slice_index old (row * stride + column)) +ℤ r)) (sym (is_one column row near))
          | inr from ↦ right column row from inside below ∙ ap (λ (r : ℤ). clamped_sample (pos (slice_index old (row * stride + column)) +ℤ r)) (sym (is_two column row from inside))
        ];
    others = λ column row inside out.
        let away : (4 ≤ column) ⊎ (4 ≤ row) = elim out [ inl far ↦ inl (omega (arith, far)) | inr below ↦ inr below ] in
        beside column row inside out ∙ first.others column row inside away;
  }

-- the residual of the first block, and of the second
pub of_first : (f s : List ℤ) (column row : ℕ) → column < 4 → pair_residual f s column row ≡ inverse_dct f column row
unfolding pair_residual
of_first f s column row inside =
    let block : column / 4 ≡ 0 = omega (arith, inside) in
    let at : column % 4 ≡ column = omega (arith, inside) in
    rw (block, at) refl

pub of_second : (f s : List ℤ) (column row : ℕ) → 4 ≤ column → column < 8 → pair_residual f s column row ≡ inverse_dct s (column - 4) row
unfolding pair_residual
of_second f s column row from to =
    let block : column / 4 ≡ 1 = omega (arith, from, to) in
    let at : column % 4 ≡ column - 4 = omega (arith, from, to) in
    rw (block, at) refl
