-- The samples above a block and to its left, read by parts of rows.
use Rattle.std.specs.Prelude.{slice_index, min, nat_lt, if◌then◌else◌}
use Rattle.std.specs.List.{range_with_len}
use Rattle.std.proofs.Common.{◌≡◌, ℕ, ◌+◌, ◌-◌, ◌*◌, ◌<◌, ◌≤◌, List, ◌++◌, inl, inr, length, take, drop, map, replicate, ap, sym, ◌∙◌, eq-eqb, arith}
use Rattle.std.proofs.lemmas.Bool.{ne_eqb, lt-ltb, le-ltb, cases_lt, cond-true, cond-false}
use Rattle.std.proofs.lemmas.List.{length-replicate, length-take-le, length-drop, length-append, get_or-replicate, get_or-take, get_or-drop, get_or_append_left, get_or-append_right}
use Rattle.std.proofs.lemmas.List.FromFn.{fill_by_all, length-map-range_with_len, get_or-map-range_with_len}
use Rattle.pixel_planes.specs.Samples.{Samples, sample_at, row_of}
use Rattle.reference_frames.specs.Unfiltered.{above, left, above_row, left_column, above_eight, sub_column, sub_row, right_row}

-- a list of one number equals the list of a function that is that number at each index
pub replicate_is_map : (f : ℕ → ℕ) (n value : ℕ) → ((k : ℕ) → k < n → f k ≡ value) → replicate n value ≡ map f (range_with_len 0 n)
replicate_is_map f n value same =
    fill_by_all f (replicate n value) n 0 (length-replicate n value) (λ k less. get_or-replicate n k value 0 less ∙ sym (same k less))

-- a part of a list is the list of the entries at its indices
pub part_is_map : (f : ℕ → ℕ) (row : List ℕ) (x n : ℕ) → x + n ≤ length row → ((k : ℕ) → k < n → f k ≡ slice_index row (x + k)) → take (x + n - x) (drop x row) ≡ map f (range_with_len 0 n)
part_is_map f row x n within same =
    let size : x + n - x ≡ n = omega arith in
    let fits : n ≤ length (drop x row) = omega (arith, length-drop x row) in
    rw size (fill_by_all f (take n (drop x row)) n 0 (length-take-le n (drop x row) fits) (λ k less. get_or-take n (drop x row) k 0 less ∙ get_or-drop x row k 0 ∙ sym (same k less)))

-- a sample of a row is the plane's
pub row_sample : (p : Samples) (x y : ℕ) → x < p.width → slice_index (row_of p y) x ≡ sample_at p x y
row_sample p x y within =
    get_or-take (y * p.width + p.width - y * p.width) (drop (y * p.width) p.samples) x 0 (omega arith) ∙ get_or-drop (y * p.width) p.samples x 0

-- samples above the frame are 127
pub above_frame : (p : Samples) (x y n : ℕ) → y ≡ 0 → replicate n 127 ≡ above_row p x y n
unfolding above_row
above_frame p x y n top = replicate_is_map (λ k. above p (x + k) y) n 127 (λ k less. cond-true _ _ _ (eq-eqb _ _ top))

-- below that, a part of the row above
pub above_part : (p : Samples) (x y n : ℕ) (row : List ℕ) → (y ≡ 0 → ⊥) → row ≡ row_of p (y - 1) → length row ≡ p.width → x + n ≤ p.width → take (x + n - x) (drop x row) ≡ above_row p x y n
unfolding above_row
above_part p x y n row below is wide within =
    part_is_map (λ k. above p (x + k) y) row x n (omega (arith, wide)) (λ k less.
    cond-false _ _ _ (ne_eqb _ _ below) ∙ sym (ap (λ (r : List ℕ). slice_index r (x + k)) is ∙ row_sample p (x + k) (y - 1) (omega arith)))

-- samples to the left of the frame are 129
pub left_of_frame : (p : Samples) (x y n : ℕ) → x ≡ 0 → replicate n 129 ≡ left_column p x y n
unfolding left_column
left_of_frame p x y n first = replicate_is_map (λ k. left p x (y + k)) n 129 (λ k less. cond-true _ _ _ (eq-eqb _ _ first))

-- right of that, a part of the column to the left
pub left_part : (p : Samples) (x y n : ℕ) → (x ≡ 0 → ⊥) → map (λ k. sample_at p (x - 1) (y + k)) (range_with_len 0 n) ≡ left_column p x y n
unfolding left_column
left_part p x y n inside =
    fill_by_all (λ k. left p x (y + k)) (map (λ k. sample_at p (x - 1) (y + k)) (range_with_len 0 n)) n 0 (length-map-range_with_len (λ k. sample_at p (x - 1) (y + k)) 0 n) (λ k less.
    get_or-map-range_with_len (λ k. sample_at p (x - 1) (y + k)) 0 n k k 0 less (omega arith) ∙ sym (cond-false _ _ _ (ne_eqb _ _ inside)))

-- inside the plane its last column does not repeat
pub above_within : (p : Samples) (x y n : ℕ) → x + n ≤ p.width → above_row p x y n ≡ map (λ k. above p (min (x + k) (p.width - 1)) y) (range_with_len 0 n)
unfolding above_row
above_within p x y n within =
    fill_by_all (λ k. above p (min (x + k) (p.width - 1)) y) (map (λ k. above p (x + k) y) (range_with_len 0 n)) n 0 (length-map-range_with_len (λ k. above p (x + k) y) 0 n) (λ k less.
    let same : x + k ≡ min (x + k) (p.width - 1) = omega arith in
    get_or-map-range_with_len (λ k. above p (x + k) y) 0 n k k 0 less (omega arith) ∙ ap (λ (column : ℕ). above p column y) same)

-- the four samples above a sub block and the four on their right
above_eight_parts : (p : Samples) (mx my n right_y : ℕ) → right_y ≡ right_row my n → sub_column mx n + 4 ≤ p.width →
    above_row p (sub_column mx n) (sub_row my n) 4 ++ map (λ k. above p (min (sub_column mx n + 4 + k) (p.width - 1)) right_y) (range_with_len 0 4) ≡ above_eight p mx my n
unfolding above_row above_eight
above_eight_parts p mx my n right_y right within =
    let x : ℕ = sub_column mx n in
    let near : ℕ → ℕ = λ k. above p (x + k) (sub_row my n) in
    let far : ℕ → ℕ = λ k. above p (min (x + 4 + k) (p.width - 1)) right_y in
    let each : ℕ → ℕ → ℕ = λ (column row : ℕ). above p (min column (p.width - 1)) row in
    let first : List ℕ = map near (range_with_len 0 4) in
    let last : List ℕ = map far (range_with_len 0 4) in
    fill_by_all (λ k. each (x + k) (if nat_lt k 4 then sub_row my n else right_row my n)) (first ++ last) 8 0
    (length-append first last)
    (λ k less. elim (cases_lt k 4) [
      | inl front ↦
          let clamped_sample : x + k ≡ min (x + k) (p.width - 1) = omega (arith, within) in
          get_or_append_left first last 0 k front ∙ get_or-map-range_with_len near 0 4 k k 0 front (omega arith) ∙ ap (λ (column : ℕ). above p column (sub_row my n)) clamped_sample
          ∙ ap (λ row. each (x + k) row) (sym (cond-true _ _ _ (lt-ltb k 4 front)))
      | inr back ↦
          let place : x + 4 + (k - 4) ≡ x + k = omega arith in
          get_or-append_right first last 4 k 0 (length-map-range_with_len near 0 4) back ∙ get_or-map-range_with_len far 0 4 (k - 4) (k - 4) 0 (omega arith) (omega arith)
          ∙ ap (λ (column : ℕ). each column right_y) place ∙ ap (λ row. each (x + k) row) (right ∙ sym (cond-false _ _ _ (le-ltb k 4 back)))
    ])

-- these two, each read by a call
pub above_eight_read : (p : Samples) (mx my n right_y a b : ℕ) (first last : List ℕ) → right_y ≡ right_row my n → sub_column mx n + 4 ≤ p.width → a ≡ 4 → b + a ≡ 8 →
    first ≡ above_row p (sub_column mx n) (sub_row my n) a → last ≡ map (λ k. above p (min (sub_column mx n + 4 + k) (p.width - 1)) right_y) (range_with_len 0 b) → first ++ last ≡ above_eight p mx my n
above_eight_read p mx my n right_y a b first last right within front back is_first is_last =
    let four : b ≡ 4 = omega arith in
    rw (is_first, is_last, front, four) (above_eight_parts p mx my n right_y right within)
