-- The samples above a sub block and to its right.
use Rattle.std.specs.Prelude.{slice_index, min, nat_lt, if◌then◌else◌}
use Rattle.std.proofs.Common.{◌≡◌, ℕ, ◌+◌, ◌-◌, ◌*◌, ◌%◌, ◌<◌, ap, sym, ◌∙◌, eq-eqb, arith}
use Rattle.std.proofs.lemmas.Bool.{ne_eqb, lt-ltb, le-ltb, cond-true, cond-false}
use Rattle.std.proofs.lemmas.List.FromFn.{get_or-map-range_with_len}
use Rattle.pixel_planes.specs.Samples.{Samples}
use Rattle.reference_frames.specs.AboveRightLaws.{ReadsRowAbove, ReadsNextBlock, RepeatsFirstRow, ReadsNextMacroblock, RepeatsLastColumn}
use Rattle.reference_frames.specs.Unfiltered.{above, above_eight, sub_column, sub_row, right_row}

-- one of the eight
above_eight_at : (p : Samples) (mx my n k : ℕ) → k < 8 → slice_index (above_eight p mx my n) k ≡ above p (min (sub_column mx n + k) (p.width - 1)) (if nat_lt k 4 then sub_row my n else right_row my n)
unfolding above_eight
above_eight_at p mx my n k less =
    get_or-map-range_with_len (λ k. above p (min (sub_column mx n + k) (p.width - 1)) (if nat_lt k 4 then sub_row my n else right_row my n)) 0 8 k k 0 less (omega arith)

-- one of the last four
far_at : (p : Samples) (mx my n k : ℕ) → k < 4 → slice_index (above_eight p mx my n) (4 + k) ≡ above p (min (sub_column mx n + (4 + k)) (p.width - 1)) (right_row my n)
far_at p mx my n k less =
    above_eight_at p mx my n (4 + k) (omega arith)
    ∙ ap (λ (row : ℕ). above p (min (sub_column mx n + (4 + k)) (p.width - 1)) row) (cond-false _ _ _ (le-ltb (4 + k) 4 (omega arith)))

pub reads_row_above : ReadsRowAbove
reads_row_above p mx my n k wide less =
    let inside : min (sub_column mx n + k) (p.width - 1) ≡ sub_column mx n + k = omega arith in
    above_eight_at p mx my n k (omega arith)
    ∙ ap (λ (row : ℕ). above p (min (sub_column mx n + k) (p.width - 1)) row) (cond-true _ _ _ (lt-ltb k 4 less))
    ∙ ap (λ (column : ℕ). above p column (sub_row my n)) inside

pub reads_next_block : ReadsNextBlock
reads_next_block p mx my n k wide inner less =
    let apart : n % 4 ≡ 3 → ⊥ = λ (same : n % 4 ≡ 3). absurd (omega arith) in
    let right : right_row my n ≡ sub_row my n = cond-false _ _ _ (ne_eqb (n % 4) 3 apart) in
    let row : sub_row my n ≡ sub_row my (n + 1) = omega arith in
    let column : min (sub_column mx n + (4 + k)) (p.width - 1) ≡ sub_column mx (n + 1) + k = omega arith in
    far_at p mx my n k less
    ∙ ap (λ (row : ℕ). above p (min (sub_column mx n + (4 + k)) (p.width - 1)) row) (right ∙ row)
    ∙ ap (λ (column : ℕ). above p column (sub_row my (n + 1))) column
    ∙ sym (reads_row_above p mx my (n + 1) k wide less)

pub repeats_first_row : RepeatsFirstRow
repeats_first_row p mx my n k last less =
    let right : right_row my n ≡ right_row my 3 = cond-true _ _ _ (eq-eqb (n % 4) 3 last) in
    let column : sub_column mx n ≡ sub_column mx 3 = omega arith in
    far_at p mx my n k less
    ∙ ap (λ (row : ℕ). above p (min (sub_column mx n + (4 + k)) (p.width - 1)) row) right
    ∙ ap (λ (column : ℕ). above p (min (column + (4 + k)) (p.width - 1)) (right_row my 3)) column
    ∙ sym (far_at p mx my 3 k less)

pub reads_next_macroblock : ReadsNextMacroblock
reads_next_macroblock p mx my k wide less =
    let row : right_row my 3 ≡ sub_row my 0 = omega arith in
    let column : min (sub_column mx 3 + (4 + k)) (p.width - 1) ≡ sub_column (mx + 1) 0 + k = omega arith in
    far_at p mx my 3 k less
    ∙ ap (λ (row : ℕ). above p (min (sub_column mx 3 + (4 + k)) (p.width - 1)) row) row
    ∙ ap (λ (column : ℕ). above p column (sub_row my 0)) column
    ∙ sym (reads_row_above p (mx + 1) my 0 k (omega arith) less)

pub repeats_last_column : RepeatsLastColumn
repeats_last_column p mx my k wide less =
    let column : min (sub_column mx 3 + (4 + k)) (p.width - 1) ≡ p.width - 1 = omega arith in
    far_at p mx my 3 k less ∙ ap (λ (column : ℕ). above p column (16 * my)) column
