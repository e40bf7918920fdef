-- The samples of a plane, as its blocks are written one after another.
use Rattle.std.specs.Prelude.{replicate, slice_index, map, min, nat_lt, if◌then◌else◌}
use Rattle.std.specs.List.{range_with_len}
use Rattle.std.specs.Simd.Lanes.{put_chunk}
use Rattle.std.proofs.Common.{◌≡◌, ℕ, zero, suc, ◌+◌, ◌-◌, ◌*◌, ◌<◌, ◌≤◌, ◌⊎◌, inl, inr, List, length, take, refl, ap, sym, ◌∙◌, arith, eq-eqb}
use Rattle.std.proofs.lemmas.Bool.{cases_lt, cases_eq, ne_eqb, lt-ltb, cond-true, cond-false}
use Rattle.std.proofs.lemmas.List.{length-replicate, get_or-replicate}
use Rattle.std.proofs.lemmas.List.FromFn.{fill_by_all, length-map-range_with_len, get_or-map-range_with_len, take-map-range_with_len}
use Rattle.std.proofs.lemmas.Simd.{length-put_chunk, get_or-chunk, get_or-put_chunk_below, get_or-put_chunk_at, get_or-put_chunk_above}
use Rattle.pixel_planes.specs.Samples.{Samples, sample_at, row_of}
use Rattle.pixel_planes.proofs.Rows.{row_fits, written_row, kept_row}
use Rattle.reference_frames.specs.Unfiltered.{above, left, above_row, left_column, above_eight, sub_column, sub_row, right_row, block_row, with_span, with_block, with_block_rows}
use Rattle.reference_frames.specs.PlacedBlocks.{IsInSquare}
use Rattle.reference_frames.specs.UnfilteredLaws.{WritesOneBlock}
use Rattle.reference_frames.proofs.Blocks.{part_length}

-- ---- a span

-- a row's length
pub row_length : (p : Samples) (y : ℕ) → length p.samples ≡ p.width * p.height → y < p.height → length (row_of p y) ≡ p.width
row_length p y whole below =
    let fits : y * p.width + p.width ≤ p.width * p.height = row_fits p.width p.height y below in
    part_length p.samples (y * p.width) p.width (omega arith)

-- a sample of a row
row_sample : (p : Samples) (x y : ℕ) → x < p.width → slice_index (row_of p y) x ≡ sample_at p x y
row_sample p x y within = get_or-chunk (y * p.width) (y * p.width + p.width - y * p.width) p.samples x 0 (omega arith)

-- a sample that was written
span_in : (p : Samples) (x y k : ℕ) (span : List ℕ) → length p.samples ≡ p.width * p.height → x + length span ≤ p.width → y < p.height → k < length span → sample_at (with_span p x y span) (x + k) y ≡ slice_index span k
span_in p x y k span whole fits below lt =
    let long : length (row_of p y) ≡ p.width = row_length p y whole below in
    written_row p y (put_chunk x (row_of p y) span) (x + k) whole (length-put_chunk x (row_of p y) span ∙ long) below (omega arith)
    ∙ get_or-put_chunk_at x (row_of p y) span k 0 lt (omega arith)

-- another sample of the same row
span_beside : (p : Samples) (x y i : ℕ) (span : List ℕ) → length p.samples ≡ p.width * p.height → y < p.height → i < p.width → (x ≤ i → i < x + length span → ⊥) → sample_at (with_span p x y span) i y ≡ sample_at p i y
span_beside p x y i span whole below within out =
    let long : length (row_of p y) ≡ p.width = row_length p y whole below in
    let read = written_row p y (put_chunk x (row_of p y) span) i whole (length-put_chunk x (row_of p y) span ∙ long) below within in
    elim (cases_lt i x) [
      | inl before ↦ read ∙ get_or-put_chunk_below x (row_of p y) span i 0 before ∙ row_sample p i y within
      | inr from ↦
          let following : x + length span ≤ i = elim (cases_lt i (x + length span)) [ inl lt ↦ absurd (out from lt) | inr le ↦ le ] in
          read ∙ get_or-put_chunk_above x (row_of p y) span i 0 following ∙ row_sample p i y within
    ]

-- a sample that was not written
span_out : (p : Samples) (x y i j : ℕ) (span : List ℕ) → length p.samples ≡ p.width * p.height → y < p.height → i < p.width → (j ≡ y → x ≤ i → i < x + length span → ⊥) → sample_at (with_span p x y span) i j ≡ sample_at p i j
span_out p x y i j span whole below within out =
    let long : length (row_of p y) ≡ p.width = row_length p y whole below in
    elim (cases_eq j y) [
      | inl same ↦ rw same (span_beside p x y i span whole below within (out same))
      | inr apart ↦ kept_row p y (put_chunk x (row_of p y) span) i j (length-put_chunk x (row_of p y) span ∙ long) within apart
    ]

-- ---- a block

-- the plane has these sides, and a sample for each position
pub record IsPlane (w h : ℕ) (p : Samples) : Type 0 where
  pub wide : p.width ≡ w
  pub high : p.height ≡ h
  pub whole : length p.samples ≡ p.width * p.height

pub IsPlane-with_block_rows : (w h : ℕ) (p : Samples) (x y side : ℕ) (sample : ℕ → ℕ → ℕ) (n : ℕ) → IsPlane w h p → IsPlane w h (with_block_rows p x y side sample n)
unfolding with_block_rows
IsPlane-with_block_rows w h p x y side sample zero shape = shape
IsPlane-with_block_rows w h p x y side sample (suc n) shape =
    let before = IsPlane-with_block_rows w h p x y side sample n shape in
    record { wide = before.wide; high = before.high; whole = length-put_chunk _ _ _ ∙ before.whole }

-- how long a row of a block is
block_row-length : (side : ℕ) (sample : ℕ → ℕ → ℕ) (row : ℕ) → length (block_row side sample row) ≡ side
block_row-length side sample row = length-map-range_with_len (λ column. sample column row) 0 side

-- a sample of a row of a block
span_given : (p : Samples) (x y i side : ℕ) (sample : ℕ → ℕ → ℕ) (row : ℕ) → length p.samples ≡ p.width * p.height → x + side ≤ p.width → y < p.height → x ≤ i → i < x + side → sample_at (with_span p x y (block_row side sample row)) i y ≡ sample (i - x) row
span_given p x y i side sample row whole fits below from to =
    let long : length (block_row side sample row) ≡ side = block_row-length side sample row in
    let place : x + (i - x) ≡ i = omega arith in
    sym (ap (λ m. sample_at (with_span p x y (block_row side sample row)) m y) place)
    ∙ span_in p x y (i - x) (block_row side sample row) whole (omega arith) below (omega arith)
    ∙ get_or-map-range_with_len (λ column. sample column row) 0 side (i - x) (i - x) 0 (omega arith) (omega arith)

-- a sample of the rows that were written
pub rows_in : (w h : ℕ) (p : Samples) (x y side : ℕ) (sample : ℕ → ℕ → ℕ) (n i j : ℕ) → IsPlane w h p → x + side ≤ w → y + n ≤ h → x ≤ i → i < x + side → y ≤ j → j < y + n → sample_at (with_block_rows p x y side sample n) i j ≡ sample (i - x) (j - y)
unfolding with_block_rows
rows_in w h p x y side sample zero i j shape wide high a b c d = absurd (omega arith)
rows_in w h p x y side sample (suc n) i j shape wide high a b c d =
    let before : IsPlane w h (with_block_rows p x y side sample n) = IsPlane-with_block_rows w h p x y side sample n shape in
    elim (cases_eq j (y + n)) [
      | inl same ↦
          let row : n ≡ j - y = omega arith in
          ap (sample_at (with_span (with_block_rows p x y side sample n) x (y + n) (block_row side sample n)) i) same
          ∙ span_given (with_block_rows p x y side sample n) x (y + n) i side sample n before.whole (omega arith) (omega arith) a b
          ∙ ap (sample (i - x)) row
      | inr apart ↦
          let long : length (block_row side sample n) ≡ side = block_row-length side sample n in
          span_out (with_block_rows p x y side sample n) x (y + n) i j (block_row side sample n) before.whole (omega arith) (omega arith) (λ same from to. apart same)
          ∙ rows_in w h p x y side sample n i j shape wide (omega arith) a b c (omega arith)
    ]

-- a sample outside the rows that were written
pub rows_out : (w h : ℕ) (p : Samples) (x y side : ℕ) (sample : ℕ → ℕ → ℕ) (n i j : ℕ) → IsPlane w h p → x + side ≤ w → y + n ≤ h → i < w → (x ≤ i → i < x + side → y ≤ j → j < y + n → ⊥) → sample_at (with_block_rows p x y side sample n) i j ≡ sample_at p i j
unfolding with_block_rows
rows_out w h p x y side sample zero i j shape wide high within out = refl
rows_out w h p x y side sample (suc n) i j shape wide high within out =
    let before : IsPlane w h (with_block_rows p x y side sample n) = IsPlane-with_block_rows w h p x y side sample n shape in
    let long : length (block_row side sample n) ≡ side = block_row-length side sample n in
    span_out (with_block_rows p x y side sample n) x (y + n) i j (block_row side sample n) before.whole (omega arith) (omega arith) (λ same from to. out from (omega arith) (omega arith) (omega arith))
    ∙ rows_out w h p x y side sample n i j shape wide (omega arith) within (λ a b c d. out a b c (omega arith))

pub block_write_local : WritesOneBlock
block_write_local p x y side sample i j whole holds within below =
    let shape : IsPlane p.width p.height p = record { wide = refl; high = refl; whole = whole.4 } in
    (λ inside. rows_in p.width p.height p x y side sample side i j shape holds.0 holds.1 inside.0 inside.1 inside.2 inside.3, λ outside. rows_out p.width p.height p x y side sample side i j shape holds.0 holds.1 within (λ a b c d. outside (a, b, c, d)))

-- ---- known samples of a plane

-- in the first n columns and m rows `of_row` returns each sample by its row
pub record IsDone (of_row : ℕ → ℕ) (w h n m : ℕ) (p : Samples) : Type 0 where
  pub at : (i j : ℕ) → i < n → j < m → i < w → j < h → sample_at p i j ≡ of_row j

-- a position is in a square, or it is not
pub in_or_out : (x y side i j : ℕ) → IsInSquare x y side i j ⊎ (x ≤ i → i < x + side → y ≤ j → j < y + side → ⊥)
in_or_out x y side i j =
    elim (cases_lt i x) [
      | inl before ↦ inr (λ a b c d. omega arith)
      | inr a ↦ elim (cases_lt i (x + side)) [
        | inr following ↦ inr (λ a b c d. omega arith)
        | inl b ↦ elim (cases_lt j y) [
          | inl higher ↦ inr (λ a b c d. omega arith)
          | inr c ↦ elim (cases_lt j (y + side)) [
            | inr lower ↦ inr (λ a b c d. omega arith)
            | inl d ↦ inl (a, b, c, d)
          ]
        ]
      ]
    ]

-- a block of the right value does its own samples, and leaves the others
block_done : (of_row : ℕ → ℕ) (w h n m : ℕ) (p : Samples) (x y side : ℕ) (sample : ℕ → ℕ → ℕ) → IsPlane w h p → x + side ≤ w → y + side ≤ h → ((column row : ℕ) → row < side → sample column row ≡ of_row (y + row)) → ((i j : ℕ) → i < n → j < m → i < w → j < h → (x ≤ i → i < x + side → y ≤ j → j < y + side → ⊥) → sample_at p i j ≡ of_row j) → IsDone of_row w h n m (with_block p x y side sample)
block_done of_row w h n m p x y side sample shape wide high right others =
    let done : (i j : ℕ) → i < n → j < m → i < w → j < h → sample_at (with_block p x y side sample) i j ≡ of_row j = λ i j a b c d.
    elim (in_or_out x y side i j) [
      | inl inside ↦
          let from : y ≤ j = inside.2 in
          let to : j < y + side = inside.3 in
          let below : j - y < side = omega arith in
          let place : y + (j - y) ≡ j = omega arith in
          rows_in w h p x y side sample side i j shape wide high inside.0 inside.1 inside.2 inside.3 ∙ right (i - x) (j - y) below ∙ ap of_row place
      | inr outside ↦ rows_out w h p x y side sample side i j shape wide high c outside ∙ others i j a b c d outside
    ] in
    record { at = done }

-- known samples remain known
pub block_kept : (of_row : ℕ → ℕ) (w h n m : ℕ) (p : Samples) (x y side : ℕ) (sample : ℕ → ℕ → ℕ) → IsPlane w h p → x + side ≤ w → y + side ≤ h → ((column row : ℕ) → row < side → sample column row ≡ of_row (y + row)) → IsDone of_row w h n m p → IsDone of_row w h n m (with_block p x y side sample)
block_kept of_row w h n m p x y side sample shape wide high right before =
    block_done of_row w h n m p x y side sample shape wide high right (λ i j a b c d out. before.at i j a b c d)

-- with the samples above the block and to its left, all are known down to the block's last sample
pub block_more : (of_row : ℕ → ℕ) (w h : ℕ) (p : Samples) (x y side : ℕ) (sample : ℕ → ℕ → ℕ) → IsPlane w h p → x + side ≤ w → y + side ≤ h → ((column row : ℕ) → row < side → sample column row ≡ of_row (y + row)) → IsDone of_row w h (x + side) y p → IsDone of_row w h x (y + side) p → IsDone of_row w h (x + side) (y + side) (with_block p x y side sample)
block_more of_row w h p x y side sample shape wide high right upper before =
    block_done of_row w h (x + side) (y + side) p x y side sample shape wide high right (λ i j a b c d out.
    elim (cases_lt i x) [
      | inl lt ↦ before.at i j lt b c d
      | inr from ↦ elim (cases_lt j y) [ inl lt ↦ upper.at i j a lt c d | inr le ↦ absurd (out from a le b) ]
    ])

-- known samples, for fewer columns and rows
pub IsDone-less : (of_row : ℕ → ℕ) (w h n m n' m' : ℕ) (p : Samples) → n' ≤ n → m' ≤ m → IsDone of_row w h n m p → IsDone of_row w h n' m' p
IsDone-less of_row w h n m n' m' p fewer lower before = record { at = λ i j a b c d. before.at i j (omega arith) (omega arith) c d }

-- ---- the samples round a block

-- a list of one value
mapped_is : (f : ℕ → ℕ) (n value : ℕ) → ((k : ℕ) → k < n → f k ≡ value) → map f (range_with_len 0 n) ≡ replicate n value
mapped_is f n value each = sym (fill_by_all f (replicate n value) n 0 (length-replicate n value) (λ k less. get_or-replicate n k value 0 less ∙ sym (each k less)))

pub above_row_is : (p : Samples) (x y n value : ℕ) → ((k : ℕ) → k < n → above p (x + k) y ≡ value) → above_row p x y n ≡ replicate n value
unfolding above_row
above_row_is p x y n value each = mapped_is (λ k. above p (x + k) y) n value each

pub left_column_is : (p : Samples) (x y n value : ℕ) → ((k : ℕ) → k < n → left p x (y + k) ≡ value) → left_column p x y n ≡ replicate n value
unfolding left_column
left_column_is p x y n value each = mapped_is (λ k. left p x (y + k)) n value each

-- the first four of the eight samples above a sub block
pub above_eight_is : (p : Samples) (mx my n value : ℕ) → sub_column mx n + 4 ≤ p.width → ((k : ℕ) → k < 4 → above p (sub_column mx n + k) (sub_row my n) ≡ value) → take 4 (above_eight p mx my n) ≡ replicate 4 value
unfolding above_eight
above_eight_is p mx my n value wide each =
    let sample : ℕ → ℕ = λ (k : ℕ). above p (min (sub_column mx n + k) (p.width - 1)) (if nat_lt k 4 then sub_row my n else right_row my n) in
    take-map-range_with_len sample 0 8 4 (omega arith)
    ∙ mapped_is sample 4 value (λ k less.
    let column : min (sub_column mx n + k) (p.width - 1) ≡ sub_column mx n + k = omega arith in
    let row : (if nat_lt k 4 then sub_row my n else right_row my n) ≡ sub_row my n = cond-true _ _ _ (lt-ltb k 4 less) in
    ap (λ i. above p i (if nat_lt k 4 then sub_row my n else right_row my n)) column ∙ ap (above p (sub_column mx n + k)) row ∙ each k less)

-- above the frame
pub above_edge : (p : Samples) (x y : ℕ) → y ≡ 0 → above p x y ≡ 127
above_edge p x y at_top = cond-true _ _ _ (eq-eqb y 0 at_top)

-- to the left of the frame
pub left_edge : (p : Samples) (x y : ℕ) → x ≡ 0 → left p x y ≡ 129
left_edge p x y at_left = cond-true _ _ _ (eq-eqb x 0 at_left)

-- below a row that is done
pub above_done : (of_row : ℕ → ℕ) (w h : ℕ) (p : Samples) (x y n k value : ℕ) → IsDone of_row w h (x + n) y p → x + n ≤ w → y ≤ h → (y ≡ 0 → ⊥) → of_row (y - 1) ≡ value → k < n → above p (x + k) y ≡ value
above_done of_row w h p x y n k value done wide high below is less =
    cond-false _ _ _ (ne_eqb y 0 below) ∙ done.at (x + k) (y - 1) (omega arith) (omega arith) (omega arith) (omega arith) ∙ is

-- next to a column of known samples
pub left_done : (of_row : ℕ → ℕ) (w h : ℕ) (p : Samples) (x y n k value : ℕ) → IsDone of_row w h x (y + n) p → x ≤ w → y + n ≤ h → (x ≡ 0 → ⊥) → of_row (y + k) ≡ value → k < n → left p x (y + k) ≡ value
left_done of_row w h p x y n k value done wide high beside is less =
    cond-false _ _ _ (ne_eqb x 0 beside) ∙ done.at (x - 1) (y + k) (omega arith) (omega arith) (omega arith) (omega arith) ∙ is
