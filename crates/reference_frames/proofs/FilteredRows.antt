-- A frame whose rows of macroblocks are filtered while it is predicted: after some rows, and after all.
use Rattle.std.specs.Prelude.{Option, map, min}
use Rattle.std.specs.List.{range_with_len}
use Rattle.std.proofs.Common.{◌≡◌, ◌⊎◌, ℕ, ◌+◌, ◌*◌, ◌/◌, ◌<◌, ◌≤◌, inl, inr, Bool, List, length, refl, ap, sym, ◌∙◌, zero-mul, arith}
use Rattle.std.proofs.Math.Nat.{mul-le-mul_right}
use Rattle.std.proofs.lemmas.List.FromFn.{length-map-range_with_len}
use Rattle.pixel_planes.specs.PlaneSamples.{PlaneSamples, AreWhole}
use Rattle.frame_header.specs.declared.header.Header.{Header}
use Rattle.loop_filter.specs.Frames.{KeepSides, planes_filtered, strength_at, filtered_row, filtered_planes, columns_in, rows_in}
use Rattle.loop_filter.proofs.Raster.{none_of_frame, next_row, all_rows}
use Rattle.mode_parser.specs.declared.records.MbMode.{MbMode}
use Rattle.reference_frames.specs.Restored.{Residual}
use Rattle.reference_frames.specs.Rows.{row_predicted}
use Rattle.reference_frames.specs.Unfiltered.{SameShape, predicted_macroblocks}
use Rattle.reference_frames.specs.declared.references.References.{References}
use Rattle.reference_frames.proofs.AgreeFrames.{HaveShape}
use Rattle.reference_frames.proofs.FrontRows.{frame_row, frame_shape, row_by_all, row_commutes}

-- planes of these sides, and others that keep them
pub shape_of : (columns rows : ℕ) (planes : PlaneSamples) → AreWhole columns rows planes → HaveShape columns rows planes
shape_of columns rows planes are = record {
  luma = record { wide = are.luma.0.0; high = are.luma.0.1; whole = are.luma.1.4 };
  cb = record { wide = are.cb.0.0; high = are.cb.0.1; whole = are.cb.1.4 };
  cr = record { wide = are.cr.0.0; high = are.cr.0.1; whole = are.cr.1.4 };
}

keep_sides : (columns rows : ℕ) (first start old : PlaneSamples) → HaveShape columns rows first → HaveShape columns rows start → SameShape first old → KeepSides start old
keep_sides columns rows first start old one two same = (
  same.0.0 ∙ one.luma.wide ∙ sym two.luma.wide,
  same.0.1 ∙ one.luma.high ∙ sym two.luma.high,
  same.1.0 ∙ one.cb.wide ∙ sym two.cb.wide,
  same.1.1 ∙ one.cb.high ∙ sym two.cb.high,
  same.2.0 ∙ one.cr.wide ∙ sym two.cr.wide,
  same.2.1 ∙ one.cr.high ∙ sym two.cr.high,
)

pub still_same : (first old new : PlaneSamples) → SameShape first old → KeepSides old new → SameShape first new
still_same first old new same kept = ((kept.0 ∙ same.0.0, kept.1 ∙ same.0.1), (kept.2 ∙ same.1.0, kept.3 ∙ same.1.1), (kept.4 ∙ same.2.0, kept.5 ∙ same.2.1))

sixteenth : (n length : ℕ) → length ≡ 16 * n → length / 16 ≡ n
sixteenth n length is = omega (arith, is)

-- there are flags up to the end of row r
pub flags_reach : (flag : ℕ → Bool) (flags items : List Bool) (columns r n width : ℕ) → flags ≡ map flag (range_with_len 0 n) → items ≡ flags → width ≡ 16 * columns → (r + 1) * columns ≤ n → (r + 1) * (width / 16) ≤ length items
flags_reach flag flags items columns r n width are same wide some =
    let long : length items ≡ n = ap (λ (l : List Bool). length l) (same ∙ are) ∙ length-map-range_with_len {X = Bool} flag 0 n in
    rw (sixteenth columns width wide) (omega (arith, some, long))

-- so many macroblocks are the rows up to row r
pub rows_up_to : (columns my r : ℕ) → r + 1 ≤ my → (r + 1) * columns ≤ my * columns
rows_up_to columns my r upto = mul-le-mul_right columns upto

-- the number of rows that are predicted, of all and of one more than my
pub now_predicted : (my rows : ℕ) → my < rows → (min my rows ≡ my) × (min (my + 1) rows ≡ my + 1)
now_predicted my rows below = (omega (arith, below), omega (arith, below))

pub all_predicted : (my rows : ℕ) → rows ≤ my → (min my rows ≡ rows) × (min (my + 1) rows ≡ rows)
all_predicted my rows from = (omega (arith, from), omega (arith, from))

module _ (header : Header) (flag : ℕ → Bool) (version : ℕ) (references : Option References) (columns rows : ℕ) (start : PlaneSamples) (modes : List MbMode) (residuals : ℕ → Residual) where
  -- the flags of all macroblocks
  abbrev flags : List Bool
  flags = map flag (range_with_len 0 (length modes))

  abbrev predicted : ℕ → PlaneSamples
  predicted my = predicted_macroblocks version references start columns modes residuals (my * columns)

  -- the first r rows of macroblocks of these planes are filtered
  abbrev filtered : ℕ → PlaneSamples → PlaneSamples
  filtered r planes = planes_filtered header.filter.is_simple (strength_at header modes flags) columns r planes

  -- after my rows are predicted the first r are filtered
  pub record IsDone (my r : ℕ) (planes : PlaneSamples) : Type 0 where
    pub off : header.filter.level ≡ 0 → planes ≡ predicted my
    pub on : 0 < header.filter.level → planes ≡ filtered r (predicted my)

  pub none_done : IsDone 0 0 start
  unfolding predicted_macroblocks
  none_done = record {
    off = λ level. rw zero-mul refl;
    on = λ level. rw zero-mul (sym (none_of_frame header.filter.is_simple (strength_at header modes flags) columns start));
  }

  module _ (shape : HaveShape columns rows start) where
    shape_after : (my : ℕ) → HaveShape columns rows (predicted my)
    shape_after my = frame_shape version references columns rows start modes residuals (my * columns) shape

    next_predicted : (my : ℕ) → row_predicted version references (predicted my) columns my modes residuals columns ≡ predicted (my + 1)
    next_predicted my =
        let next : my * columns + columns ≡ (my + 1) * columns = omega arith in
        frame_row version references start columns my modes residuals columns ∙ ap (predicted_macroblocks version references start columns modes residuals) next

    -- one row more is predicted
    commutes : (my r : ℕ) → r ≤ rows → (r ≡ 0) ⊎ (r < my) → row_predicted version references (filtered r (predicted my)) columns my modes residuals columns ≡ filtered r (row_predicted version references (predicted my) columns my modes residuals columns)
    commutes my r within (inl none) =
        let nothing : (planes : PlaneSamples) → filtered r planes ≡ planes = λ planes. rw none (none_of_frame header.filter.is_simple (strength_at header modes flags) columns planes) in
        ap (λ p. row_predicted version references p columns my modes residuals columns) (nothing (predicted my)) ∙ sym (nothing (row_predicted version references (predicted my) columns my modes residuals columns))
    commutes my r within (inr below) = row_commutes version references columns rows r my within below modes residuals (predicted my) (shape_after my) header modes flags

    pub row_done : (my r : ℕ) (old new : PlaneSamples) → r ≤ rows → (r ≡ 0) ⊎ (r < my) → IsDone my r old → new ≡ row_predicted version references old columns my modes residuals columns → IsDone (my + 1) r new
    row_done my r old new within apart before here =
        let row : PlaneSamples → PlaneSamples = λ planes. row_predicted version references planes columns my modes residuals columns in record {
          off = λ level. here ∙ ap row (before.off level) ∙ next_predicted my;
          on = λ level. here ∙ ap row (before.on level) ∙ commutes my r within apart ∙ ap (filtered r) (next_predicted my);
        }

    -- one row more is filtered, by the flags so far
    pub row_filtered : (my r n : ℕ) (so_far : List Bool) (old new : PlaneSamples) → SameShape start old → IsDone my r old → so_far ≡ map flag (range_with_len 0 n) → (r + 1) * columns ≤ n → n ≤ length modes → new ≡ filtered_row header modes so_far r old → (header.filter.level ≡ 0 → new ≡ old) → IsDone my (r + 1) new
    row_filtered my r n so_far old new same before are some within here kept =
        let sides : KeepSides (predicted my) old = keep_sides columns rows start (predicted my) old shape (shape_after my) same in
        let wide : columns_in (predicted my) ≡ columns = sixteenth columns (predicted my).luma.width (shape_after my).luma.wide in
        let wide_old : columns_in old ≡ columns = sixteenth columns old.luma.width (same.0.0 ∙ shape.luma.wide) in
        let by_all : new ≡ filtered_row header modes flags r old = here ∙ row_by_all header modes flag so_far columns r n old wide_old are some within in
        let of : ℕ → ℕ → PlaneSamples = λ c k. planes_filtered header.filter.is_simple (strength_at header modes flags) c k (predicted my) in record {
          off = λ level. kept level ∙ before.off level;
          on = λ level. next_row header modes flags r (predicted my) old new level sides (before.on level ∙ ap (λ c. of c r) (sym wide)) by_all ∙ ap (λ c. of c (r + 1)) wide;
        }

    -- all rows
    pub all_done : (planes : PlaneSamples) → length modes ≡ columns * rows → IsDone rows rows planes → planes ≡ filtered_planes header modes flags (predicted_macroblocks version references start columns modes residuals (length modes))
    all_done planes count done =
        let all : rows * columns ≡ length modes = omega (arith, count) in
        let wide : columns_in (predicted rows) ≡ columns = sixteenth columns (predicted rows).luma.width (shape_after rows).luma.wide in
        let high : rows_in (predicted rows) ≡ rows = sixteenth rows (predicted rows).luma.height (shape_after rows).luma.high in
        all_rows header modes flags rows (predicted rows) planes (sym high) (λ level. done.on level ∙ ap (λ c. planes_filtered header.filter.is_simple (strength_at header modes flags) c rows (predicted rows)) (sym wide)) done.off
        ∙ ap (λ n. filtered_planes header modes flags (predicted_macroblocks version references start columns modes residuals n)) all
