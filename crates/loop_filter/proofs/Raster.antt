-- Filtering plane by plane is filtering macroblock by macroblock.
use Rattle.std.proofs.Common.{◌≡◌, ℕ, zero, suc, ◌+◌, ◌*◌, ◌/◌, ◌%◌, ◌<◌, ◌≤◌, ◌==◌, Bool, true, false, List, Option, ap, refl, sym, ◌∙◌, add-one, inl, inr, arith}
use Rattle.std.proofs.lemmas.Bool.{cases_eq, eq-eqb, ne_eqb, cond-true, cond-false}
use Rattle.std.proofs.lemmas.Nat.{div-mul-add, mod-mul-add}
use Rattle.frame_header.specs.declared.header.Header.{Header}
use Rattle.mode_parser.specs.declared.records.MbMode.{MbMode}
use Rattle.pixel_planes.specs.PlaneSamples.{PlaneSamples}
use Rattle.loop_filter.specs.Blocks.{luma, chroma}
use Rattle.loop_filter.specs.Frames.{KeepSides, planes_filtered, planes_row_filtered, row_filtered, rows_filtered, strength_at, columns_in, rows_in, filtered_planes, filtered_row}
use Rattle.loop_filter.specs.Laws.{macroblock_in_planes, macroblocks_in_planes}
use Rattle.loop_filter.specs.declared.strengths.Strength.{Strength}

-- the planes after the first macroblocks of row my
row_of_planes : Bool → (ℕ → Option Strength) → ℕ → ℕ → PlaneSamples → ℕ → PlaneSamples
row_of_planes true strength columns my planes n = record {
  luma = record planes.luma { samples = row_filtered luma true strength columns my planes.luma.samples n };
  cb = planes.cb;
  cr = planes.cr;
}
row_of_planes false strength columns my planes n = record {
  luma = record planes.luma { samples = row_filtered luma false strength columns my planes.luma.samples n };
  cb = record planes.cb { samples = row_filtered chroma false strength columns my planes.cb.samples n };
  cr = record planes.cr { samples = row_filtered chroma false strength columns my planes.cr.samples n };
}

none_of_row : (is_simple : Bool) (strength : ℕ → Option Strength) (columns my : ℕ) (planes : PlaneSamples) → row_of_planes is_simple strength columns my planes 0 ≡ planes
unfolding row_of_planes row_filtered
none_of_row true strength columns my planes = refl
none_of_row false strength columns my planes = refl

more_of_row : (is_simple : Bool) (strength : ℕ → Option Strength) (columns my : ℕ) (planes : PlaneSamples) (n : ℕ) → row_of_planes is_simple strength columns my planes (suc n) ≡ macroblock_in_planes is_simple (strength (my * columns + n)) columns n my (row_of_planes is_simple strength columns my planes n)
unfolding row_of_planes row_filtered
more_of_row true strength columns my planes n = refl
more_of_row false strength columns my planes n = refl

pub none_of_frame : (is_simple : Bool) (strength : ℕ → Option Strength) (columns : ℕ) (planes : PlaneSamples) → planes_filtered is_simple strength columns 0 planes ≡ planes
unfolding rows_filtered
none_of_frame true strength columns planes = refl
none_of_frame false strength columns planes = refl

more_of_frame : (is_simple : Bool) (strength : ℕ → Option Strength) (columns my : ℕ) (planes : PlaneSamples) → planes_filtered is_simple strength columns (suc my) planes ≡ row_of_planes is_simple strength columns my (planes_filtered is_simple strength columns my planes) columns
unfolding row_of_planes rows_filtered
more_of_frame true strength columns my planes = refl
more_of_frame false strength columns my planes = refl

-- n more macroblocks, of row my
along_row : (is_simple : Bool) (strength : ℕ → Option Strength) (columns my : ℕ) (start planes : PlaneSamples) (n : ℕ) → n ≤ columns → planes ≡ macroblocks_in_planes is_simple strength columns start (my * columns) → row_of_planes is_simple strength columns my planes n ≡ macroblocks_in_planes is_simple strength columns start (my * columns + n)
unfolding macroblocks_in_planes
along_row is_simple strength columns my start planes zero within here =
    let place : my * columns + 0 ≡ my * columns = omega arith in
    rw place (none_of_row is_simple strength columns my planes ∙ here)
along_row is_simple strength columns my start planes (suc n) within here =
    let inside : n < columns = omega arith in
    let shorter : n ≤ columns = omega arith in
    let column : (my * columns + n) % columns ≡ n = mod-mul-add my columns n inside in
    let row : (my * columns + n) / columns ≡ my = div-mul-add my columns n inside in
    let place : my * columns + suc n ≡ suc (my * columns + n) = omega arith in
    more_of_row is_simple strength columns my planes n ∙ rw (along_row is_simple strength columns my start planes n shorter here, place, column, row) refl

down_frame : (is_simple : Bool) (strength : ℕ → Option Strength) (columns : ℕ) (planes : PlaneSamples) (my : ℕ) → planes_filtered is_simple strength columns my planes ≡ macroblocks_in_planes is_simple strength columns planes (my * columns)
unfolding macroblocks_in_planes
down_frame is_simple strength columns planes zero =
    let place : 0 * columns ≡ 0 = omega arith in
    rw place (none_of_frame is_simple strength columns planes)
down_frame is_simple strength columns planes (suc my) =
    let place : suc my * columns ≡ my * columns + columns = grind arith in
    let all : columns ≤ columns = omega arith in
    more_of_frame is_simple strength columns my planes
    ∙ along_row is_simple strength columns my planes (planes_filtered is_simple strength columns my planes) columns all (down_frame is_simple strength columns planes my)
    ∙ ap (λ n. macroblocks_in_planes is_simple strength columns planes n) (sym place)

pub macroblock_by_macroblock : (header : Header) (records : List MbMode) (flags : List Bool) (planes : PlaneSamples) → 0 < header.filter.level → filtered_planes header records flags planes ≡ macroblocks_in_planes header.filter.is_simple (strength_at header records flags) (columns_in planes) planes (columns_in planes * rows_in planes)
unfolding filtered_planes
macroblock_by_macroblock header records flags planes some =
    let on : (header.filter.level == 0) ≡ false = grind arith in
    let places : rows_in planes * columns_in planes ≡ columns_in planes * rows_in planes = grind arith in
    rw on (down_frame header.filter.is_simple (strength_at header records flags) (columns_in planes) planes (rows_in planes) ∙ ap (λ n. macroblocks_in_planes header.filter.is_simple (strength_at header records flags) (columns_in planes) planes n) places)

-- one row more of a frame that is filtered
row_more : (is_simple : Bool) (strength : ℕ → Option Strength) (columns my : ℕ) (planes : PlaneSamples) → planes_row_filtered is_simple strength columns my (planes_filtered is_simple strength columns my planes) ≡ planes_filtered is_simple strength columns (my + 1) planes
unfolding rows_filtered
row_more true strength columns my planes = rw add-one refl
row_more false strength columns my planes = rw add-one refl

pub next_row : (header : Header) (records : List MbMode) (flags : List Bool) (my : ℕ) (start old new : PlaneSamples) → 0 < header.filter.level → KeepSides start old → old ≡ planes_filtered header.filter.is_simple (strength_at header records flags) (columns_in start) my start → new ≡ filtered_row header records flags my old
    → new ≡ planes_filtered header.filter.is_simple (strength_at header records flags) (columns_in start) (my + 1) start
unfolding filtered_row
next_row header records flags my start old new some sides so_far here =
    let on : (header.filter.level == 0) ≡ false = grind arith in
    let columns : columns_in old ≡ columns_in start = ap (λ (n : ℕ). n / 16) sides.0 in
    let row : new ≡ planes_row_filtered header.filter.is_simple (strength_at header records flags) (columns_in start) my old = rw (on, columns) at here in
    row ∙ ap (planes_row_filtered header.filter.is_simple (strength_at header records flags) (columns_in start) my) so_far ∙ row_more header.filter.is_simple (strength_at header records flags) (columns_in start) my start

-- and all of them
pub all_rows : (header : Header) (records : List MbMode) (flags : List Bool) (rows : ℕ) (start new : PlaneSamples) → rows ≡ rows_in start → (0 < header.filter.level → new ≡ planes_filtered header.filter.is_simple (strength_at header records flags) (columns_in start) rows start) → (header.filter.level ≡ 0 → new ≡ start)
    → new ≡ filtered_planes header records flags start
unfolding filtered_planes
all_rows header records flags rows start new all some none =
    elim (cases_eq header.filter.level 0) [
      | inl off ↦ none off ∙ sym (cond-true _ _ _ (eq-eqb header.filter.level 0 off))
      | inr on ↦ some (omega (arith, on)) ∙ ap (λ n. planes_filtered header.filter.is_simple (strength_at header records flags) (columns_in start) n start) all ∙ sym (cond-false _ _ _ (ne_eqb header.filter.level 0 on))
    ]
