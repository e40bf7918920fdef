-- The unfiltered planes of a frame with references do not depend on what the planes held before.
use Rattle.std.specs.Prelude.{Option, None, Some, slice_get}
use Rattle.std.proofs.Common.{◌≡◌, ℕ, zero, suc, ◌+◌, ◌*◌, ◌<◌, ◌≤◌, List, length, get_or, replicate, refl, ap, ◌∙◌, add-zero, zero-mul, true, arith}
use Rattle.std.proofs.lemmas.List.{length-replicate}
use Rattle.std.proofs.lemmas.Option.{slice_get-get_or}
use Rattle.intra_predict.specs.declared.modes.SubMode.TheVariants.{Dc}
use Rattle.intra_predict.specs.declared.modes.WholeMode.TheVariants.{Dc as WholeDc}
use Rattle.pixel_planes.specs.PlaneSamples.{PlaneSamples, AreWhole}
use Rattle.mode_parser.specs.declared.records.MbMode.{MbMode}
use Rattle.mode_parser.specs.declared.records.YMode.{YMode}
use Rattle.mode_parser.specs.declared.records.YMode.TheVariants.{Whole, B, Inter}
use Rattle.mode_parser.specs.Vectors.{zero_vector}
use Rattle.reference_frames.specs.Restored.{Residual}
use Rattle.reference_frames.specs.Unfiltered.{predicted_by, predicted_macroblock, predicted_macroblocks, inter_macroblock, intra_macroblock, empty_planes, unfiltered}
use Rattle.reference_frames.specs.declared.references.References.{References}
use Rattle.reference_frames.proofs.MacroblockOrder.{predicted_more}
use Rattle.reference_frames.proofs.Flat.{IsPlane}
use Rattle.reference_frames.proofs.FlatFrames.{place_within}
use Rattle.reference_frames.proofs.Agree.{AgreeBefore, square_step, whole_step, sub_blocks_step, next_row, none_agree, all_agree}

-- the macroblocks that agree in each of the three planes
record AgreeAll (columns rows my mx : ℕ) (ps qs : PlaneSamples) : Type 0 where
  luma : AgreeBefore 16 columns rows my mx ps.luma qs.luma
  cb : AgreeBefore 8 columns rows my mx ps.cb qs.cb
  cr : AgreeBefore 8 columns rows my mx ps.cr qs.cr

module _ (version : ℕ) (references : References) (columns rows my mx : ℕ) (ps qs : PlaneSamples) (mode : MbMode) (residual : Residual) (in_row : mx < columns) (in_frame : my < rows) (are : AgreeAll columns rows my mx ps qs) where
  -- one macroblock more, by its luma mode
  by_mode : (y : YMode) → mode.y_mode ≡ y → AgreeAll columns rows my (suc mx) (predicted_by y version (Some references) ps mx my mode residual) (predicted_by y version (Some references) qs mx my mode residual)
  unfolding intra_macroblock inter_macroblock
  by_mode (Whole whole) is = rw is (record {
    luma = whole_step 16 columns rows my mx ps.luma qs.luma whole residual 0 in_row in_frame are.luma;
    cb = whole_step 8 columns rows my mx ps.cb qs.cb mode.uv_mode residual 16 in_row in_frame are.cb;
    cr = whole_step 8 columns rows my mx ps.cr qs.cr mode.uv_mode residual 20 in_row in_frame are.cr;
  })
  by_mode B is = rw is (record {
    luma = sub_blocks_step columns rows my mx ps.luma qs.luma mode.sub_modes residual in_row in_frame are.luma;
    cb = whole_step 8 columns rows my mx ps.cb qs.cb mode.uv_mode residual 16 in_row in_frame are.cb;
    cr = whole_step 8 columns rows my mx ps.cr qs.cr mode.uv_mode residual 20 in_row in_frame are.cr;
  })
  by_mode (Inter reference vector_mode) is = record {
    luma = square_step 16 columns rows my mx ps.luma qs.luma _ in_row in_frame are.luma;
    cb = square_step 8 columns rows my mx ps.cb qs.cb _ in_row in_frame are.cb;
    cr = square_step 8 columns rows my mx ps.cr qs.cr _ in_row in_frame are.cr;
  }

  macroblock_step : AgreeAll columns rows my (suc mx) (predicted_macroblock version (Some references) ps mx my mode residual) (predicted_macroblock version (Some references) qs mx my mode residual)
  unfolding predicted_macroblock
  macroblock_step = by_mode mode.y_mode refl

-- a record, for an index that has none
abbrev any_mode : MbMode
any_mode = record { segment = 0; is_skipped = true; y_mode = B; sub_modes = replicate 16 Dc; uv_mode = WholeDc; vectors = replicate 16 zero_vector }

module _ (version : ℕ) (references : References) (columns rows : ℕ) (ps qs : PlaneSamples) (modes : List MbMode) (residuals : ℕ → Residual) (count : length modes ≡ columns * rows) where
  -- the planes after n macroblocks, from planes of this content
  abbrev after : PlaneSamples → ℕ → PlaneSamples
  after planes n = predicted_macroblocks version (Some references) planes columns modes residuals n

  row_step : (my n : ℕ) → my < rows → n ≤ columns → AgreeAll columns rows my 0 (after ps (my * columns)) (after qs (my * columns)) → AgreeAll columns rows my n (after ps (my * columns + n)) (after qs (my * columns + n))
  row_step my zero in_frame in_row are = rw add-zero are
  row_step my (suc n) in_frame in_row are =
      let place : ℕ = my * columns + n in
      let before = row_step my n in_frame (omega (arith, in_row)) are in
      let within : place < length modes = rw count (place_within columns rows my n (omega (arith, in_row)) in_frame) in
      let mode : MbMode = get_or modes place any_mode in
      let found : slice_get modes place ≡ Some mode = slice_get-get_or modes place any_mode within in
      let more : (planes : PlaneSamples) → predicted_macroblock version (Some references) (after planes place) n my mode (residuals place) ≡ after planes (place + 1) = λ planes.
      predicted_more version (Some references) planes (after planes place) (predicted_macroblock version (Some references) (after planes place) n my mode (residuals place)) columns n my place modes residuals mode found refl refl refl (omega (arith, in_row)) in
      let next : my * columns + suc n ≡ place + 1 = omega arith in
      rw (next, ← more ps, ← more qs) (macroblock_step version references columns rows my n (after ps place) (after qs place) mode (residuals place) (omega (arith, in_row)) in_frame before)

  rows_step : (n : ℕ) → n ≤ rows → AgreeAll columns rows 0 0 ps qs → AgreeAll columns rows n 0 (after ps (n * columns)) (after qs (n * columns))
  unfolding predicted_macroblocks
  rows_step zero in_frame are = rw zero-mul are
  rows_step (suc n) in_frame are =
      let before = row_step n columns (omega (arith, in_frame)) (omega arith) (rows_step n (omega (arith, in_frame)) are) in
      let next : suc n * columns ≡ n * columns + columns = omega arith in
      rw next (record {
        luma = next_row 16 columns rows n _ _ before.luma;
        cb = next_row 8 columns rows n _ _ before.cb;
        cr = next_row 8 columns rows n _ _ before.cr;
      })

-- the planes have the sides of a frame of this many macroblocks, and a sample for each position
pub record HaveShape (columns rows : ℕ) (planes : PlaneSamples) : Type 0 where
  pub luma : IsPlane (16 * columns) (16 * rows) planes.luma
  pub cb : IsPlane (8 * columns) (8 * rows) planes.cb
  pub cr : IsPlane (8 * columns) (8 * rows) planes.cr

empty_shape : (columns rows : ℕ) → HaveShape columns rows (empty_planes columns rows)
empty_shape columns rows = record {
  luma = record { wide = refl; high = refl; whole = length-replicate (16 * columns * (16 * rows)) 0 };
  cb = record { wide = refl; high = refl; whole = length-replicate (8 * columns * (8 * rows)) 0 };
  cr = record { wide = refl; high = refl; whole = length-replicate (8 * columns * (8 * rows)) 0 };
}

pub same_three : (ps qs : PlaneSamples) → ps.luma ≡ qs.luma → ps.cb ≡ qs.cb → ps.cr ≡ qs.cr → ps ≡ qs
same_three ps qs luma cb cr = ap (λ p. record { luma = p; cb = ps.cb; cr = ps.cr }) luma ∙ ap (λ p. record { luma = qs.luma; cb = p; cr = ps.cr }) cb ∙ ap (λ p. record { luma = qs.luma; cb = qs.cb; cr = p }) cr

-- what the planes held before does not matter
pub from_any_planes : (version : ℕ) (references : References) (columns rows : ℕ) (planes : PlaneSamples) (modes : List MbMode) (residuals : ℕ → Residual) → 0 < columns → length modes ≡ columns * rows → HaveShape columns rows planes →
    predicted_macroblocks version (Some references) planes columns modes residuals (length modes) ≡ unfiltered version (Some references) columns rows modes residuals
from_any_planes version references columns rows planes modes residuals some count shape =
    let empty : PlaneSamples = empty_planes columns rows in
    let none : HaveShape columns rows (empty_planes columns rows) = empty_shape columns rows in
    let start : AgreeAll columns rows 0 0 planes empty = record {
      luma = none_agree 16 columns rows planes.luma empty.luma shape.luma none.luma;
      cb = none_agree 8 columns rows planes.cb empty.cb shape.cb none.cb;
      cr = none_agree 8 columns rows planes.cr empty.cr shape.cr none.cr;
    } in
    let all : length modes ≡ rows * columns = omega (arith, count) in
    let are = rows_step version references columns rows planes empty modes residuals count rows (omega arith) start in
    rw all (same_three _ _ (all_agree 16 columns rows _ _ (omega arith) some are.luma) (all_agree 8 columns rows _ _ (omega arith) some are.cb) (all_agree 8 columns rows _ _ (omega arith) some are.cr))

-- a frame without references begins with planes of 0, any other with any planes of its size
pub from_planes : (version : ℕ) (references : Option References) (columns rows : ℕ) (planes : PlaneSamples) (modes : List MbMode) (residuals : ℕ → Residual) → 0 < columns → length modes ≡ columns * rows → AreWhole columns rows planes → (references ≡ None → planes ≡ empty_planes columns rows) →
    predicted_macroblocks version references planes columns modes residuals (length modes) ≡ unfiltered version references columns rows modes residuals
from_planes version None columns rows planes modes residuals some count are empty = rw (empty refl) refl
from_planes version (Some references) columns rows planes modes residuals some count are empty = from_any_planes version references columns rows planes modes residuals some count (record {
  luma = record { wide = are.luma.0.0; high = are.luma.0.1; whole = are.luma.1.4 };
  cb = record { wide = are.cb.0.0; high = are.cb.0.1; whole = are.cb.1.4 };
  cr = record { wide = are.cr.0.0; high = are.cr.0.1; whole = are.cr.1.4 };
})
