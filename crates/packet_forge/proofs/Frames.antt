-- The planes of a frame whose macroblocks all have one record, which has no residual.
use Rattle.std.specs.Prelude.{Option, replicate, slice_get}
use Rattle.std.proofs.Common.{◌≡◌, ℕ, zero, suc, ◌+◌, ◌*◌, ◌<◌, ◌≤◌, true, List, length, Some, None, refl, ap, sym, ◌∙◌, add-zero, zero-mul, arith}
use Rattle.std.proofs.lemmas.List.{length-replicate, get_or-replicate}
use Rattle.std.proofs.lemmas.Option.{slice_get-get_or}
use Rattle.pixel_planes.proofs.Rows.{row_fits}
use Rattle.pixel_planes.specs.PlaneSamples.{PlaneSamples}
use Rattle.mode_parser.specs.declared.records.MbMode.{MbMode}
use Rattle.frame_header.specs.declared.header.Header.{Header}
use Rattle.reference_frames.specs.Restored.{Residual}
use Rattle.reference_frames.specs.FrameTokens.{TokenState, residual_at}
use Rattle.reference_frames.specs.Unfiltered.{predicted_macroblock, predicted_macroblocks, empty_planes}
use Rattle.reference_frames.specs.declared.references.References.{References}
use Rattle.reference_frames.proofs.MacroblockOrder.{predicted_more}
use Rattle.packet_forge.proofs.Targets.{IsBegun, begun_next, begun_none}

-- the same in each of the three planes
pub record AreBegun (luma cb cr : ℕ → ℕ → ℕ) (columns rows my mx : ℕ) (planes : PlaneSamples) : Type 0 where
  pub in_luma : IsBegun luma 16 columns rows my mx planes.luma
  pub in_cb : IsBegun cb 8 columns rows my mx planes.cb
  pub in_cr : IsBegun cr 8 columns rows my mx planes.cr

-- one macroblock of this record writes its samples
pub record DoesOne (luma cb cr : ℕ → ℕ → ℕ) (columns rows version : ℕ) (references : Option References) (mode : MbMode) : Type 0 where
  pub one : (my mx : ℕ) (planes : PlaneSamples) → mx < columns → my < rows → AreBegun luma cb cr columns rows my mx planes → AreBegun luma cb cr columns rows my (suc mx) (predicted_macroblock version references planes mx my mode None)

-- the record at each index
pub slice_get-replicate : (count n : ℕ) (mode : MbMode) → n < count → slice_get (replicate count mode) n ≡ Some mode
slice_get-replicate count n mode lt =
    slice_get-get_or (replicate count mode) n mode (rw (length-replicate count mode) lt) ∙ ap Some (get_or-replicate count n mode mode lt)

-- a macroblock that is skipped has no residual
no_residual : (header : Header) (start : TokenState) (columns count n : ℕ) (mode : MbMode) → mode.is_skipped ≡ true → n < count → residual_at header columns start (replicate count mode) n ≡ None
unfolding residual_at
no_residual header start columns count n mode skipped lt = rw (slice_get-replicate count n mode lt, skipped) refl

place_within : (columns rows my mx : ℕ) → mx < columns → my < rows → my * columns + mx < columns * rows
place_within columns rows my mx in_row in_frame = let fits = row_fits columns rows my in_frame in omega (arith, fits)

row_done : (luma cb cr : ℕ → ℕ → ℕ) (columns rows version : ℕ) (references : Option References) (mode : MbMode) (residuals : ℕ → Residual) (planes : PlaneSamples) (my n : ℕ) → DoesOne luma cb cr columns rows version references mode → ((k : ℕ) → k < columns * rows → residuals k ≡ None) → my < rows → n ≤ columns →
    AreBegun luma cb cr columns rows my 0 (predicted_macroblocks version references planes columns (replicate (columns * rows) mode) residuals (my * columns)) → AreBegun luma cb cr columns rows my n (predicted_macroblocks version references planes columns (replicate (columns * rows) mode) residuals (my * columns + n))
row_done luma cb cr columns rows version references mode residuals planes my zero does none in_frame in_row begun = rw add-zero begun
row_done luma cb cr columns rows version references mode residuals planes my (suc n) does none in_frame in_row begun =
    let place : ℕ = my * columns + n in
    let modes : List MbMode = replicate (columns * rows) mode in
    let old : PlaneSamples = predicted_macroblocks version references planes columns modes residuals place in
    let before : AreBegun luma cb cr columns rows my n (predicted_macroblocks version references planes columns (replicate (columns * rows) mode) residuals (my * columns + n)) = row_done luma cb cr columns rows version references mode residuals planes my n does none in_frame (omega arith) begun in
    let within : my * columns + n < columns * rows = place_within columns rows my n (omega arith) in_frame in
    let found : slice_get (replicate (columns * rows) mode) (my * columns + n) ≡ Some mode = slice_get-replicate (columns * rows) place mode within in
    let after = does.one my n old (omega arith) in_frame before in
    let new : PlaneSamples = predicted_macroblock version references old n my mode None in
    let residual : residuals (my * columns + n) ≡ None = none place within in
    let same : new ≡ predicted_macroblock version references old n my mode (residuals place) = ap (λ (x : Residual). predicted_macroblock version references old n my mode x) (sym residual) in
    let more = predicted_more version references planes old new columns n my place modes residuals mode found refl same refl (omega arith) in
    let next : my * columns + suc n ≡ place + 1 = omega arith in
    rw (next, ← more) after

pub rows_done : (luma cb cr : ℕ → ℕ → ℕ) (columns rows version : ℕ) (references : Option References) (mode : MbMode) (residuals : ℕ → Residual) (planes : PlaneSamples) (n : ℕ) → DoesOne luma cb cr columns rows version references mode → ((k : ℕ) → k < columns * rows → residuals k ≡ None) → n ≤ rows →
    AreBegun luma cb cr columns rows 0 0 planes → AreBegun luma cb cr columns rows n 0 (predicted_macroblocks version references planes columns (replicate (columns * rows) mode) residuals (n * columns))
unfolding predicted_macroblocks
rows_done luma cb cr columns rows version references mode residuals planes zero does none in_frame begun = rw zero-mul begun
rows_done luma cb cr columns rows version references mode residuals planes (suc n) does none in_frame begun =
    let before = row_done luma cb cr columns rows version references mode residuals planes n columns does none (omega arith) (omega arith) (rows_done luma cb cr columns rows version references mode residuals planes n does none (omega arith) begun) in
    let next : suc n * columns ≡ n * columns + columns = omega arith in
    rw next (record {
      in_luma = begun_next luma 16 columns rows n _ before.in_luma;
      in_cb = begun_next cb 8 columns rows n _ before.in_cb;
      in_cr = begun_next cr 8 columns rows n _ before.in_cr;
    })

-- all macroblocks of a frame
pub frame_done : (luma cb cr : ℕ → ℕ → ℕ) (columns rows version : ℕ) (references : Option References) (mode : MbMode) (header : Header) (start : TokenState) → DoesOne luma cb cr columns rows version references mode → mode.is_skipped ≡ true →
    AreBegun luma cb cr columns rows rows 0 (predicted_macroblocks version references (empty_planes columns rows) columns (replicate (columns * rows) mode) (residual_at header columns start (replicate (columns * rows) mode)) (length (replicate (columns * rows) mode)))
frame_done luma cb cr columns rows version references mode header start does skipped =
    let none : (k : ℕ) → k < columns * rows → residual_at header columns start (replicate (columns * rows) mode) k ≡ None = λ k lt. no_residual header start columns (columns * rows) k mode skipped lt in
    let begun : AreBegun luma cb cr columns rows 0 0 (empty_planes columns rows) = record { in_luma = begun_none luma 16 columns rows; in_cb = begun_none cb 8 columns rows; in_cr = begun_none cr 8 columns rows } in
    let all : length (replicate (columns * rows) mode) ≡ rows * columns = length-replicate (columns * rows) mode ∙ omega arith in
    rw all (rows_done luma cb cr columns rows version references mode (residual_at header columns start (replicate (columns * rows) mode)) (empty_planes columns rows) rows does none (omega arith) begun)
