-- Macroblocks in raster order.
use Rattle.std.specs.Prelude.{Option}
use Rattle.std.proofs.Common.{◌≡◌, ℕ, ◌+◌, ◌*◌, ◌/◌, ◌%◌, ◌<◌, Bool, List, [], ◌∷◌, ◌++◌, map, Some, slice_get, refl, add-one, arith}
use Rattle.std.specs.List.{range_with_len}
use Rattle.std.proofs.lemmas.List.FromFn.{map-range_with_len_more}
use Rattle.std.proofs.lemmas.Nat.{div-mul-add, mod-mul-add}
use Rattle.mode_parser.specs.declared.records.MbMode.{MbMode}
use Rattle.pixel_planes.specs.PlaneSamples.{PlaneSamples}
use Rattle.frame_header.specs.declared.header.Header.{Header}
use Rattle.transforms.specs.Factors.{factors_of}
use Rattle.reference_frames.specs.FrameTokens.{TokenState, flag_at, flag_with, residual_at, residual_with, state_with, token_state, tokens_at}
use Rattle.reference_frames.specs.Restored.{Residual}
use Rattle.reference_frames.specs.Rows.{row_predicted}
use Rattle.reference_frames.specs.declared.references.References.{References}
use Rattle.frame_header.specs.declared.references.Reference.{Reference}
use Rattle.intra_predict.specs.declared.modes.WholeMode.{WholeMode}
use Rattle.mode_parser.specs.declared.records.YMode.{YMode}
use Rattle.mode_parser.specs.declared.records.YMode.TheVariants.{Whole, B, Inter}
use Rattle.mode_parser.specs.declared.records.VectorMode.{VectorMode}
use Rattle.reference_frames.specs.Unfiltered.{predicted_by, intra_macroblock, referred_macroblock, predicted_macroblock, predicted_macroblocks}

-- one macroblock more is predicted
pub predicted_more : (version : ℕ) (references : Option References) (start old new : PlaneSamples) (columns mx my n : ℕ) (modes : List MbMode) (residuals : ℕ → Residual) (mode : MbMode) → slice_get modes n ≡ Some mode → old ≡ predicted_macroblocks version references start columns modes residuals n → new ≡ predicted_macroblock version references old mx my mode (residuals n) → my * columns + mx ≡ n → mx < columns → new ≡ predicted_macroblocks version references start columns modes residuals (n + 1)
unfolding predicted_macroblocks
predicted_more version references start old new columns mx my n modes residuals mode found so_far here place in_row =
    let column : n % columns ≡ mx = rw (← place) (mod-mul-add my columns mx in_row) in
    let row : n / columns ≡ my = rw (← place) (div-mul-add my columns mx in_row) in
    rw (add-one, found, column, row, ← so_far) here

-- one macroblock more of a row
pub row_more : (version : ℕ) (references : Option References) (start old new : PlaneSamples) (columns mx my : ℕ) (modes : List MbMode) (residuals : ℕ → Residual) (mode : MbMode) → slice_get modes (my * columns + mx) ≡ Some mode → old ≡ row_predicted version references start columns my modes residuals mx → new ≡ predicted_macroblock version references old mx my mode (residuals (my * columns + mx)) → mx < columns → new ≡ row_predicted version references start columns my modes residuals (mx + 1)
unfolding row_predicted
row_more version references start old new columns mx my modes residuals mode found so_far here in_row =
    let column : (my * columns + mx) % columns ≡ mx = mod-mul-add my columns mx in_row in
    let row : (my * columns + mx) / columns ≡ my = div-mul-add my columns mx in_row in
    rw (add-one, found, column, row, ← so_far) here

-- the state after one macroblock more, and the residual of that macroblock
pub state_more : (header : Header) (start old new : TokenState) (columns mx my n : ℕ) (modes : List MbMode) (mode : MbMode) → slice_get modes n ≡ Some mode → old ≡ token_state header columns start modes n →
    new ≡ state_with old mx my (tokens_at header.context.probabilities.coefficients old mx my mode) → my * columns + mx ≡ n → mx < columns → new ≡ token_state header columns start modes (n + 1)
unfolding token_state
state_more header start old new columns mx my n modes mode found so_far here place in_row =
    let column : n % columns ≡ mx = rw (← place) (mod-mul-add my columns mx in_row) in
    let row : n / columns ≡ my = rw (← place) (div-mul-add my columns mx in_row) in
    rw (add-one, found, column, row, ← so_far) here

pub residual_here : (header : Header) (start old : TokenState) (columns mx my n : ℕ) (modes : List MbMode) (mode : MbMode) → slice_get modes n ≡ Some mode → old ≡ token_state header columns start modes n → my * columns + mx ≡ n → mx < columns →
    residual_with (factors_of header mode.segment) mode (tokens_at header.context.probabilities.coefficients old mx my mode).0 ≡ residual_at header columns start modes n
unfolding residual_at
residual_here header start old columns mx my n modes mode found so_far place in_row =
    let column : n % columns ≡ mx = rw (← place) (mod-mul-add my columns mx in_row) in
    let row : n / columns ≡ my = rw (← place) (div-mul-add my columns mx in_row) in
    rw (found, column, row, ← so_far) refl

-- whether a block of that macroblock has a token, and of each up to it
pub flag_here : (header : Header) (start old : TokenState) (columns mx my n : ℕ) (modes : List MbMode) (mode : MbMode) → slice_get modes n ≡ Some mode → old ≡ token_state header columns start modes n → my * columns + mx ≡ n → mx < columns →
    flag_with mode (tokens_at header.context.probabilities.coefficients old mx my mode).0 ≡ flag_at header columns start modes n
unfolding flag_at
flag_here header start old columns mx my n modes mode found so_far place in_row =
    let column : n % columns ≡ mx = rw (← place) (mod-mul-add my columns mx in_row) in
    let row : n / columns ≡ my = rw (← place) (div-mul-add my columns mx in_row) in
    rw (found, column, row, ← so_far) refl

pub flags_more : (flag : ℕ → Bool) (flags : List Bool) (n : ℕ) (here : Bool) → flags ≡ map flag (range_with_len 0 n) → here ≡ flag n → flags ++ here ∷ [] ≡ map flag (range_with_len 0 (n + 1))
flags_more flag flags n here so_far is = rw (map-range_with_len_more {X = Bool} flag 0 n n (omega arith), so_far, is) refl

-- the first index of the next row, and the next index of this row
pub next_row : (columns my mx my' mx' n : ℕ) → my * columns + mx ≡ n → mx + 1 ≡ columns → my' ≡ my + 1 → mx' ≡ 0 → my' * columns + mx' ≡ n + 1
next_row columns my mx my' mx' n place last row column = rw (row, column) (omega arith)

pub next_column : (columns my mx my' mx' n : ℕ) → my * columns + mx ≡ n → my' ≡ my → mx' ≡ mx + 1 → my' * columns + mx' ≡ n + 1
next_column columns my mx my' mx' n place row column = rw (row, column) (omega arith)

-- how a macroblock is predicted goes by its luma mode
pub by_whole : (y : YMode) (whole : WholeMode) (version : ℕ) (references : Option References) (planes : PlaneSamples) (mx my : ℕ) (mode : MbMode) (residual : Residual) → y ≡ Whole whole → predicted_by y version references planes mx my mode residual ≡ intra_macroblock planes mx my mode residual
by_whole y whole version references planes mx my mode residual is = rw is refl

pub by_sub_blocks : (y : YMode) (version : ℕ) (references : Option References) (planes : PlaneSamples) (mx my : ℕ) (mode : MbMode) (residual : Residual) → y ≡ B → predicted_by y version references planes mx my mode residual ≡ intra_macroblock planes mx my mode residual
by_sub_blocks y version references planes mx my mode residual is = rw is refl

pub by_reference : (y : YMode) (reference : Reference) (vector_mode : VectorMode) (version : ℕ) (references : Option References) (planes : PlaneSamples) (mx my : ℕ) (mode : MbMode) (residual : Residual) → y ≡ Inter reference vector_mode →
    predicted_by y version references planes mx my mode residual ≡ referred_macroblock version references reference vector_mode planes mx my mode residual
by_reference y reference vector_mode version references planes mx my mode residual is = rw is refl
