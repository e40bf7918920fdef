-- The rows of macroblocks that are filtered before the last row of their prediction: a row is predicted as from unfiltered planes.
use Rattle.std.specs.Prelude.{if◌then◌else◌, Option, None, Some, slice_get, slice_index_or, map}
use Rattle.std.specs.List.{range_with_len}
use Rattle.std.specs.Simd.Lanes.{put_chunk}
use Rattle.std.proofs.Common.{◌≡◌, ℕ, zero, suc, ◌+◌, ◌*◌, ◌/◌, ◌%◌, ◌<◌, ◌≤◌, Bool, true, false, List, [], ◌++◌, length, take, drop, refl, ap, sym, ◌∙◌, add-zero, arith}
use Rattle.std.proofs.Math.Nat.{mul-le-mul_left, mul-le-mul_right}
use Rattle.std.proofs.lemmas.List.{length-take-le, take-append-drop, take-append-le, take_all}
use Rattle.std.proofs.lemmas.List.FromFn.{get_or-map-range_with_len}
use Rattle.std.proofs.lemmas.Nat.{div-mul-add}
use Rattle.std.proofs.lemmas.Simd.{put_chunk_is}
use Rattle.pixel_planes.specs.PlaneSamples.{PlaneSamples}
use Rattle.pixel_planes.specs.Samples.{Samples}
use Rattle.frame_header.specs.declared.header.Header.{Header}
use Rattle.frame_header.specs.declared.references.Reference.{Reference}
use Rattle.loop_filter.specs.Blocks.{Shape, luma, chroma}
use Rattle.loop_filter.specs.Frames.{plane_filtered, planes_filtered, rows_filtered, row_filtered, strength_at, strength_by, filtered_row, columns_in}
use Rattle.loop_filter.proofs.Front.{luma_alone, chroma_alone}
use Rattle.mode_parser.specs.declared.records.MbMode.{MbMode}
use Rattle.mode_parser.specs.declared.records.YMode.{YMode}
use Rattle.mode_parser.specs.declared.records.YMode.TheVariants.{Whole, B, Inter}
use Rattle.mode_parser.specs.declared.records.VectorMode.{VectorMode}
use Rattle.reference_frames.specs.Restored.{Residual}
use Rattle.reference_frames.specs.Rows.{row_predicted}
use Rattle.reference_frames.specs.Unfiltered.{predicted_at, predicted_by, predicted_luma, predicted_macroblock, predicted_macroblocks, inter_macroblock, intra_macroblock, referred_macroblock}
use Rattle.reference_frames.specs.declared.references.References.{References}
use Rattle.reference_frames.proofs.AgreeFrames.{HaveShape, same_three}
use Rattle.reference_frames.proofs.Flat.{IsPlane, IsPlane-with_block_rows}
use Rattle.reference_frames.proofs.FrontWritten.{EndsBefore, nothing_put, with_front, block_behind, whole_behind, sub_blocks_behind, sub_blocks_shape}

-- ---- other samples at the front of each of the three planes

pub record Fronts : Type 0 where
  pub luma : List ℕ
  pub cb : List ℕ
  pub cr : List ℕ

abbrev pub with_fronts : PlaneSamples → Fronts → PlaneSamples
with_fronts planes fronts = record { luma = with_front planes.luma fronts.luma; cb = with_front planes.cb fronts.cb; cr = with_front planes.cr fronts.cr }

-- they end with the first r rows of macroblocks
pub record EndWith (columns r : ℕ) (fronts : Fronts) : Type 0 where
  pub of_luma : EndsBefore (16 * columns) (16 * r) fronts.luma
  pub of_cb : EndsBefore (8 * columns) (8 * r) fronts.cb
  pub of_cr : EndsBefore (8 * columns) (8 * r) fronts.cr

-- a row of macroblocks begins below them
row_below : (side r my : ℕ) → 0 < side → r < my → side * r < side * my
row_below side r my some below = let upto : side * (r + 1) ≤ side * my = mul-le-mul_left side (omega (arith, below)) in omega (arith, upto, some)

module _ (version : ℕ) (references : Option References) (columns rows r my : ℕ) (fronts : Fronts) (end : EndWith columns r fronts) (below : r < my) where
  of_16 : 16 * r < 16 * my
  of_16 = row_below 16 r my (omega arith) below

  of_8 : 8 * r < 8 * my
  of_8 = row_below 8 r my (omega arith) below

  intra_behind : (planes : PlaneSamples) (mx : ℕ) (mode : MbMode) (residual : Residual) (y : YMode) → mode.y_mode ≡ y → HaveShape columns rows planes → predicted_luma (with_fronts planes fronts).luma mx my y mode.sub_modes residual ≡ with_front (predicted_luma planes.luma mx my y mode.sub_modes residual) fronts.luma
  intra_behind planes mx mode residual (Whole whole) is shape = whole_behind (16 * columns) (16 * rows) (16 * r) fronts.luma end.of_luma planes.luma 16 mx my whole residual 0 shape.luma of_16
  intra_behind planes mx mode residual B is shape = sub_blocks_behind (16 * columns) (16 * rows) (16 * r) fronts.luma end.of_luma planes.luma mx my mode.sub_modes residual 16 shape.luma of_16
  intra_behind planes mx mode residual (Inter reference vector_mode) is shape = refl

  three_behind : (one other : PlaneSamples) → one.luma ≡ with_front other.luma fronts.luma → one.cb ≡ with_front other.cb fronts.cb → one.cr ≡ with_front other.cr fronts.cr → one ≡ with_fronts other fronts
  three_behind one other luma cb cr =
      ap (λ p. record { luma = p; cb = one.cb; cr = one.cr }) luma ∙ ap (λ p. record { luma = with_front other.luma fronts.luma; cb = p; cr = one.cr }) cb ∙ ap (λ p. record { luma = with_front other.luma fronts.luma; cb = with_front other.cb fronts.cb; cr = p }) cr

  intra_macroblock_behind : (planes : PlaneSamples) (mx : ℕ) (mode : MbMode) (residual : Residual) → HaveShape columns rows planes → intra_macroblock (with_fronts planes fronts) mx my mode residual ≡ with_fronts (intra_macroblock planes mx my mode residual) fronts
  unfolding intra_macroblock
  intra_macroblock_behind planes mx mode residual shape =
      three_behind (intra_macroblock (with_fronts planes fronts) mx my mode residual) (intra_macroblock planes mx my mode residual)
      (intra_behind planes mx mode residual mode.y_mode refl shape)
      (whole_behind (8 * columns) (8 * rows) (8 * r) fronts.cb end.of_cb planes.cb 8 mx my mode.uv_mode residual 16 shape.cb of_8)
      (whole_behind (8 * columns) (8 * rows) (8 * r) fronts.cr end.of_cr planes.cr 8 mx my mode.uv_mode residual 20 shape.cr of_8)

  referred_behind : (of : Option References) (planes : PlaneSamples) (mx : ℕ) (mode : MbMode) (residual : Residual) (reference : Reference) (vector_mode : VectorMode) → HaveShape columns rows planes →
      referred_macroblock version of reference vector_mode (with_fronts planes fronts) mx my mode residual ≡ with_fronts (referred_macroblock version of reference vector_mode planes mx my mode residual) fronts
  unfolding inter_macroblock
  referred_behind None planes mx mode residual reference vector_mode shape = refl
  referred_behind (Some from) planes mx mode residual reference vector_mode shape =
      three_behind (referred_macroblock version (Some from) reference vector_mode (with_fronts planes fronts) mx my mode residual) (referred_macroblock version (Some from) reference vector_mode planes mx my mode residual)
      (block_behind (16 * columns) (16 * rows) (16 * r) fronts.luma end.of_luma planes.luma (16 * mx) (16 * my) 16 _ shape.luma (omega (arith, of_16)))
      (block_behind (8 * columns) (8 * rows) (8 * r) fronts.cb end.of_cb planes.cb (8 * mx) (8 * my) 8 _ shape.cb (omega (arith, of_8)))
      (block_behind (8 * columns) (8 * rows) (8 * r) fronts.cr end.of_cr planes.cr (8 * mx) (8 * my) 8 _ shape.cr (omega (arith, of_8)))

  by_mode_behind : (planes : PlaneSamples) (mx : ℕ) (mode : MbMode) (residual : Residual) (y : YMode) → HaveShape columns rows planes → predicted_by y version references (with_fronts planes fronts) mx my mode residual ≡ with_fronts (predicted_by y version references planes mx my mode residual) fronts
  by_mode_behind planes mx mode residual (Whole whole) shape = intra_macroblock_behind planes mx mode residual shape
  by_mode_behind planes mx mode residual B shape = intra_macroblock_behind planes mx mode residual shape
  by_mode_behind planes mx mode residual (Inter reference vector_mode) shape = referred_behind references planes mx mode residual reference vector_mode shape

  pub macroblock_behind : (planes : PlaneSamples) (mx : ℕ) (mode : MbMode) (residual : Residual) → HaveShape columns rows planes → predicted_macroblock version references (with_fronts planes fronts) mx my mode residual ≡ with_fronts (predicted_macroblock version references planes mx my mode residual) fronts
  unfolding predicted_macroblock
  macroblock_behind planes mx mode residual shape = by_mode_behind planes mx mode residual mode.y_mode shape

-- ---- planes keep their shape

module _ (version : ℕ) (references : Option References) (columns rows : ℕ) where
  luma_shape : (p : Samples) (mx my : ℕ) (mode : MbMode) (residual : Residual) (y : YMode) → IsPlane (16 * columns) (16 * rows) p → IsPlane (16 * columns) (16 * rows) (predicted_luma p mx my y mode.sub_modes residual)
  luma_shape p mx my mode residual (Whole whole) shape = IsPlane-with_block_rows (16 * columns) (16 * rows) p (16 * mx) (16 * my) 16 _ 16 shape
  luma_shape p mx my mode residual B shape = sub_blocks_shape (16 * columns) (16 * rows) p mx my mode.sub_modes residual 16 shape
  luma_shape p mx my mode residual (Inter reference vector_mode) shape = shape

  intra_shape : (planes : PlaneSamples) (mx my : ℕ) (mode : MbMode) (residual : Residual) → HaveShape columns rows planes → HaveShape columns rows (intra_macroblock planes mx my mode residual)
  unfolding intra_macroblock
  intra_shape planes mx my mode residual shape = record {
    luma = luma_shape planes.luma mx my mode residual mode.y_mode shape.luma;
    cb = IsPlane-with_block_rows (8 * columns) (8 * rows) planes.cb (8 * mx) (8 * my) 8 _ 8 shape.cb;
    cr = IsPlane-with_block_rows (8 * columns) (8 * rows) planes.cr (8 * mx) (8 * my) 8 _ 8 shape.cr;
  }

  referred_shape : (of : Option References) (planes : PlaneSamples) (mx my : ℕ) (mode : MbMode) (residual : Residual) (reference : Reference) (vector_mode : VectorMode) → HaveShape columns rows planes → HaveShape columns rows (referred_macroblock version of reference vector_mode planes mx my mode residual)
  unfolding inter_macroblock
  referred_shape None planes mx my mode residual reference vector_mode shape = shape
  referred_shape (Some from) planes mx my mode residual reference vector_mode shape = record {
    luma = IsPlane-with_block_rows (16 * columns) (16 * rows) planes.luma (16 * mx) (16 * my) 16 _ 16 shape.luma;
    cb = IsPlane-with_block_rows (8 * columns) (8 * rows) planes.cb (8 * mx) (8 * my) 8 _ 8 shape.cb;
    cr = IsPlane-with_block_rows (8 * columns) (8 * rows) planes.cr (8 * mx) (8 * my) 8 _ 8 shape.cr;
  }

  by_mode_shape : (planes : PlaneSamples) (mx my : ℕ) (mode : MbMode) (residual : Residual) (y : YMode) → HaveShape columns rows planes → HaveShape columns rows (predicted_by y version references planes mx my mode residual)
  by_mode_shape planes mx my mode residual (Whole whole) shape = intra_shape planes mx my mode residual shape
  by_mode_shape planes mx my mode residual B shape = intra_shape planes mx my mode residual shape
  by_mode_shape planes mx my mode residual (Inter reference vector_mode) shape = referred_shape references planes mx my mode residual reference vector_mode shape

  at_shape : (planes : PlaneSamples) (place : ℕ) (mode : Option MbMode) (residual : Residual) → HaveShape columns rows planes → HaveShape columns rows (predicted_at version references planes columns place mode residual)
  unfolding predicted_macroblock
  at_shape planes place None residual shape = shape
  at_shape planes place (Some mode) residual shape = by_mode_shape planes (place % columns) (place / columns) mode residual mode.y_mode shape

  pub row_shape : (planes : PlaneSamples) (my : ℕ) (modes : List MbMode) (residuals : ℕ → Residual) (n : ℕ) → HaveShape columns rows planes → HaveShape columns rows (row_predicted version references planes columns my modes residuals n)
  unfolding row_predicted
  row_shape planes my modes residuals zero shape = shape
  row_shape planes my modes residuals (suc n) shape = at_shape (row_predicted version references planes columns my modes residuals n) (my * columns + n) (slice_get modes (my * columns + n)) (residuals (my * columns + n)) (row_shape planes my modes residuals n shape)

  pub frame_shape : (planes : PlaneSamples) (modes : List MbMode) (residuals : ℕ → Residual) (n : ℕ) → HaveShape columns rows planes → HaveShape columns rows (predicted_macroblocks version references planes columns modes residuals n)
  unfolding predicted_macroblocks
  frame_shape planes modes residuals zero shape = shape
  frame_shape planes modes residuals (suc n) shape = at_shape (predicted_macroblocks version references planes columns modes residuals n) n (slice_get modes n) (residuals n) (frame_shape planes modes residuals n shape)

-- ---- a row of macroblocks

module _ (version : ℕ) (references : Option References) (columns rows r my : ℕ) (fronts : Fronts) (end : EndWith columns r fronts) (below : r < my) (modes : List MbMode) (residuals : ℕ → Residual) where
  at_behind : (planes : PlaneSamples) (place : ℕ) (mode : Option MbMode) (residual : Residual) → place / columns ≡ my → HaveShape columns rows planes → predicted_at version references (with_fronts planes fronts) columns place mode residual ≡ with_fronts (predicted_at version references planes columns place mode residual) fronts
  at_behind planes place None residual row shape = refl
  at_behind planes place (Some mode) residual row shape = rw row (macroblock_behind version references columns rows r my fronts end below planes (place % columns) mode residual shape)

  pub row_behind : (planes : PlaneSamples) (n : ℕ) → n ≤ columns → HaveShape columns rows planes → row_predicted version references (with_fronts planes fronts) columns my modes residuals n ≡ with_fronts (row_predicted version references planes columns my modes residuals n) fronts
  unfolding row_predicted
  row_behind planes zero within shape = refl
  row_behind planes (suc n) within shape =
      let place : ℕ = my * columns + n in
      ap (λ p. predicted_at version references p columns place (slice_get modes place) (residuals place)) (row_behind planes n (omega (arith, within)) shape)
      ∙ at_behind (row_predicted version references planes columns my modes residuals n) place (slice_get modes place) (residuals place) (div-mul-add my columns n (omega (arith, within))) (row_shape version references columns rows planes my modes residuals n shape)

-- the macroblocks of a frame, row after row
pub frame_row : (version : ℕ) (references : Option References) (planes : PlaneSamples) (columns my : ℕ) (modes : List MbMode) (residuals : ℕ → Residual) (n : ℕ) → row_predicted version references (predicted_macroblocks version references planes columns modes residuals (my * columns)) columns my modes residuals n ≡ predicted_macroblocks version references planes columns modes residuals (my * columns + n)
unfolding row_predicted predicted_macroblocks
frame_row version references planes columns my modes residuals zero = rw add-zero refl
frame_row version references planes columns my modes residuals (suc n) =
    let place : ℕ = my * columns + n in
    let next : my * columns + suc n ≡ suc place = omega arith in
    rw next (ap (λ p. predicted_at version references p columns place (slice_get modes place) (residuals place)) (frame_row version references planes columns my modes residuals n))

-- ---- the filter of the rows above

-- a list whose first samples are written over by others
front_put : (samples new : List ℕ) (n : ℕ) → n ≤ length samples → length new ≡ n → put_chunk 0 samples new ≡ new ++ drop n samples
front_put samples new n room long =
    put_chunk_is 0 samples new (omega (arith, room, long)) ∙ ap (λ k. new ++ drop k samples) long

-- the samples of the first r rows of macroblocks
abbrev first : ℕ → ℕ → ℕ → List ℕ → List ℕ
first columns r side samples = take (r * (side * (side * columns))) samples

first_fit : (side columns rows r : ℕ) (p : Samples) → r ≤ rows → IsPlane (side * columns) (side * rows) p → r * (side * (side * columns)) ≤ length p.samples
first_fit side columns rows r p within shape =
    let upto : r * (side * (side * columns)) ≤ rows * (side * (side * columns)) = mul-le-mul_right (side * (side * columns)) within in
    let all : length p.samples ≡ side * columns * (side * rows) = shape.whole ∙ rw (shape.wide, shape.high) refl in
    let same : side * columns * (side * rows) ≡ rows * (side * (side * columns)) = grind arith in
    omega (arith, upto, all, same)

-- the first rows written over themselves
first_again : (side columns rows r : ℕ) (p : Samples) → r ≤ rows → IsPlane (side * columns) (side * rows) p → with_front p (first columns r side p.samples) ≡ p
first_again side columns rows r p within shape =
    let n : ℕ = r * (side * (side * columns)) in
    let fits = first_fit side columns rows r p within shape in
    let samples : put_chunk 0 p.samples (take n p.samples) ≡ p.samples = front_put p.samples (take n p.samples) n fits (length-take-le n p.samples fits) ∙ take-append-drop n p.samples in
    ap (λ (s : List ℕ). record p { samples = s }) samples

-- what is read again of a front that was written
first_written : (side columns rows r : ℕ) (p : Samples) (front : List ℕ) → r ≤ rows → IsPlane (side * columns) (side * rows) p → length front ≡ r * (side * (side * columns)) → first columns r side (with_front p front).samples ≡ front
first_written side columns rows r p front within shape long =
    let n : ℕ = r * (side * (side * columns)) in
    let fits = first_fit side columns rows r p within shape in
    ap (take n) (front_put p.samples front n fits long) ∙ take-append-le n front (drop n p.samples) (omega (arith, long)) ∙ take_all n front (omega (arith, long))

-- rows of macroblocks of this kind of plane are filtered by themselves
abbrev AreAlone : Shape → Header → List MbMode → List Bool → ℕ → ℕ → Type 0
AreAlone shape header records flags columns r =
    (front rest : List ℕ) → length front ≡ r * (shape.side * (shape.side * columns)) → (rows_filtered shape header.filter.is_simple (strength_at header records flags) columns (front ++ rest) r ≡ rows_filtered shape header.filter.is_simple (strength_at header records flags) columns front r ++ rest) × (length (rows_filtered shape header.filter.is_simple (strength_at header records flags) columns front r) ≡ length front)

-- a plane after the filter of these rows is one with another front
plane_front : (shape : Shape) (header : Header) (records : List MbMode) (flags : List Bool) (columns rows r : ℕ) → AreAlone shape header records flags columns r → r ≤ rows → (p : Samples) → IsPlane (shape.side * columns) (shape.side * rows) p →
    plane_filtered shape header.filter.is_simple (strength_at header records flags) columns r p ≡ with_front p (rows_filtered shape header.filter.is_simple (strength_at header records flags) columns (first columns r shape.side p.samples) r)
plane_front shape header records flags columns rows r alone within p shape' =
    let n : ℕ = r * (shape.side * (shape.side * columns)) in
    let fits = first_fit shape.side columns rows r p within shape' in
    let long : length (take n p.samples) ≡ n = length-take-le n p.samples fits in
    let filtered = alone (take n p.samples) (drop n p.samples) long in
    let samples : rows_filtered shape header.filter.is_simple (strength_at header records flags) columns p.samples r ≡ put_chunk 0 p.samples (rows_filtered shape header.filter.is_simple (strength_at header records flags) columns (take n p.samples) r) =
    ap (λ s. rows_filtered shape header.filter.is_simple (strength_at header records flags) columns s r) (sym (take-append-drop n p.samples)) ∙ filtered.0 ∙ sym (front_put p.samples (rows_filtered shape header.filter.is_simple (strength_at header records flags) columns (take n p.samples) r) n fits (filtered.1 ∙ long)) in
    ap (λ (s : List ℕ). record p { samples = s }) samples

front_long : (shape : Shape) (header : Header) (records : List MbMode) (flags : List Bool) (columns rows r : ℕ) → AreAlone shape header records flags columns r → r ≤ rows → (p : Samples) → IsPlane (shape.side * columns) (shape.side * rows) p →
    EndsBefore (shape.side * columns) (shape.side * r) (rows_filtered shape header.filter.is_simple (strength_at header records flags) columns (first columns r shape.side p.samples) r)
front_long shape header records flags columns rows r alone within p shape' =
    let n : ℕ = r * (shape.side * (shape.side * columns)) in
    let long = length-take-le n p.samples (first_fit shape.side columns rows r p within shape') in
    let filtered = alone (take n p.samples) (drop n p.samples) long in
    let same : shape.side * r * (shape.side * columns) ≡ n = grind arith in
    omega (arith, filtered.1, long, same)

-- a plane that the simple filter leaves as it is
chroma_front : (b : Bool) (header : Header) (records : List MbMode) (flags : List Bool) (columns rows r : ℕ) → r ≤ rows → (p : Samples) → IsPlane (8 * columns) (8 * rows) p →
    (if b then p else plane_filtered chroma header.filter.is_simple (strength_at header records flags) columns r p) ≡ with_front p (if b then [] else rows_filtered chroma header.filter.is_simple (strength_at header records flags) columns (first columns r 8 p.samples) r)
chroma_front true header records flags columns rows r within p shape = ap (λ (s : List ℕ). record p { samples = s }) (sym (nothing_put p.samples))
chroma_front false header records flags columns rows r within p shape = plane_front chroma header records flags columns rows r (chroma_alone header.filter.is_simple (strength_at header records flags) columns r) within p shape

chroma_long : (b : Bool) (header : Header) (records : List MbMode) (flags : List Bool) (columns rows r : ℕ) → r ≤ rows → (p : Samples) → IsPlane (8 * columns) (8 * rows) p →
    EndsBefore (8 * columns) (8 * r) (if b then [] else rows_filtered chroma header.filter.is_simple (strength_at header records flags) columns (first columns r 8 p.samples) r)
chroma_long true header records flags columns rows r within p shape = omega arith
chroma_long false header records flags columns rows r within p shape = front_long chroma header records flags columns rows r (chroma_alone header.filter.is_simple (strength_at header records flags) columns r) within p shape

module _ (header : Header) (records : List MbMode) (flags : List Bool) (columns rows r : ℕ) (within : r ≤ rows) where
  -- the fronts of the three planes after the filter
  abbrev fronts_of : PlaneSamples → Fronts
  fronts_of planes = record {
    luma = rows_filtered luma header.filter.is_simple (strength_at header records flags) columns (first columns r 16 planes.luma.samples) r;
    cb = if header.filter.is_simple then [] else rows_filtered chroma header.filter.is_simple (strength_at header records flags) columns (first columns r 8 planes.cb.samples) r;
    cr = if header.filter.is_simple then [] else rows_filtered chroma header.filter.is_simple (strength_at header records flags) columns (first columns r 8 planes.cr.samples) r;
  }

  fronts_end : (planes : PlaneSamples) → HaveShape columns rows planes → EndWith columns r (fronts_of planes)
  fronts_end planes shape = record {
    of_luma = front_long luma header records flags columns rows r (luma_alone header.filter.is_simple (strength_at header records flags) columns r) within planes.luma shape.luma;
    of_cb = chroma_long header.filter.is_simple header records flags columns rows r within planes.cb shape.cb;
    of_cr = chroma_long header.filter.is_simple header records flags columns rows r within planes.cr shape.cr;
  }

  filtered_front : (planes : PlaneSamples) → HaveShape columns rows planes → planes_filtered header.filter.is_simple (strength_at header records flags) columns r planes ≡ with_fronts planes (fronts_of planes)
  filtered_front planes shape =
      same_three (planes_filtered header.filter.is_simple (strength_at header records flags) columns r planes) (with_fronts planes (fronts_of planes))
      (plane_front luma header records flags columns rows r (luma_alone header.filter.is_simple (strength_at header records flags) columns r) within planes.luma shape.luma)
      (chroma_front header.filter.is_simple header records flags columns rows r within planes.cb shape.cb)
      (chroma_front header.filter.is_simple header records flags columns rows r within planes.cr shape.cr)

-- the first rows of a picture, as fronts of its three planes
abbrev firsts : ℕ → ℕ → PlaneSamples → Fronts
firsts columns r planes = record { luma = first columns r 16 planes.luma.samples; cb = first columns r 8 planes.cb.samples; cr = first columns r 8 planes.cr.samples }

first_ends : (side columns rows r : ℕ) (p : Samples) → r ≤ rows → IsPlane (side * columns) (side * rows) p → EndsBefore (side * columns) (side * r) (first columns r side p.samples)
first_ends side columns rows r p within shape =
    let n : ℕ = r * (side * (side * columns)) in
    let long = length-take-le n p.samples (first_fit side columns rows r p within shape) in
    let same : side * r * (side * columns) ≡ n = grind arith in
    omega (arith, long, same)

module _ (version : ℕ) (references : Option References) (columns rows r my : ℕ) (within : r ≤ rows) (below : r < my) (modes : List MbMode) (residuals : ℕ → Residual) (planes : PlaneSamples) (shape : HaveShape columns rows planes) where
  -- the planes after all of row my
  abbrev after : PlaneSamples → PlaneSamples
  after from = row_predicted version references from columns my modes residuals columns

  after_shape : HaveShape columns rows (after planes)
  after_shape = row_shape version references columns rows planes my modes residuals columns shape

  -- it leaves the rows above as they are
  rows_kept : with_fronts (after planes) (firsts columns r planes) ≡ after planes
  rows_kept =
      let again : with_fronts planes (firsts columns r planes) ≡ planes =
      same_three (with_fronts planes (firsts columns r planes)) planes (first_again 16 columns rows r planes.luma within shape.luma) (first_again 8 columns rows r planes.cb within shape.cb) (first_again 8 columns rows r planes.cr within shape.cr) in
      let end : EndWith columns r (firsts columns r planes) = record {
        of_luma = first_ends 16 columns rows r planes.luma within shape.luma;
        of_cb = first_ends 8 columns rows r planes.cb within shape.cb;
        of_cr = first_ends 8 columns rows r planes.cr within shape.cr;
      } in
      sym (row_behind version references columns rows r my (firsts columns r planes) end below modes residuals planes columns (omega arith) shape) ∙ ap after again

  first_kept : (side : ℕ) (old new : Samples) → IsPlane (side * columns) (side * rows) old → IsPlane (side * columns) (side * rows) new → with_front new (first columns r side old.samples) ≡ new → first columns r side old.samples ≡ first columns r side new.samples
  first_kept side old new old_shape new_shape is =
      let long = length-take-le (r * (side * (side * columns))) old.samples (first_fit side columns rows r old within old_shape) in
      sym (first_written side columns rows r new (first columns r side old.samples) within new_shape long) ∙ ap (λ (p : Samples). first columns r side p.samples) is

  -- so it can be predicted before or after they are filtered
  pub row_commutes : (header : Header) (records : List MbMode) (flags : List Bool) → after (planes_filtered header.filter.is_simple (strength_at header records flags) columns r planes) ≡ planes_filtered header.filter.is_simple (strength_at header records flags) columns r (after planes)
  row_commutes header records flags =
      let fronts = fronts_of header records flags columns rows r within in
      let luma_is = first_kept 16 planes.luma (after planes).luma shape.luma after_shape.luma (ap (λ (p : PlaneSamples). p.luma) rows_kept) in
      let cb_is = first_kept 8 planes.cb (after planes).cb shape.cb after_shape.cb (ap (λ (p : PlaneSamples). p.cb) rows_kept) in
      let cr_is = first_kept 8 planes.cr (after planes).cr shape.cr after_shape.cr (ap (λ (p : PlaneSamples). p.cr) rows_kept) in
      let same : fronts planes ≡ fronts (after planes) = rw (luma_is, cb_is, cr_is) refl in
      ap after (filtered_front header records flags columns rows r within planes shape)
      ∙ row_behind version references columns rows r my (fronts planes) (fronts_end header records flags columns rows r within planes shape) below modes residuals planes columns (omega arith) shape
      ∙ ap (with_fronts (after planes)) same
      ∙ sym (filtered_front header records flags columns rows r within (after planes) after_shape)

-- ---- the flags of the rows so far

strength_same : (header : Header) (modes : List MbMode) (one other : List Bool) (place : ℕ) → slice_index_or one place false ≡ slice_index_or other place false → strength_at header modes one place ≡ strength_at header modes other place
unfolding strength_at
strength_same header modes one other place same = ap (strength_by header (slice_get modes place)) same

row_same : (shape : Shape) (header : Header) (modes : List MbMode) (one other : List Bool) (columns my : ℕ) (samples : List ℕ) (n : ℕ) → ((k : ℕ) → k < n → strength_at header modes one (my * columns + k) ≡ strength_at header modes other (my * columns + k)) →
    row_filtered shape header.filter.is_simple (strength_at header modes one) columns my samples n ≡ row_filtered shape header.filter.is_simple (strength_at header modes other) columns my samples n
unfolding row_filtered
row_same shape header modes one other columns my samples zero same = refl
row_same shape header modes one other columns my samples (suc n) same =
    rw (row_same shape header modes one other columns my samples n (λ k less. same k (omega (arith, less))), same n (omega arith)) refl

filtered_row_same : (header : Header) (modes : List MbMode) (one other : List Bool) (columns my : ℕ) (planes : PlaneSamples) → columns_in planes ≡ columns → ((k : ℕ) → k < columns → slice_index_or one (my * columns + k) false ≡ slice_index_or other (my * columns + k) false) → filtered_row header modes one my planes ≡ filtered_row header modes other my planes
unfolding filtered_row
filtered_row_same header modes one other columns my planes wide same =
    let strengths : (k : ℕ) → k < columns → strength_at header modes one (my * columns + k) ≡ strength_at header modes other (my * columns + k) = λ k less. strength_same header modes one other (my * columns + k) (same k less) in
    let row : (shape : Shape) (samples : List ℕ) → row_filtered shape header.filter.is_simple (strength_at header modes one) columns my samples columns ≡ row_filtered shape header.filter.is_simple (strength_at header modes other) columns my samples columns = λ shape samples.
    row_same shape header modes one other columns my samples columns strengths in
    rw (wide, row luma planes.luma.samples, row chroma planes.cb.samples, row chroma planes.cr.samples) refl

-- a row is filtered by the flags of the macroblocks so far as by those of all
pub row_by_all : (header : Header) (modes : List MbMode) (flag : ℕ → Bool) (flags : List Bool) (columns my n : ℕ) (planes : PlaneSamples) → columns_in planes ≡ columns → flags ≡ map flag (range_with_len 0 n) → (my + 1) * columns ≤ n → n ≤ length modes →
    filtered_row header modes flags my planes ≡ filtered_row header modes (map flag (range_with_len 0 (length modes))) my planes
row_by_all header modes flag flags columns my n planes wide are some within =
    filtered_row_same header modes flags (map flag (range_with_len 0 (length modes))) columns my planes wide (λ k less.
    let place : ℕ = my * columns + k in
    ap (λ (l : List Bool). slice_index_or l place false) are ∙ get_or-map-range_with_len {X = Bool} flag 0 n place place false (omega (arith, less, some)) (omega arith)
    ∙ sym (get_or-map-range_with_len {X = Bool} flag 0 (length modes) place place false (omega (arith, less, some, within)) (omega arith)))
