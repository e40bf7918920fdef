-- Planes that are made row by row.
use Rattle.std.specs.Prelude.{slice_index, IfOk}
use Rattle.std.proofs.Common.{◌≡◌, ℕ, ◌+◌, ◌*◌, ◌<◌, ◌≤◌, true, Result, Ok, Err, List, length, refl, ap, ◌∙◌, arith, inl, inr}
use Rattle.std.proofs.lemmas.Bool.{cases_eq, leb-true}
use Rattle.std.proofs.lemmas.List.{get_or-take}
use Rattle.std.proofs.lemmas.Simd.{length-put_chunk}
use Rattle.pixel_planes.specs.Samples.{PlaneValue, sample_at, row_of, with_row_written}
use Rattle.pixel_planes.specs.Pictures.{PictureSamples, IsWholePicture, macroblocks, side_of, plane_of, shown_row_of}
use Rattle.pixel_planes.specs.PlaneSamples.{picture_of}
use Rattle.pixel_planes.specs.declared.pictures.Component.{Component}
use Rattle.pixel_planes.specs.declared.pictures.Component.TheVariants.{Luma, Cb, Cr}
use Rattle.pixel_planes.proofs.Rows.{written_row, kept_row}
use Rattle.pixel_planes.proofs.InBlock.{sample_of_row}
use Rattle.script_nodes.specs.declared.nodes.Area.{Area}
use Rattle.script_nodes.specs.Shown.{Shows, shown_in, is_inside, position_in, cut_to, black, weighed, faded_to}
use Rattle.script_nodes.specs.Rows.{IsFadedTo}
use Rattle.script_nodes.specs.Planes.{block_side, IsCodedPlane, HasRows}
use Rattle.script_nodes.proofs.Uses.{both}

-- the shown width of a component is at most its coded width
pub side_fits : (component : Component) (n : ℕ) → side_of component n ≤ block_side component * macroblocks n
side_fits Luma n = omega arith
side_fits Cb n = omega arith
side_fits Cr n = omega arith

pub rows_none : (component : Component) (width height : ℕ) (sample : ℕ → ℕ → ℕ) (plane : PlaneValue) → IsCodedPlane component width height plane → HasRows component width height sample 0 plane
rows_none component width height sample plane coded = record { coded = coded; each = λ x y inside below. absurd (omega arith) }

-- one more row
pub rows_more : (component : Component) (width height : ℕ) (sample : ℕ → ℕ → ℕ) (plane : PlaneValue) (y : ℕ) (row : List ℕ) → HasRows component width height sample y plane → y < side_of component height → length row ≡ plane.shown.width → ((x : ℕ) → x < side_of component width → slice_index row x ≡ sample x y) → HasRows component width height sample (y + 1) (with_row_written plane y row)
rows_more component width height sample plane y row before below long right =
    let wide : side_of component width ≤ plane.shown.width = omega (arith, side_fits component width, before.coded.blocks.0) in
    let high : y < plane.shown.height = omega (arith, side_fits component height, before.coded.blocks.1) in
    record {
      coded = record { blocks = before.coded.blocks; whole = (before.coded.whole.0, before.coded.whole.1, before.coded.whole.2, before.coded.whole.3, length-put_chunk (y * plane.shown.width) plane.shown.samples row ∙ before.coded.whole.4) };
      each = λ x other inside less.
          elim (cases_eq other y) [
            | inl here ↦ rw here (written_row plane.shown y row x before.coded.whole.4 long high (omega arith) ∙ right x inside)
            | inr apart ↦ kept_row plane.shown y row x other long (omega arith) apart ∙ before.each x other inside (omega arith)
          ];
    }

-- a shown row of a picture is not wider than its plane
pub shown_fits : (p : PictureSamples) (component : Component) → IsWholePicture p → side_of component p.width ≤ (plane_of p component).width
shown_fits p Luma whole = omega (arith, side_fits Luma p.width, whole.4.0.0)
shown_fits p Cb whole = omega (arith, side_fits Cb p.width, whole.4.1.0)
shown_fits p Cr whole = omega (arith, side_fits Cr p.width, whole.4.2.0)

-- a sample of a shown row
pub shown_at : (p : PictureSamples) (component : Component) (x y : ℕ) → IsWholePicture p → x < side_of component p.width → slice_index (shown_row_of p component y) x ≡ sample_at (plane_of p component) x y
shown_at p component x y whole inside =
    get_or-take (side_of component p.width) (row_of (plane_of p component) y) x 0 inside
    ∙ sample_of_row (plane_of p component) x y (omega (arith, shown_fits p component whole))

-- a position of an area in the picture around it
pub place_inside : (component : Component) (at wide whole x : ℕ) → at + wide ≤ whole → x < side_of component wide → position_in component at + x < side_of component whole
place_inside Luma at wide whole x fits less = omega arith
place_inside Cb at wide whole x fits less = omega arith
place_inside Cr at wide whole x fits less = omega arith

-- a row that was copied from an area
pub row_cut : (p : PictureSamples) (component : Component) (area : Area) (left top y : ℕ) (row out : List ℕ) → IsWholePicture p → is_inside area p.width p.height ≡ true → left ≡ position_in component area.x → top ≡ position_in component area.y → row ≡ shown_row_of p component (top + y) → ((x : ℕ) → x < side_of component area.width → slice_index out x ≡ slice_index row (left + x)) → (x : ℕ) → x < side_of component area.width → slice_index out x ≡ (cut_to area (shown_in p)).sample component x y
row_cut p component area left top y row out whole inside at_left at_top is copied x less =
    let within : area.x + area.width ≤ p.width = leb-true (area.x + area.width) p.width (both _ _ inside).0 in
    copied x less
    ∙ ap (λ (l : List ℕ). slice_index l (left + x)) is
    ∙ ap (λ (k : ℕ). slice_index (shown_row_of p component (top + y)) (k + x)) at_left
    ∙ shown_at p component (position_in component area.x + x) (top + y) whole (place_inside component area.x area.width p.width x within less)
    ∙ ap (λ (k : ℕ). sample_at (plane_of p component) (position_in component area.x + x) (k + y)) at_top

-- a row that was faded
pub row_faded : (p : PictureSamples) (component : Component) (weight dark y : ℕ) (row out : List ℕ) → IsWholePicture p → dark ≡ black component → row ≡ shown_row_of p component y → length row ≡ side_of component p.width → IsFadedTo weight dark row (length row) out → (x : ℕ) → x < side_of component p.width → slice_index out x ≡ (faded_to weight (shown_in p)).sample component x y
row_faded p component weight dark y row out whole darks is long faded x less =
    faded.each x (omega (arith, long))
    ∙ ap (λ (l : List ℕ). weighed weight dark (slice_index l x)) is
    ∙ ap (λ (k : ℕ). weighed weight k (slice_index (shown_row_of p component y) x)) darks
    ∙ ap (weighed weight (black component)) (shown_at p component x y whole less)

-- a picture of three planes, each with all its rows
pub planes_shown : {E : Type 0} (made : Result PictureSamples E) (width height wide high : ℕ) (sample : Component → ℕ → ℕ → ℕ) (luma cb cr : PlaneValue)
    → HasRows Luma wide high (sample Luma) (side_of Luma high) luma → HasRows Cb wide high (sample Cb) (side_of Cb high) cb → HasRows Cr wide high (sample Cr) (side_of Cr high) cr
    → width ≡ wide → height ≡ high → IfOk made (λ p. p ≡ picture_of width height (record { luma = luma.shown; cb = cb.shown; cr = cr.shown }))
    → IfOk made (λ p. Shows p (record { width = wide; height = high; sample = sample }))
planes_shown (Ok p) width height wide high sample luma cb cr has_luma has_cb has_cr is_wide is_high is = rw (is, is_wide, is_high) (record { wide = refl; high = refl; each = each })
  where
    each : (component : Component) (x y : ℕ) → x < side_of component wide → y < side_of component high → sample_at (plane_of (picture_of wide high (record { luma = luma.shown; cb = cb.shown; cr = cr.shown })) component) x y ≡ sample component x y
    each Luma = has_luma.each
    each Cb = has_cb.each
    each Cr = has_cr.each
planes_shown (Err e) width height wide high sample luma cb cr has_luma has_cb has_cr is_wide is_high is = tt
