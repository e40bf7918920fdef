-- Squares that are written straight into the rows of a plane, which are apart from each other.
use Rattle.std.specs.Prelude.{slice_index}
use Rattle.std.proofs.Common.{◌≡◌, ℕ, ◌+◌, ◌*◌, ◌/◌, ◌%◌, ◌<◌, ◌≤◌, inl, inr, List, length, refl, ap, sym, ◌∙◌, arith}
use Rattle.std.proofs.Math.Nat.{mod-lt, mul-le-mul_right}
use Rattle.std.proofs.lemmas.Bool.{cases_lt}
use Rattle.std.proofs.lemmas.Grind.{same_number_lists}
use Rattle.std.proofs.lemmas.Nat.{div-add-mod'}
use Rattle.pixel_planes.specs.Layout.{cropped, rows_of}
use Rattle.pixel_planes.specs.Samples.{Samples, sample_at}
use Rattle.pixel_planes.proofs.BlockRows.{length-rows_of, sample_of_rows}
use Rattle.reference_frames.specs.PlacedBlocks.{IsPlaced, from_corner}
use Rattle.reference_frames.specs.Unfiltered.{with_block}
use Rattle.reference_frames.specs.WrittenBlocks.{block_rows_put}
use Rattle.reference_frames.proofs.Flat.{IsPlane, in_or_out, rows_in, rows_out}
use Rattle.reference_frames.proofs.PutRows.{rows_put, rows_put-length}
use Rattle.reference_frames.proofs.Squares.{rows_room}

-- the rows down to a square's last have room in the plane
pub plane_room : (y side height across count : ℕ) → y + side ≤ height → count ≡ height * across → (y + side) * across ≤ count
plane_room y side height across count high is = rows_room (y + side) height across count high (omega (arith, is))

-- rows that have a sample have a width
some_width : (k width height : ℕ) → k < height * width → 0 < width
some_width k width height below =
    elim (cases_lt 0 width) [
      | inl some ↦ some
      | inr none ↦
          let zero : width ≡ 0 = omega arith in
          let count : height * width ≡ 0 = ap (λ n. height * n) zero ∙ omega arith in
          absurd (omega (arith, below, count))
    ]

-- the row of an index
row_below : (k width height : ℕ) → k < height * width → k / width < height
row_below k width height below =
    let place : k / width * width + k % width ≡ k = div-add-mod' k width in
    elim (cases_lt (k / width) height) [
      | inl less ↦ less
      | inr past ↦ let rows : height * width ≤ k / width * width = mul-le-mul_right width past in absurd (omega (arith, place, rows, below))
    ]

-- a block whose rows were written is a square that was written
pub put_placed : (items : List ℕ) (height across x y side : ℕ) (sample : ℕ → ℕ → ℕ) → x + side ≤ across → y + side ≤ height → length items ≡ across * height →
    IsPlaced (from_corner x y sample) across side x y items (block_rows_put items (y * across + x) across side sample side)
put_placed items height across x y side sample wide high whole =
    let p : Samples = record { width = across; height = height; samples = items } in
    let as_rows : with_block p x y side sample ≡ record p { samples = block_rows_put items (y * across + x) across side sample side } = rows_put p x y side sample side wide in
    let shape : IsPlane across height p = record { wide = refl; high = refl; whole = whole } in
    record {
      whole = rows_put-length items (y * across + x) across side sample side;
      each = λ i j inside. sym (ap (λ (q : Samples). sample_at q i j) as_rows) ∙ rows_in across height p x y side sample side i j shape wide high inside.0 inside.1 inside.2 inside.3;
      others = λ i j within out. sym (ap (λ (q : Samples). sample_at q i j) as_rows) ∙ rows_out across height p x y side sample side i j shape wide high within (λ a b c d. out (a, b, c, d));
    }

-- a sample of a plane whose rows are apart
pub crop_sample : (width height across : ℕ) (items : List ℕ) (i j : ℕ) → width ≤ across → length items ≡ height * across → i < width → j < height → sample_at (cropped width height across items) i j ≡ slice_index items (j * across + i)
crop_sample width height across items i j wide whole within below =
    let place : 0 + j * across + i ≡ j * across + i = omega arith in
    sample_of_rows items 0 across width height i j wide (omega (arith, whole)) below within ∙ ap (λ n. slice_index items n) place

-- the number of its samples
pub crop_length : (width height across : ℕ) (items : List ℕ) → width ≤ across → length items ≡ height * across → length (rows_of items 0 across width height) ≡ height * width
crop_length width height across items wide whole = length-rows_of items 0 across width height wide (omega (arith, whole))

-- a square that was written into rows that are apart is a block that was written into the plane
pub placed_block : (width height across x y side : ℕ) (sample : ℕ → ℕ → ℕ) (old new : List ℕ) → width ≤ across → x + side ≤ width → y + side ≤ height → length old ≡ height * across → IsPlaced (from_corner x y sample) across side x y old new →
    cropped width height across new ≡ with_block (cropped width height across old) x y side sample
placed_block width height across x y side sample old new narrow wide high whole is =
    let p : Samples = cropped width height across old in
    let written : List ℕ = block_rows_put p.samples (y * width + x) width side sample side in
    let before : length p.samples ≡ height * width = crop_length width height across old narrow whole in
    let long : length new ≡ height * across = is.whole ∙ whole in
    let put : IsPlaced (from_corner x y sample) width side x y p.samples written = put_placed p.samples height width x y side sample wide high (omega (arith, before)) in
    let at : (i j : ℕ) → i < width → j < height → sample_at (cropped width height across new) i j ≡ slice_index written (j * width + i) = λ i j within below.
    crop_sample width height across new i j narrow long within below
    ∙ elim (in_or_out x y side i j) [
      | inl inside ↦ is.each i j inside ∙ sym (put.each i j inside)
      | inr outside ↦
          is.others i j (omega (arith, within, narrow)) (λ q. outside q.0 q.1 q.2 q.3)
          ∙ sym (crop_sample width height across old i j narrow whole within below)
          ∙ sym (put.others i j within (λ q. outside q.0 q.1 q.2 q.3))
    ] in
    let count : length (rows_of new 0 across width height) ≡ height * width = crop_length width height across new narrow long in
    let lists : rows_of new 0 across width height ≡ written = same_number_lists (rows_of new 0 across width height) written (count ∙ sym before ∙ sym put.whole) (λ k below.
    let place : k / width * width + k % width ≡ k = div-add-mod' k width in
    let inside : k < height * width = omega (arith, below, count) in
    sym (ap (λ n. slice_index (rows_of new 0 across width height) n) place) ∙ at (k % width) (k / width) (mod-lt k (some_width k width height inside)) (row_below k width height inside) ∙ ap (λ n. slice_index written n) place) in
    ap (λ (s : List ℕ). record p { samples = s }) lists ∙ sym (rows_put p x y side sample side wide)
