-- Squares that are written into the rows that a plane lends.
use Rattle.std.specs.Prelude.{slice_range}
use Rattle.std.proofs.Common.{◌≡◌, ℕ, zero, suc, ◌+◌, ◌*◌, ◌<◌, ◌≤◌, List, length, refl, ap, sym, ◌∙◌, arith}
use Rattle.std.proofs.Math.Nat.{mul-le-mul_right}
use Rattle.std.proofs.lemmas.Simd.{put_chunk_whole}
use Rattle.pixel_planes.specs.Layout.{bordered_side, cropped, rows_of, rows_written_over, with_rows_written}
use Rattle.pixel_planes.specs.Samples.{Samples, PlaneValue, row_of}
use Rattle.reference_frames.specs.PlacedBlocks.{IsPlaced, from_corner}
use Rattle.reference_frames.specs.Unfiltered.{with_block}
use Rattle.reference_frames.proofs.Blocks.{part_length}
use Rattle.reference_frames.proofs.Flat.{row_length}
use Rattle.reference_frames.proofs.PlacedInPlanes.{crop_length, placed_block}

-- the part of a row that is a plane's row is within the rows
row_within : (n height width across : ℕ) → width ≤ across → n < height → n * across + width ≤ height * across
row_within n height width across wide below = let rows : (n + 1) * across ≤ height * across = mul-le-mul_right across (omega (arith, below)) in omega (arith, rows, wide)

-- whole rows that are written over a plane's are the plane's
rows_over : (p : Samples) (across : ℕ) (items : List ℕ) (n : ℕ) → p.width ≤ across → length p.samples ≡ p.width * p.height → length items ≡ p.height * across → n ≤ p.height → rows_written_over p across items n ≡ rows_of items 0 across p.width n
unfolding rows_written_over rows_of
rows_over p across items zero wide whole long fits = refl
rows_over p across items (suc n) wide whole long fits =
    let before : length (row_of p n) ≡ p.width = row_length p n whole (omega (arith, fits)) in
    let room : n * across + p.width ≤ p.height * across = row_within n p.height p.width across wide (omega (arith, fits)) in
    let after : length (slice_range items (n * across) (n * across + p.width)) ≡ p.width = part_length items (n * across) p.width (omega (arith, room, long)) in
    let start : 0 + n * across ≡ n * across = omega arith in
    rw (rows_over p across items n wide whole long (omega (arith, fits)), put_chunk_whole (row_of p n) (slice_range items (n * across) (n * across + p.width)) (before ∙ sym after), start) refl

-- a square that was written into the rows of a plane is a block that was written into the plane
pub lent_block : (plane : PlaneValue) (x y side : ℕ) (sample : ℕ → ℕ → ℕ) (rows new : List ℕ) → x + side ≤ plane.shown.width → y + side ≤ plane.shown.height →
    cropped plane.shown.width plane.shown.height (bordered_side plane.shown.width plane.border) rows ≡ plane.shown → length rows ≡ plane.shown.height * bordered_side plane.shown.width plane.border → IsPlaced (from_corner x y sample) (bordered_side plane.shown.width plane.border) side x y rows new →
    (with_rows_written plane new).shown ≡ with_block plane.shown x y side sample
lent_block plane x y side sample rows new wide high shown long is =
    let p : Samples = plane.shown in
    let across : ℕ = bordered_side p.width plane.border in
    let narrow : p.width ≤ across = omega arith in
    let count : length p.samples ≡ p.height * p.width = sym (ap (λ (q : Samples). length q.samples) shown) ∙ crop_length p.width p.height across rows narrow long in
    let written : rows_written_over p across new p.height ≡ rows_of new 0 across p.width p.height = rows_over p across new p.height narrow (omega (arith, count)) (is.whole ∙ long) (omega arith) in
    ap (λ (s : List ℕ). record p { samples = s }) written ∙ placed_block p.width p.height across x y side sample rows new narrow wide high long is ∙ ap (λ (q : Samples). with_block q x y side sample) shown
