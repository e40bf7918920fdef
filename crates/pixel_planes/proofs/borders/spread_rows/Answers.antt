use Rattle.std.proofs.Common.{◌≡◌, ℕ, ◌+◌, ◌-◌, ◌*◌, ◌<◌, ◌≤◌, List, length, take, slice_range, refl, ap, sym, ◌∙◌, arith, add-one, inl, inr}
use Rattle.std.specs.Simd.Lanes.{put_chunk}
use Rattle.std.proofs.Math.Nat.{suc-mul, mul_comm, mul-le-mul_right, mul-le-mul_left}
use Rattle.std.proofs.lemmas.Bool.{cases_lt}
use Rattle.std.proofs.lemmas.List.{take-take}
use Rattle.std.proofs.lemmas.Simd.{length-put_chunk, length-chunk}
use Rattle.pixel_planes.specs.Layout.{bordered_side, bordered_row}
use Rattle.pixel_planes.proofs.Parts.{part_is, chunk_from_front, chunk_from_tail, take_before-put_chunk, drop_behind-put_chunk, chunk_at-put_chunk}
use Rattle.pixel_planes.proofs.BorderedRows.{length-bordered_row}
use Rattle.pixel_planes.proofs.borders.spread_rows.Goals as goal

-- row y is written with its border at its position, while the rows above it are still at the front
record IsStep (width height border y : ℕ) (before samples new : List ℕ) : Type 0 where
  below : y < height
  room : length samples ≡ bordered_side width border * bordered_side height border
  front : take ((y + 1) * width) samples ≡ take ((y + 1) * width) before
  rows : (k : ℕ) → y + 1 ≤ k → k < height → slice_range samples ((border + k) * bordered_side width border) ((border + k) * bordered_side width border + bordered_side width border) ≡ bordered_row border (slice_range before (k * width) (k * width + width))
  written : new ≡ put_chunk ((border + y) * bordered_side width border) samples (bordered_row border (slice_range samples (y * width) (y * width + width)))

more : (y w : ℕ) → (y + 1) * w ≡ y * w + w
more y w = ap (λ k. k * w) (add-one y) ∙ suc-mul y w

-- the row at the front is still unchanged
row_kept : (width height border y : ℕ) (before samples new : List ℕ) → IsStep width height border y before samples new → slice_range samples (y * width) (y * width + width) ≡ slice_range before (y * width) (y * width + width)
row_kept width height border y before samples new s =
    rw (part_is samples (y * width) width, part_is before (y * width) width)
    (chunk_from_front ((y + 1) * width) (y * width) width samples before (omega (arith, more y width)) s.front)

-- a row ends where the rows below it begin
row_ends : (y k s : ℕ) → y < k → y * s + s ≤ k * s
row_ends y k s below = let le : (y + 1) * s ≤ k * s = mul-le-mul_right s (omega arith) in omega (arith, more y s)

-- a row at the front is no longer than one with its border, and is no further right
near : (width border y : ℕ) → y * width ≤ (border + y) * bordered_side width border
near width border y =
    let a : y * width ≤ y * bordered_side width border = mul-le-mul_left y (omega arith) in
    let b : y * bordered_side width border ≤ (border + y) * bordered_side width border = mul-le-mul_right (bordered_side width border) (omega arith) in
    omega arith

place_fits : (width height border y : ℕ) (before samples new : List ℕ) → IsStep width height border y before samples new → (border + y) * bordered_side width border + bordered_side width border ≤ length samples
place_fits width height border y before samples new s =
    let le : (border + y) * bordered_side width border + bordered_side width border ≤ bordered_side height border * bordered_side width border = row_ends (border + y) (bordered_side height border) (bordered_side width border) (omega (arith, s.below)) in
    omega (arith, s.room, mul_comm (bordered_side width border) (bordered_side height border))

row_fits : (width height border y : ℕ) (before samples new : List ℕ) → IsStep width height border y before samples new → y * width + width ≤ length samples
row_fits width height border y before samples new s = omega (arith, near width border y, place_fits width height border y before samples new s)

front_after : (width height border y : ℕ) (before samples new : List ℕ) → IsStep width height border y before samples new → take (y * width) new ≡ take (y * width) before
front_after width height border y before samples new s =
    let row : List ℕ = bordered_row border (slice_range samples (y * width) (y * width + width)) in
    let le : y * width ≤ (y + 1) * width = omega (arith, more y width) in
    rw (s.written) (take_before-put_chunk (y * width) ((border + y) * bordered_side width border) samples row (near width border y) ∙ sym (take-take (y * width) ((y + 1) * width) samples le) ∙ ap (take (y * width)) s.front ∙ take-take (y * width) ((y + 1) * width) before le)

rows_after : (width height border y : ℕ) (before samples new : List ℕ) → IsStep width height border y before samples new → (k : ℕ) → y ≤ k → k < height → slice_range new ((border + k) * bordered_side width border) ((border + k) * bordered_side width border + bordered_side width border) ≡ bordered_row border (slice_range before (k * width) (k * width + width))
rows_after width height border y before samples new s k from below =
    let stride : ℕ = bordered_side width border in
    let old_row : List ℕ = slice_range samples (y * width) (y * width + width) in
    let row : List ℕ = bordered_row border old_row in
    let len : length row ≡ stride = length-bordered_row border old_row ∙ ap (λ n. bordered_side n border) (ap length (part_is samples (y * width) width) ∙ length-chunk (y * width) width samples (row_fits width height border y before samples new s)) in
    rw (part_is new ((border + k) * stride) stride, s.written)
    (elim (cases_lt y k) [
      | inl later ↦
          chunk_from_tail ((border + y) * stride + stride) ((border + k) * stride) stride (put_chunk ((border + y) * stride) samples row) samples (row_ends (border + y) (border + k) stride (omega arith)) (drop_behind-put_chunk ((border + y) * stride + stride) ((border + y) * stride) samples row (omega arith)) ∙ sym (part_is samples ((border + k) * stride) stride) ∙ s.rows k (omega arith) below
      | inr here ↦
          let same : k ≡ y = omega arith in
          rw same (chunk_at-put_chunk ((border + y) * stride) stride samples row len (place_fits width height border y before samples new s) ∙ ap (bordered_row border) (row_kept width height border y before samples new s))
    ])

pub loop-y-init : goal.loop-y-init
loop-y-init c = record { len = refl; front = refl; rows = λ y from below. absurd (omega arith) }

pub loop-y-preserved : goal.loop-y-preserved
loop-y-preserved c =
    let again : c.loop-y.y - 1 + 1 ≡ c.loop-y.y = omega (arith, c.loop-y-test.true) in
    let s : IsStep c.args.width c.args.height c.args.border (c.loop-y.y - 1) c.args.samples.now c.loop-y.samples c.spread_row.new.samples = record {
      below = omega (arith, c.loop-y-test.true, c.loop-y.auto.y);
      room = c.loop-y.invariant.len ∙ c.requires.room;
      front = rw again c.loop-y.invariant.front;
      rows = λ k from below. c.loop-y.invariant.rows k (omega arith) below;
      written = c.spread_row.ensures;
    } in
    record { len = ap length c.spread_row.ensures ∙ length-put_chunk _ _ _ ∙ c.loop-y.invariant.len; front = front_after _ _ _ _ _ _ _ s; rows = rows_after _ _ _ _ _ _ _ s }
