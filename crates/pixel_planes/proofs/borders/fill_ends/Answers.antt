use Rattle.std.proofs.Common.{◌≡◌, ℕ, ◌+◌, ◌-◌, ◌*◌, ◌<◌, ◌≤◌, List, length, drop, slice_range, refl, ap, sym, ◌∙◌, arith, inl, inr}
use borrow.Rule.Slice.PartMut.{put_mid}
use Rattle.std.specs.Simd.Lanes.{chunk, put_chunk}
use Rattle.std.proofs.Math.Nat.{mul_comm, add-mul}
use Rattle.std.proofs.lemmas.Bool.{cases_lt}
use Rattle.std.proofs.lemmas.List.{drop-drop}
use Rattle.std.proofs.lemmas.Simd.{length-put_chunk, length-chunk}
use Rattle.pixel_planes.specs.Layout.{bordered_side, bordered_row}
use Rattle.pixel_planes.proofs.Parts.{part_is, chunk-chunk, chunk_from_front, chunk_from_tail, take_before-put_chunk, drop_behind-put_chunk, chunk_at-put_chunk, mid_is_put}
use Rattle.pixel_planes.proofs.BlockRows.{row_ends}
use Rattle.pixel_planes.proofs.BorderedRows.{length-bordered_row}
use Rattle.pixel_planes.proofs.borders.fill_ends.Goals as goal

-- row y is written with its border over it, while the rows below it are unchanged
record IsStep (width height border y : ℕ) (before samples new : List ℕ) : Type 0 where
  below : y < height
  room : length samples ≡ bordered_side width border * bordered_side height border
  rows : (k : ℕ) → k < y → slice_range samples ((border + k) * bordered_side width border) ((border + k) * bordered_side width border + bordered_side width border) ≡ bordered_row border (slice_range before ((border + k) * bordered_side width border + border) ((border + k) * bordered_side width border + border + width))
  rest : drop ((border + y) * bordered_side width border) samples ≡ drop ((border + y) * bordered_side width border) before
  written : new ≡ put_chunk ((border + y) * bordered_side width border) samples (bordered_row border (chunk ((border + y) * bordered_side width border + border) width samples))

place_fits : (width height border y : ℕ) (samples : List ℕ) → y < height → length samples ≡ bordered_side width border * bordered_side height border → (border + y) * bordered_side width border + bordered_side width border ≤ length samples
place_fits width height border y samples below room =
    let le : (border + y) * bordered_side width border + bordered_side width border ≤ bordered_side height border * bordered_side width border = row_ends (border + y) (bordered_side height border) (bordered_side width border) (omega (arith, below)) in
    omega (arith, room, mul_comm (bordered_side width border) (bordered_side height border))

row_len : (width height border y : ℕ) (samples : List ℕ) → y < height → length samples ≡ bordered_side width border * bordered_side height border → length (bordered_row border (chunk ((border + y) * bordered_side width border + border) width samples)) ≡ bordered_side width border
row_len width height border y samples below room =
    let start : ℕ = (border + y) * bordered_side width border + border in
    length-bordered_row border (chunk start width samples) ∙ ap (λ n. bordered_side n border) (length-chunk start width samples (omega (arith, place_fits width height border y samples below room)))

next : (border y stride : ℕ) → (border + (y + 1)) * stride ≡ (border + y) * stride + stride
next border y stride =
    let more : border + (y + 1) ≡ (border + y) + 1 = omega arith in
    let one : 1 * stride ≡ stride = omega arith in
    ap (λ k. k * stride) more ∙ add-mul (border + y) 1 stride ∙ ap (λ k. (border + y) * stride + k) one

rows_after : (width height border y : ℕ) (before samples new : List ℕ) → IsStep width height border y before samples new → (k : ℕ) → k < y + 1 → slice_range new ((border + k) * bordered_side width border) ((border + k) * bordered_side width border + bordered_side width border) ≡ bordered_row border (slice_range before ((border + k) * bordered_side width border + border) ((border + k) * bordered_side width border + border + width))
rows_after width height border y before samples new s k until =
    let stride : ℕ = bordered_side width border in
    let row : List ℕ = bordered_row border (chunk ((border + y) * stride + border) width samples) in
    rw (part_is new ((border + k) * stride) stride, s.written)
    (elim (cases_lt k y) [
      | inl earlier ↦
          chunk_from_front ((border + y) * stride) ((border + k) * stride) stride (put_chunk ((border + y) * stride) samples row) samples (row_ends (border + k) (border + y) stride (omega arith)) (take_before-put_chunk ((border + y) * stride) ((border + y) * stride) samples row (omega arith)) ∙ sym (part_is samples ((border + k) * stride) stride) ∙ s.rows k earlier
      | inr here ↦
          let same : k ≡ y = omega arith in
          rw same (chunk_at-put_chunk ((border + y) * stride) stride samples row (row_len width height border y samples s.below s.room) (place_fits width height border y samples s.below s.room) ∙ ap (bordered_row border) (chunk_from_tail ((border + y) * stride) ((border + y) * stride + border) width samples before (omega arith) s.rest ∙ sym (part_is before ((border + y) * stride + border) width)))
    ])

rest_after : (width height border y : ℕ) (before samples new : List ℕ) → IsStep width height border y before samples new → drop ((border + (y + 1)) * bordered_side width border) new ≡ drop ((border + (y + 1)) * bordered_side width border) before
rest_after width height border y before samples new s =
    let stride : ℕ = bordered_side width border in
    let row : List ℕ = bordered_row border (chunk ((border + y) * stride + border) width samples) in
    rw (next border y (bordered_side width border), s.written)
    (drop_behind-put_chunk ((border + y) * stride + stride) ((border + y) * stride) samples row (omega (arith, row_len width height border y samples s.below s.room)) ∙ sym (drop-drop stride ((border + y) * stride) samples) ∙ ap (drop stride) s.rest ∙ drop-drop stride ((border + y) * stride) before)

-- the samples after a row was written
written_at : (width height border y : ℕ) (samples row : List ℕ) → y < height → length samples ≡ bordered_side width border * bordered_side height border → row ≡ bordered_row border (slice_range (slice_range samples ((border + y) * bordered_side width border) ((border + y) * bordered_side width border + bordered_side width border)) border (border + width)) → put_mid ((border + y) * bordered_side width border) ((border + y) * bordered_side width border + bordered_side width border - (border + y) * bordered_side width border) samples row ≡ put_chunk ((border + y) * bordered_side width border) samples (bordered_row border (chunk ((border + y) * bordered_side width border + border) width samples))
written_at width height border y samples row below room filled =
    let stride : ℕ = bordered_side width border in
    let start : ℕ = (border + y) * bordered_side width border in
    let size : (border + y) * bordered_side width border + bordered_side width border - (border + y) * bordered_side width border ≡ bordered_side width border = omega arith in
    let part : slice_range (slice_range samples start (start + stride)) border (border + width) ≡ chunk (start + border) width samples = part_is (slice_range samples start (start + stride)) border width ∙ ap (chunk border width) (part_is samples start stride) ∙ chunk-chunk start stride border width samples (omega arith) in
    rw (size, filled, part) (mid_is_put start stride samples (bordered_row border (chunk (start + border) width samples)) (row_len width height border y samples below room) (place_fits width height border y samples below room))

pub loop-y-init : goal.loop-y-init
loop-y-init c = record { len = refl; rows = λ k none. absurd (omega arith); rest = refl }

pub loop-y-preserved : goal.loop-y-preserved
loop-y-preserved c =
    let room : length c.loop-y.samples ≡ bordered_side c.args.width c.args.border * bordered_side c.args.height c.args.border = c.loop-y.invariant.len ∙ c.requires.room in
    let start : ℕ = (c.args.border + c.loop-y.y) * bordered_side c.args.width c.args.border in
    let s : IsStep c.args.width c.args.height c.args.border c.loop-y.y c.args.samples.now c.loop-y.samples (put_mid start (start + bordered_side c.args.width c.args.border - start) c.loop-y.samples c.fill_row_ends.new.row) = record {
      below = c.loop-y-test.true;
      room = room;
      rows = c.loop-y.invariant.rows;
      rest = c.loop-y.invariant.rest;
      written = written_at c.args.width c.args.height c.args.border c.loop-y.y c.loop-y.samples c.fill_row_ends.new.row c.loop-y-test.true room c.fill_row_ends.ensures;
    } in
    record { len = ap length s.written ∙ length-put_chunk _ _ _ ∙ c.loop-y.invariant.len; rows = rows_after _ _ _ _ _ _ _ s; rest = rest_after _ _ _ _ _ _ _ s }
