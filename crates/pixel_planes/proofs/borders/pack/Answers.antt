use Rattle.std.proofs.Common.{◌≡◌, ℕ, ◌+◌, ◌*◌, ◌<◌, ◌≤◌, List, ◌++◌, length, take, drop, refl, ap, sym, ◌∙◌, arith, length-drop, add-one}
use Rattle.std.specs.List.{copy_within}
use Rattle.std.proofs.Math.Nat.{suc-mul, mul-le-mul_left}
use Rattle.std.proofs.Math.Seq.{paste}
use Rattle.std.proofs.lemmas.List.{drop-drop}
use Rattle.std.proofs.lemmas.List.Edits.{take-paste, drop-paste}
use Rattle.std.specs.Simd.Lanes.{chunk}
use Rattle.pixel_planes.specs.Layout.{rows_of}
use Rattle.pixel_planes.proofs.Parts.{chunk_from_tail}
use Rattle.pixel_planes.proofs.BlockRows.{rows_of-suc, row_room}
use Rattle.pixel_planes.proofs.borders.pack.Goals as goal

-- a row is moved to the front, from its position or further right
record IsMove (first stride width n y : ℕ) (before items new : List ℕ) : Type 0 where
  wide : width ≤ stride
  below : y < n
  room : first + n * stride ≤ length items
  rows : take (y * width) items ≡ rows_of before first stride width y
  rest : drop (y * width) items ≡ drop (y * width) before
  moved : new ≡ copy_within items (first + y * stride) (first + y * stride + width) (y * width)

next : (y width : ℕ) → (y + 1) * width ≡ y * width + width
next y width = ap (λ k. k * width) (add-one y) ∙ suc-mul y width

ahead : (first stride width y : ℕ) → width ≤ stride → y * width ≤ first + y * stride
ahead first stride width y wide = grind (arith, mul-le-mul_left)

pasted : (first stride width n y : ℕ) (before items new : List ℕ) → IsMove first stride width n y before items new → new ≡ paste items (y * width) (drop (first + y * stride) items) width
pasted first stride width n y before items new m = m.moved ∙ ap (paste items (y * width) (drop (first + y * stride) items)) (omega arith)

front_after : (first stride width n y : ℕ) (before items new : List ℕ) → IsMove first stride width n y before items new → take ((y + 1) * width) new ≡ rows_of before first stride width (y + 1)
front_after first stride width n y before items new m =
    let room : first + y * stride + width ≤ first + n * stride = row_room first stride width y n m.wide m.below in
    let near : y * width ≤ first + y * stride = ahead first stride width y m.wide in
    let row : chunk (first + y * stride) width items ≡ chunk (first + y * stride) width before = chunk_from_tail (y * width) (first + y * stride) width items before near m.rest in
    let fits : width ≤ length (drop (first + y * stride) items) = rw length-drop (omega (arith, m.room)) in
    let taken : take (y * width + width) (paste items (y * width) (drop (first + y * stride) items) width) ≡ take (y * width) items ++ chunk (first + y * stride) width items = take-paste items (y * width) (drop (first + y * stride) items) width (omega (arith, m.room)) fits in
    rw (next y width, pasted first stride width n y before items new m, taken, m.rows, row, add-one, rows_of-suc before first stride width y) refl

rest_after : (first stride width n y : ℕ) (before items new : List ℕ) → IsMove first stride width n y before items new → drop ((y + 1) * width) new ≡ drop ((y + 1) * width) before
rest_after first stride width n y before items new m =
    let room : first + y * stride + width ≤ first + n * stride = row_room first stride width y n m.wide m.below in
    let near : y * width ≤ first + y * stride = ahead first stride width y m.wide in
    let fits : width ≤ length (drop (first + y * stride) items) = rw length-drop (omega (arith, m.room)) in
    let left : drop (y * width + width) (paste items (y * width) (drop (first + y * stride) items) width) ≡ drop (y * width + width) items = drop-paste items (y * width) (drop (first + y * stride) items) width (omega (arith, m.room)) fits in
    rw (next y width, pasted first stride width n y before items new m, left) (sym (drop-drop width (y * width) items) ∙ ap (drop width) m.rest ∙ drop-drop width (y * width) before)

no_rows : (before : List ℕ) (first stride width : ℕ) → take (0 * width) before ≡ rows_of before first stride width 0
unfolding rows_of
no_rows before first stride width = let none : 0 * width ≡ 0 = omega arith in rw none refl

pub loop-y-init : goal.loop-y-init
loop-y-init c = record { len = refl; rows = no_rows _ _ _ _; rest = refl }

pub loop-y-preserved : goal.loop-y-preserved
loop-y-preserved c =
    let m : IsMove c.args.first c.args.stride c.args.width c.args.height c.loop-y.y c.args.samples.now.items c.loop-y.samples.items c.copy_within.new.self.items = record {
      wide = c.requires.sides.0;
      below = c.loop-y-test.true;
      room = omega (arith, c.requires.room, c.loop-y.invariant.len);
      rows = c.loop-y.invariant.rows;
      rest = c.loop-y.invariant.rest;
      moved = c.copy_within.ensures.items;
    } in
    record { len = omega (arith, c.copy_within.ensures.len, c.copy_within.new.self.ok.0, c.loop-y.samples.ok.0, c.loop-y.invariant.len); rows = front_after _ _ _ _ _ _ _ _ m; rest = rest_after _ _ _ _ _ _ _ _ m }
