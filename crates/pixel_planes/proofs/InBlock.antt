-- A plane in its block: the samples that the block shows, and its border.
use Rattle.std.specs.Prelude.{slice_index, slice_range}
use Rattle.std.specs.Simd.Lanes.{chunk, put_chunk}
use Rattle.std.proofs.Common.{◌≡◌, ℕ, ◌+◌, ◌-◌, ◌*◌, ◌<◌, ◌≤◌, min, Bool, false, List, length, take, replicate, refl, ap, sym, ◌∙◌, arith, ℤ, pos, negsuc, ◌+ℤ◌, inl, inr}
use Rattle.std.proofs.lemmas.Bool.{cases_lt}
use Rattle.std.proofs.lemmas.Nat.{mul-le}
use Rattle.std.proofs.lemmas.Int.{ints}
use Rattle.std.proofs.Math.Nat.{mul_comm, add-mul, two-mul, mul-le-mul_left, mul-le-mul_right}
use Rattle.std.proofs.lemmas.List.{take_all, length-replicate, take-replicate, drop-replicate, get_or-replicate, replicate-append-replicate}
use Rattle.std.proofs.lemmas.List.Edits.{length-between, get_or-between}
use Rattle.std.proofs.lemmas.Simd.{length-chunk, get_or-chunk}
use Rattle.pixel_planes.specs.Samples.{Samples, PlaneValue, out_of_date, IsWhole, row_of, sample_at, uniform}
use Rattle.pixel_planes.specs.ReferenceSamples.{clamped_coordinate, reference_sample, IsSpan, IsWindow}
use Rattle.pixel_planes.specs.Layout.{Layout, layout_of, shown_in, IsLaidOut, IsBordered, rows_of, bordered_row, bordered_side, flat_plane, apart_in}
use Rattle.pixel_planes.proofs.Parts.{part_is, chunk-chunk, take-put_chunk}
use Rattle.pixel_planes.proofs.BlockRows.{length-rows_of, chunk_of_rows, sample_of_rows, rows_at_front, same_rows, row_ends}
use Rattle.pixel_planes.proofs.BorderedRows.{row_in_bordered, sample_in_bordered}

-- the model of a plane with this layout
abbrev pub shown_value : ℕ → ℕ → ℕ → ℕ → ℕ → Bool → List ℕ → PlaneValue
shown_value width height border first stride cur items = record { shown = shown_in (layout_of width height border first stride) items; border = border; is_current = cur }

-- the shown samples are a whole plane
pub whole_of_laid_out : (l : Layout) (items : List ℕ) → IsLaidOut l items → IsWhole (shown_in l items)
whole_of_laid_out l items o = (o.wide.0, o.wide.1, o.high.0, o.high.1, length-rows_of items l.first l.stride l.width l.height o.stride_small.0 o.rows_fit ∙ mul_comm l.height l.width)

-- a shown row in the block
pub row_of_laid_out : (l : Layout) (items : List ℕ) (y : ℕ) → IsLaidOut l items → y < l.height → slice_range items (l.first + y * l.stride) (l.first + y * l.stride + l.width) ≡ row_of (shown_in l items) y
row_of_laid_out l items y o below =
    part_is items (l.first + y * l.stride) l.width ∙ sym (chunk_of_rows items l.first l.stride l.width l.height y o.stride_small.0 o.rows_fit below) ∙ sym (part_is (rows_of items l.first l.stride l.width l.height) (y * l.width) l.width)

-- a shown sample in the block
pub sample_of_laid_out : (l : Layout) (items : List ℕ) (x y : ℕ) → IsLaidOut l items → x < l.width → y < l.height → slice_index items (l.first + y * l.stride + x) ≡ sample_at (shown_in l items) x y
sample_of_laid_out l items x y o in_row below = sym (sample_of_rows items l.first l.stride l.width l.height x y o.stride_small.0 o.rows_fit below in_row)

-- a row of a whole plane has its width
pub length-row_of : (p : Samples) (y : ℕ) → IsWhole p → y < p.height → length (row_of p y) ≡ p.width
length-row_of p y whole below =
    ap length (part_is p.samples (y * p.width) p.width) ∙ length-chunk (y * p.width) p.width p.samples (omega (arith, whole.4, mul_comm p.width p.height, row_ends y p.height p.width below))

-- a sample of a row
pub sample_of_row : (p : Samples) (x y : ℕ) → x < p.width → slice_index (row_of p y) x ≡ sample_at p x y
sample_of_row p x y in_row = ap (λ row. slice_index row x) (part_is p.samples (y * p.width) p.width) ∙ get_or-chunk (y * p.width) p.width p.samples x 0 in_row

-- the sample in a column and row of the plane with its border
pub sample_of_bordered : (p : Samples) (border : ℕ) (items : List ℕ) → IsWhole p → IsBordered p border items → (column row : ℕ) → column < bordered_side p.width border → row < bordered_side p.height border → slice_index items (row * bordered_side p.width border + column) ≡ sample_at p (min (column - border) (p.width - 1)) (min (row - border) (p.height - 1))
sample_of_bordered p border items whole b column row in_row in_block =
    let stride : ℕ = bordered_side p.width border in
    let k : ℕ = min (row - border) (p.height - 1) in
    let below : min (row - border) (p.height - 1) < p.height = omega (arith, whole.2) in
    let len : length (row_of p k) ≡ p.width = length-row_of p k whole below in
    let inside : column < bordered_side (length (row_of p k)) border = omega (arith, len) in
    sym (get_or-chunk (row * stride) stride items column 0 in_row) ∙ ap (λ part. slice_index part column) (sym (part_is items (row * stride) stride) ∙ b.rows row in_block) ∙ sample_in_bordered border column (row_of p k) inside ∙ ap (λ n. slice_index (row_of p k) (min (column - border) (n - 1))) len ∙ sample_of_row p (min (column - border) (p.width - 1)) k (omega (arith, whole.0))

held_go : (side border m : ℕ) (z : ℤ) → z +ℤ pos border ≡ pos m → clamped_coordinate side z ≡ min (m - border) (side - 1)
held_go side border m (pos n) at = omega (arith, ints)
held_go side border m (negsuc n) at = omega (arith, ints)

-- a coordinate clamped to the plane, by its index in the block
pub held_is : (side border found k : ℕ) (x : ℤ) → pos found ≡ x +ℤ pos border → clamped_coordinate side (x +ℤ pos k) ≡ min (found + k - border) (side - 1)
held_is side border found k x at = held_go side border (found + k) (x +ℤ pos k) (omega (arith, ints))

-- an index of the block by its coordinates
pub reference_of_bordered : (p : Samples) (border : ℕ) (items : List ℕ) → IsWhole p → IsBordered p border items → (left top column row : ℕ) (x y : ℤ) → pos left ≡ x +ℤ pos border → pos top ≡ y +ℤ pos border → left + column < bordered_side p.width border → top + row < bordered_side p.height border → slice_index items ((top + row) * bordered_side p.width border + (left + column)) ≡ reference_sample p (x +ℤ pos column) (y +ℤ pos row)
unfolding reference_sample
reference_of_bordered p border items whole b left top column row x y across down in_row in_block =
    rw (held_is p.width border left column x across, held_is p.height border top row y down) (sample_of_bordered p border items whole b (left + column) (top + row) in_row in_block)

-- a shown row between its borders
row_there : (p : Samples) (border : ℕ) (items : List ℕ) → IsWhole p → IsBordered p border items → (y : ℕ) → y < p.height → chunk (border * bordered_side p.width border + border + y * bordered_side p.width border) p.width items ≡ chunk (0 + y * p.width) p.width p.samples
row_there p border items whole b y below =
    let stride : ℕ = bordered_side p.width border in
    let at : border * bordered_side p.width border + border + y * bordered_side p.width border ≡ (border + y) * bordered_side p.width border + border = omega (arith, add-mul border y (bordered_side p.width border)) in
    let held : min (border + y - border) (p.height - 1) ≡ y = omega arith in
    let start : 0 + y * p.width ≡ y * p.width = omega arith in
    let row : chunk ((border + y) * stride) stride items ≡ bordered_row border (row_of p y) = sym (part_is items ((border + y) * stride) stride) ∙ b.rows (border + y) (omega arith) ∙ ap (λ k. bordered_row border (row_of p k)) held in
    ap (λ k. chunk k p.width items) at ∙ sym (chunk-chunk ((border + y) * stride) stride border p.width items (omega arith)) ∙ ap (chunk border p.width) row ∙ row_in_bordered border p.width (row_of p y) (length-row_of p y whole below) ∙ part_is p.samples (y * p.width) p.width ∙ ap (λ k. chunk k p.width p.samples) (sym start)

-- the shown samples of a block with its border
pub shown_of_bordered : (p : Samples) (border : ℕ) (items : List ℕ) → IsWhole p → IsBordered p border items → rows_of items (border * bordered_side p.width border + border) (bordered_side p.width border) p.width p.height ≡ p.samples
shown_of_bordered p border items whole b =
    let stride : ℕ = bordered_side p.width border in
    same_rows items p.samples (border * stride + border) stride 0 p.width p.width p.height (λ y below. row_there p border items whole b y below) ∙ rows_at_front p.samples p.width p.height ∙ take_all (p.height * p.width) p.samples (omega (arith, whole.4, mul_comm p.width p.height))

-- the shown samples of a packed block
shown_of_packed : (items packed : List ℕ) (first stride width height : ℕ) → take (width * height) packed ≡ rows_of items first stride width height → rows_of packed 0 width width height ≡ rows_of items first stride width height
shown_of_packed items packed first stride width height value = rows_at_front packed width height ∙ ap (λ k. take k packed) (mul_comm height width) ∙ value

-- the plane of a packed block
pub joined : (width height border first stride : ℕ) (cur : Bool) (items packed : List ℕ) → take (width * height) packed ≡ rows_of items first stride width height → shown_value width height border 0 width false packed ≡ out_of_date (shown_value width height border first stride cur items)
joined width height border first stride cur items packed value =
    ap (λ (l : List ℕ). record { shown = record { width = width; height = height; samples = l }; border = border; is_current = false }) (shown_of_packed items packed first stride width height value)

-- the block after a write to a packed block
pub shown_of_written : (items ws : List ℕ) (at first stride width height : ℕ) → stride ≡ width → first ≡ 0 → rows_of (put_chunk at items ws) first stride width height ≡ put_chunk at (rows_of items first stride width height) ws
shown_of_written items ws at first stride width height flat front =
    rw (flat, front, rows_at_front (put_chunk at items ws) width height, rows_at_front items width height) (take-put_chunk (height * width) at items ws)

-- a block of one value
pub chunk-replicate : (i n m value : ℕ) → i + n ≤ m → chunk i n (replicate m value) ≡ replicate n value
chunk-replicate i n m value fits = ap (take n) (drop-replicate i m value) ∙ take-replicate n (m - i) value (omega arith)

-- a row of one value with its border
pub bordered_replicate : (border width value : ℕ) → 0 < width → bordered_row border (replicate width value) ≡ replicate (bordered_side width border) value
bordered_replicate border width value some =
    let len : length (replicate width value) ≡ width = length-replicate width value in
    let sum : border + (width + border) ≡ bordered_side width border = omega arith in
    rw (len, get_or-replicate width 0 value 0 some, get_or-replicate width (width - 1) value 0 (omega arith), replicate-append-replicate width border value, replicate-append-replicate border (width + border) value, sum) refl

-- a plane of one value in a block of that value
pub bordered_of_replicate : (width height border value m : ℕ) → 0 < width → 0 < height → m ≡ bordered_side width border * bordered_side height border → IsBordered (uniform width height value) border (replicate m value)
bordered_of_replicate width height border value m wide high size =
    record {
      rows = λ row within.
          let stride : ℕ = bordered_side width border in
          let k : ℕ = min (row - border) (height - 1) in
          let below : min (row - border) (height - 1) < height = omega arith in
          let part : row_of (uniform width height value) k ≡ replicate width value = part_is (replicate (width * height) value) (k * width) width ∙ chunk-replicate (k * width) width (width * height) value (omega (arith, mul_comm width height, row_ends k height width below)) in
          part_is (replicate m value) (row * stride) stride ∙ chunk-replicate (row * stride) stride m value (omega (arith, size, mul_comm stride (bordered_side height border), row_ends row (bordered_side height border) stride within)) ∙ sym (ap (bordered_row border) part ∙ bordered_replicate border width value wide);
    }

-- the shown rows fit in, between their borders
spread_fits : (width height border : ℕ) → 0 < width → border * bordered_side width border + border + height * bordered_side width border ≤ bordered_side width border * bordered_side height border
spread_fits width height border some =
    let sides : bordered_side height border * bordered_side width border ≡ height * bordered_side width border + 2 * border * bordered_side width border = add-mul height (2 * border) (bordered_side width border) in
    let twice : 2 * border * bordered_side width border ≡ border * bordered_side width border + border * bordered_side width border = ap (λ k. k * bordered_side width border) (two-mul border) ∙ add-mul border border (bordered_side width border) in
    let once : border * 1 ≤ border * bordered_side width border = mul-le-mul_left border (omega arith) in
    omega (arith, mul_comm (bordered_side width border) (bordered_side height border))

no_border : (width border stride : ℕ) → bordered_side width border ≡ width → border * stride + border ≡ 0
no_border width border stride same = let none : border ≡ 0 = omega arith in rw none (omega arith)

-- the rows inside the border
pub apart_laid_out : (width height border : ℕ) (items : List ℕ) → (0 < width) × (width ≤ 16384) → (0 < height) × (height ≤ 16384) → border ≤ 64 → length items ≡ bordered_side width border * bordered_side height border → IsLaidOut (layout_of width height border (border * bordered_side width border + border) (bordered_side width border)) items
apart_laid_out width height border items wide high small len =
    record {
      wide = wide;
      high = high;
      border_small = small;
      stride_small = (omega arith, omega (arith, wide, small));
      room = len;
      rows_fit = omega (arith, len, spread_fits width height border wide.0);
      flat_at_front = λ same. no_border width border (bordered_side width border) same;
      apart = λ more. (refl, refl);
    }

flat_fits : (width height border : ℕ) → height * width ≤ bordered_side width border * bordered_side height border
flat_fits width height border =
    let le : height * width ≤ bordered_side height border * bordered_side width border = mul-le _ _ _ _ (omega arith) (omega arith) in
    omega (arith, mul_comm (bordered_side width border) (bordered_side height border))

-- the rows at the front of the block
pub flat_laid_out : (width height border : ℕ) (items : List ℕ) → (0 < width) × (width ≤ 16384) → (0 < height) × (height ≤ 16384) → border ≤ 64 → length items ≡ bordered_side width border * bordered_side height border → IsLaidOut (layout_of width height border 0 width) items
flat_laid_out width height border items wide high small len =
    record { wide = wide; high = high; border_small = small; stride_small = (omega arith, omega (arith, wide)); room = len; rows_fit = omega (arith, len, flat_fits width height border); flat_at_front = λ same. refl; apart = λ more. absurd (omega (arith, more)) }

-- rows that are not at the front, or have no border, are inside the border
apart_of : (width height border first stride : ℕ) (items : List ℕ) → IsLaidOut (layout_of width height border first stride) items → (stride ≡ width → border ≤ 0) → (stride ≡ bordered_side width border) × (first ≡ border * bordered_side width border + border)
apart_of width height border first stride items o bare =
    elim (cases_lt width stride) [
      | inl more ↦ o.apart more
      | inr le ↦
          let flat : stride ≡ width = omega (arith, o.stride_small.0, le) in
          let same : bordered_side width border ≡ width = omega (arith, bare flat) in (flat ∙ sym same, o.flat_at_front flat ∙ sym (no_border width border (bordered_side width border) same))
    ]

-- what such a block shows
pub shown_apart : (width height border first stride : ℕ) (items : List ℕ) → IsLaidOut (layout_of width height border first stride) items → (stride ≡ width → border ≤ 0) → shown_in (layout_of width height border first stride) items ≡ apart_in width height border items
shown_apart width height border first stride items o bare =
    let at = apart_of width height border first stride items o bare in
    rw (at.0, at.1) refl

-- what a block shows whose rows are at the front
pub shown_flat : (width height border first stride : ℕ) (items : List ℕ) → IsLaidOut (layout_of width height border first stride) items → stride ≡ width → shown_in (layout_of width height border first stride) items ≡ flat_plane width height items
shown_flat width height border first stride items o flat =
    let front : first ≡ 0 = o.flat_at_front flat in
    rw (flat, front) refl

-- a block with the border of a plane shows that plane
pub apart_is : (p : Samples) (border : ℕ) (items : List ℕ) → IsWhole p → IsBordered p border items → apart_in p.width p.height border items ≡ p
apart_is p border items whole b = ap (λ (l : List ℕ). record { width = p.width; height = p.height; samples = l }) (shown_of_bordered p border items whole b)

-- a plane whose border is up to date: its layout, and that its shown samples are unchanged
pub record IsSettled (width height border : ℕ) (items : List ℕ) (shown : Samples) : Type 0 where
  pub laid_out : IsLaidOut (layout_of width height border (border * bordered_side width border + border) (bordered_side width border)) items
  pub has_border : IsBordered (apart_in width height border items) border items
  pub same : apart_in width height border items ≡ shown

-- a block whose border was filled
pub settled : (width height border first stride : ℕ) (items filled : List ℕ) → IsLaidOut (layout_of width height border first stride) items → IsBordered (shown_in (layout_of width height border first stride) items) border filled → length filled ≡ length items → IsSettled width height border filled (shown_in (layout_of width height border first stride) items)
settled width height border first stride items filled o b len =
    let shown : Samples = shown_in (layout_of width height border first stride) items in
    let same : apart_in width height border filled ≡ shown_in (layout_of width height border first stride) items = apart_is shown border filled (whole_of_laid_out (layout_of width height border first stride) items o) b in
    record { laid_out = apart_laid_out width height border filled o.wide o.high o.border_small (len ∙ o.room); has_border = rw same b; same = same }

-- a row inside the border
pub row_of_apart : (width height border y : ℕ) (items : List ℕ) → (0 < width) × (width ≤ 16384) → (0 < height) × (height ≤ 16384) → border ≤ 64 → length items ≡ bordered_side width border * bordered_side height border → y < height → slice_range items ((border + y) * bordered_side width border + border) ((border + y) * bordered_side width border + border + width) ≡ row_of (apart_in width height border items) y
row_of_apart width height border y items wide high small len below =
    let stride : ℕ = bordered_side width border in
    let at : (border + y) * bordered_side width border + border ≡ border * bordered_side width border + border + y * bordered_side width border = omega (arith, add-mul border y (bordered_side width border)) in
    ap (λ k. slice_range items k (k + width)) at ∙ row_of_laid_out (layout_of width height border (border * stride + border) stride) items y (apart_laid_out width height border items wide high small len) below

-- a shown row of a packed block
pub row_of_packed : (l : Layout) (items : List ℕ) (y : ℕ) → IsLaidOut l items → l.stride ≡ l.width → y < l.height → slice_range items (y * l.width) (y * l.width + l.width) ≡ row_of (shown_in l items) y
row_of_packed l items y o flat below =
    let front : l.first ≡ 0 = o.flat_at_front flat in
    let at : l.first + y * l.stride ≡ y * l.width = rw (flat, front) (omega arith) in
    sym (ap (λ k. slice_range items k (k + l.width)) at) ∙ row_of_laid_out l items y o below

-- all shown samples of a packed block
pub samples_of_packed : (l : Layout) (items : List ℕ) → IsLaidOut l items → l.stride ≡ l.width → slice_range items 0 (l.width * l.height) ≡ (shown_in l items).samples
samples_of_packed l items o flat =
    let front : l.first ≡ 0 = o.flat_at_front flat in
    let size : l.width * l.height - 0 ≡ l.height * l.width = omega (arith, mul_comm l.width l.height) in
    rw (flat, front, size) (sym (rows_at_front items l.width l.height))

-- a plane whose packed block was written
pub view_of_written : (p : PlaneValue) (width height border first stride at : ℕ) (cur : Bool) (items left ws : List ℕ) → shown_value width height border first stride cur items ≡ out_of_date p → stride ≡ width → first ≡ 0 → left ≡ put_chunk at items ws → shown_value width height border first stride cur left ≡ record p { shown = record p.shown { samples = put_chunk at p.shown.samples ws }; is_current = false }
view_of_written p width height border first stride at cur items left ws now flat front left_is =
    ap (λ (l : List ℕ). record { shown = record { width = width; height = height; samples = l }; border = border; is_current = cur }) (ap (λ k. rows_of k first stride width height) left_is ∙ shown_of_written items ws at first stride width height flat front)
    ∙ ap (λ (v : PlaneValue). record v { shown = record v.shown { samples = put_chunk at v.shown.samples ws } }) now

-- a part of a row of the block ends within it
pub part_in_block : (l : Layout) (items : List ℕ) (top left n : ℕ) → IsLaidOut l items → top + 1 ≤ bordered_side l.height l.border → left + n ≤ bordered_side l.width l.border → top * bordered_side l.width l.border + left + n ≤ length items
part_in_block l items top left n o in_block in_row =
    omega (arith, o.room, mul_comm (bordered_side l.width l.border) (bordered_side l.height l.border), row_ends top (bordered_side l.height l.border) (bordered_side l.width l.border) (omega arith))

-- the position of a rectangle in the block with its border
pub record IsPlaced (l : Layout) (x y : ℤ) (width height left top : ℕ) : Type 0 where
  pub across : (pos left ≡ x +ℤ pos l.border) × (left + width ≤ bordered_side l.width l.border)
  pub down : (pos top ≡ y +ℤ pos l.border) × (top + height ≤ bordered_side l.height l.border)

-- a sample of a rectangle
placed_sample : (l : Layout) (items : List ℕ) (x y : ℤ) (width height left top : ℕ) → IsLaidOut l items → IsBordered (shown_in l items) l.border items → IsPlaced l x y width height left top → (column row : ℕ) → column < width → row < height → slice_index items (top * bordered_side l.width l.border + left + (row * bordered_side l.width l.border + column)) ≡ reference_sample (shown_in l items) (x +ℤ pos column) (y +ℤ pos row)
placed_sample l items x y width height left top o b placed column row in_row in_column =
    let stride : ℕ = bordered_side l.width l.border in
    let at : top * bordered_side l.width l.border + left + (row * bordered_side l.width l.border + column) ≡ (top + row) * bordered_side l.width l.border + (left + column) = omega (arith, add-mul top row (bordered_side l.width l.border)) in
    ap (λ k. slice_index items k) at ∙ reference_of_bordered (shown_in l items) l.border items (whole_of_laid_out l items o) b left top column row x y placed.across.0 placed.down.0 (omega (arith, placed.across.1)) (omega (arith, placed.down.1))

-- a span
pub span_is : (l : Layout) (items : List ℕ) (x y : ℤ) (n left top : ℕ) → IsLaidOut l items → IsBordered (shown_in l items) l.border items → IsPlaced l x y n 1 left top → IsSpan (shown_in l items) x y n (slice_range items (top * bordered_side l.width l.border + left) (top * bordered_side l.width l.border + left + n))
span_is l items x y n left top o b placed =
    let start : ℕ = top * bordered_side l.width l.border + left in
    record {
      len = ap length (part_is items start n) ∙ length-chunk start n items (part_in_block l items top left n o placed.down.1 placed.across.1);
      each = λ column within.
          let none : column ≡ 0 * bordered_side l.width l.border + column = omega arith in
          let here : y +ℤ pos 0 ≡ y = omega (arith, ints) in
          ap (λ part. slice_index part column) (part_is items start n) ∙ get_or-chunk start n items column 0 within ∙ ap (λ k. slice_index items (start + k)) none ∙ placed_sample l items x y n 1 left top o b placed column 0 within (omega arith) ∙ ap (reference_sample (shown_in l items) (x +ℤ pos column)) here;
    }

-- a window of several rows ends within the block
pub window_in_block : (l : Layout) (items : List ℕ) (x y : ℤ) (width height left top : ℕ) → IsLaidOut l items → 0 < height → IsPlaced l x y width height left top → top * bordered_side l.width l.border + left + (height - 1) * bordered_side l.width l.border + width ≤ length items
window_in_block l items x y width height left top o high placed =
    let last : top + (height - 1) + 1 ≤ bordered_side l.height l.border = omega (arith, placed.down.1) in
    omega (arith, add-mul top (height - 1) (bordered_side l.width l.border), part_in_block l items (top + (height - 1)) left width o last placed.across.1)

above : (height row : ℕ) → row < height → row ≤ height - 1
above height row below = omega arith

-- a window
pub window_is : (l : Layout) (items : List ℕ) (x y : ℤ) (width height left top : ℕ) → IsLaidOut l items → IsBordered (shown_in l items) l.border items → 0 < height → IsPlaced l x y width height left top → IsWindow (shown_in l items) x y width height (slice_range items (top * bordered_side l.width l.border + left) (top * bordered_side l.width l.border + left + (height - 1) * bordered_side l.width l.border + width)) (bordered_side l.width l.border)
window_is l items x y width height left top o b high placed =
    let stride : ℕ = bordered_side l.width l.border in
    let start : ℕ = top * bordered_side l.width l.border + left in
    let end : ℕ = top * bordered_side l.width l.border + left + (height - 1) * bordered_side l.width l.border + width in
    record {
      room = rw (length-between items start end (window_in_block l items x y width height left top o high placed)) (omega arith);
      wide = omega (arith, placed.across.1);
      small = omega (arith, o.wide, o.border_small);
      each = λ column row in_row in_column.
          get_or-between items start end (row * stride + column) 0 (omega (arith, mul-le-mul_right stride (above height row in_column))) ∙ placed_sample l items x y width height left top o b placed column row in_row in_column;
    }

same_part : (p q : Samples) → p.width ≡ q.width → (y : ℕ) → row_of p y ≡ row_of q y → chunk (0 + y * p.width) p.width p.samples ≡ chunk (0 + y * q.width) p.width q.samples
same_part p q wide y same =
    let p_at : 0 + y * p.width ≡ y * p.width = omega arith in
    let q_at : 0 + y * q.width ≡ y * q.width = omega arith in
    ap (λ k. chunk k p.width p.samples) p_at ∙ sym (part_is p.samples (y * p.width) p.width) ∙ same ∙ part_is q.samples (y * q.width) q.width ∙ ap (λ n. chunk (y * q.width) n q.samples) (sym wide) ∙ ap (λ k. chunk k p.width q.samples) (sym q_at)

-- two whole planes of the same sides with the same rows
pub same_from_rows : (p q : Samples) → IsWhole p → IsWhole q → p.width ≡ q.width → p.height ≡ q.height → ((y : ℕ) → y < p.height → row_of p y ≡ row_of q y) → p ≡ q
same_from_rows p q whole_p whole_q wide high rows =
    let of_p : rows_of p.samples 0 p.width p.width p.height ≡ p.samples = rows_at_front p.samples p.width p.height ∙ take_all (p.height * p.width) p.samples (omega (arith, whole_p.4, mul_comm p.width p.height)) in
    let of_q : rows_of q.samples 0 q.width q.width q.height ≡ q.samples = rows_at_front q.samples q.width q.height ∙ take_all (q.height * q.width) q.samples (omega (arith, whole_q.4, mul_comm q.width q.height)) in
    let each : rows_of p.samples 0 p.width p.width p.height ≡ rows_of q.samples 0 q.width p.width p.height = same_rows p.samples q.samples 0 p.width 0 q.width p.width p.height (λ y below. same_part p q wide y (rows y below)) in
    let sides : rows_of q.samples 0 q.width p.width p.height ≡ rows_of q.samples 0 q.width q.width q.height = rw (wide, high) refl in
    let samples : p.samples ≡ q.samples = sym of_p ∙ each ∙ sides ∙ of_q in
    λ i. record { width = wide i; height = high i; samples = samples i }
