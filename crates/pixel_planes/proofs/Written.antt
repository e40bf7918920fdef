-- All rows of a plane that are written, at the positions of a block with its border.
use Rattle.std.specs.Prelude.{slice_range}
use Rattle.std.specs.Simd.Lanes.{chunk, put_chunk}
use Rattle.std.proofs.Common.{◌≡◌, ℕ, Bool, zero, suc, false, ◌+◌, ◌*◌, ◌<◌, ◌≤◌, List, [], ◌∷◌, ◌++◌, length, take, drop, refl, ap, sym, ◌∙◌, arith}
use Rattle.std.proofs.lemmas.List.{drop-drop}
use Rattle.std.proofs.lemmas.Simd.{length-chunk}
use Rattle.pixel_planes.specs.Samples.{Samples, IsWhole, row_of}
use Rattle.pixel_planes.specs.Layout.{rows_of, bordered_side, cropped, layout_of, shown_in, apart_in, IsLaidOut, rows_written_over, with_rows_written, WrittenRowsAreCropped}
use Rattle.pixel_planes.proofs.Parts.{part_is, chunk-chunk, take-put_chunk}
use Rattle.pixel_planes.proofs.BlockRows.{rows_of-suc, row_room, same_rows}
use Rattle.pixel_planes.proofs.InBlock.{shown_value, length-row_of, row_of_laid_out, apart_laid_out}

-- one more row
rows_over-suc : (p : Samples) (stride : ℕ) (items : List ℕ) (n : ℕ) → rows_written_over p stride items (suc n) ≡ rows_written_over p stride items n ++ put_chunk 0 (row_of p n) (chunk (n * stride) p.width items)
unfolding rows_written_over
rows_over-suc p stride items n = ap (λ row. rows_written_over p stride items n ++ put_chunk 0 (row_of p n) row) (part_is items (n * stride) p.width)

-- a write of a whole list
put_all : (xs ws : List ℕ) → length ws ≡ length xs → put_chunk 0 xs ws ≡ ws
put_all [] [] same = refl
put_all [] (w ∷ ws) same = absurd (omega arith)
put_all (x ∷ xs) [] same = absurd (omega arith)
put_all (x ∷ xs) (w ∷ ws) same = ap (λ (l : List ℕ). w ∷ l) (put_all xs ws (omega arith))

-- the rows that were written over are those of the written samples
rows_are_written : (p : Samples) (stride : ℕ) (items : List ℕ) (n : ℕ) → IsWhole p → n ≤ p.height → p.width ≤ stride → p.height * stride ≤ length items → rows_written_over p stride items n ≡ rows_of items 0 stride p.width n
unfolding rows_written_over rows_of
rows_are_written p stride items zero whole some wide fits = refl
rows_are_written p stride items (suc n) whole some wide fits =
    let room : 0 + n * stride + p.width ≤ 0 + p.height * stride = row_room 0 stride p.width n p.height wide (omega arith) in
    let at : 0 + n * stride ≡ n * stride = omega arith in
    let len : length (chunk (n * stride) p.width items) ≡ length (row_of p n) = length-chunk (n * stride) p.width items (omega arith) ∙ sym (length-row_of p n whole (omega arith)) in
    rows_over-suc p stride items n ∙ ap (λ row. rows_written_over p stride items n ++ row) (put_all (row_of p n) (chunk (n * stride) p.width items) len) ∙ ap (λ rows. rows ++ chunk (n * stride) p.width items) (rows_are_written p stride items n whole (omega arith) wide fits) ∙ ap (λ k. rows_of items 0 stride p.width n ++ chunk k p.width items) (sym at) ∙ sym (rows_of-suc items 0 stride p.width n)

-- a plane whose rows were written over, from enough samples
pub rows_written : WrittenRowsAreCropped
rows_written plane items whole len =
    ap (λ (l : List ℕ). record plane { shown = record plane.shown { samples = l }; is_current = false }) (rows_are_written plane.shown (bordered_side plane.shown.width plane.border) items plane.shown.height whole (omega arith) (omega arith) (omega (arith, len)))

put_none : (xs : List ℕ) → put_chunk 0 xs [] ≡ xs
put_none [] = refl
put_none (x ∷ xs) = refl

-- the end of a list with a part written at its front
drop-put_all : (k : ℕ) (xs ws : List ℕ) → drop k (put_chunk 0 xs ws) ≡ put_chunk 0 (drop k xs) (drop k ws)
drop-put_all zero xs ws = refl
drop-put_all (suc k) [] ws = refl
drop-put_all (suc k) (x ∷ xs) [] = sym (put_none (drop k xs))
drop-put_all (suc k) (x ∷ xs) (w ∷ ws) = drop-put_all k xs ws

-- the end of a list after the index of a write
drop_at-put_chunk : (i : ℕ) (xs ws : List ℕ) → drop i (put_chunk i xs ws) ≡ put_chunk 0 (drop i xs) ws
drop_at-put_chunk zero xs ws = refl
drop_at-put_chunk (suc i) [] ws = refl
drop_at-put_chunk (suc i) (x ∷ xs) ws = drop_at-put_chunk i xs ws

-- a write of at most so many elements
put_front : (n : ℕ) (xs ws : List ℕ) → put_chunk 0 (take n xs) ws ≡ put_chunk 0 (take n xs) (take n ws)
put_front zero xs ws = refl
put_front (suc n) [] ws = refl
put_front (suc n) (x ∷ xs) [] = refl
put_front (suc n) (x ∷ xs) (w ∷ ws) = ap (λ (l : List ℕ). w ∷ l) (put_front n xs ws)

-- a part after the index of a write
part_of_written : (i k n : ℕ) (xs ws : List ℕ) → chunk (i + k) n (put_chunk i xs ws) ≡ put_chunk 0 (chunk (i + k) n xs) (chunk k n ws)
part_of_written i k n xs ws =
    let after : drop (i + k) (put_chunk i xs ws) ≡ put_chunk 0 (drop (i + k) xs) (drop k ws) = sym (drop-drop k i (put_chunk i xs ws)) ∙ ap (drop k) (drop_at-put_chunk i xs ws) ∙ drop-put_all k (drop i xs) ws ∙ ap (λ (l : List ℕ). put_chunk 0 l (drop k ws)) (drop-drop k i xs) in
    ap (take n) after ∙ take-put_chunk n 0 (drop (i + k) xs) (drop k ws) ∙ put_front n (drop (i + k) xs) (drop k ws)

-- the rows of a block after a write that begins with the first of them
pub rows_of_written : (p : Samples) (items ws : List ℕ) (first stride n : ℕ) → ((y : ℕ) → y < n → chunk (first + y * stride) p.width items ≡ row_of p y) → rows_of (put_chunk first items ws) first stride p.width n ≡ rows_written_over p stride ws n
unfolding rows_written_over rows_of
rows_of_written p items ws first stride zero rows = refl
rows_of_written p items ws first stride (suc n) rows =
    rows_of-suc (put_chunk first items ws) first stride p.width n ∙ ap (λ l. l ++ chunk (first + n * stride) p.width (put_chunk first items ws)) (rows_of_written p items ws first stride n (λ y below. rows y (omega arith))) ∙ ap (λ row. rows_written_over p stride ws n ++ row) (part_of_written first (n * stride) p.width items ws ∙ ap (λ (l : List ℕ). put_chunk 0 l (chunk (n * stride) p.width ws)) (rows n (omega arith))) ∙ sym (rows_over-suc p stride ws n)

-- the plane of a block whose rows were moved inside the border and then written over
pub view_of_rows_written : (width height border first stride : ℕ) (cur : Bool) (items new ws : List ℕ) → IsLaidOut (layout_of width height border first stride) items → length new ≡ length items → apart_in width height border new ≡ shown_in (layout_of width height border first stride) items → shown_value width height border (border * bordered_side width border + border) (bordered_side width border) false (put_chunk (border * bordered_side width border + border) new ws) ≡ with_rows_written (shown_value width height border first stride cur items) ws
view_of_rows_written width height border first stride cur items new ws o len parted =
    let across : ℕ = bordered_side width border in
    let start : ℕ = border * bordered_side width border + border in
    let p : Samples = shown_in (layout_of width height border first stride) items in
    let apart : IsLaidOut (layout_of width height border start across) new = apart_laid_out width height border new o.wide o.high o.border_small (len ∙ o.room) in
    ap (λ (l : List ℕ). record { shown = record { width = width; height = height; samples = l }; border = border; is_current = false })
    (rows_of_written p new ws start across height (λ y below. sym (part_is new (start + y * across) width) ∙ row_of_laid_out (layout_of width height border start across) new y apart below ∙ ap (λ (q : Samples). row_of q y) parted))

row_there : (width height border y : ℕ) (items : List ℕ) → y < height → chunk (0 + y * bordered_side width border) width (chunk (border * bordered_side width border + border) (height * bordered_side width border) items) ≡ chunk (border * bordered_side width border + border + y * bordered_side width border) width items
row_there width height border y items below =
    let across : ℕ = bordered_side width border in
    let start : ℕ = border * bordered_side width border + border in
    let at : 0 + y * bordered_side width border ≡ y * bordered_side width border = omega arith in
    let room : 0 + y * bordered_side width border + width ≤ 0 + height * bordered_side width border = row_room 0 (bordered_side width border) width y height (omega arith) below in
    ap (λ k. chunk k width (chunk start (height * across) items)) at ∙ chunk-chunk start (height * across) (y * across) width items (omega arith)

-- the rows inside the border, cut out of the block
pub cut_out : (width height border : ℕ) (items : List ℕ) → cropped width height (bordered_side width border) (slice_range items (border * bordered_side width border + border) (border * bordered_side width border + border + height * bordered_side width border)) ≡ apart_in width height border items
cut_out width height border items =
    let across : ℕ = bordered_side width border in
    let start : ℕ = border * bordered_side width border + border in
    ap (λ (l : List ℕ). record { width = width; height = height; samples = l })
    (ap (λ (l : List ℕ). rows_of l 0 across width height) (part_is items start (height * across)) ∙ same_rows (chunk start (height * across) items) items 0 across start across width height (λ y below. row_there width height border y items below))
