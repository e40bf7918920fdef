-- A block in rows that are apart from each other is filtered as one in rows that are not.
use Rattle.std.proofs.Common.{◌≡◌, ℕ, ◌+◌, ◌-◌, ◌*◌, ◌<◌, ◌≤◌, Bool, List, length, Option, refl, sym, ap, ◌∙◌, arith}
use Rattle.loop_filter.specs.Blocks.{Shape, luma, chroma, column_edge, row_edge, filtered_by}
use Rattle.loop_filter.specs.Frames.{block_at}
use Rattle.loop_filter.specs.Macroblocks.{IsPlane, plane_in, strengths, macroblock_filtered, row_of_all}
use Rattle.loop_filter.specs.declared.frames.Macroblocks.{Macroblocks}
use Rattle.loop_filter.specs.declared.strengths.Strength.{Strength}
use Rattle.loop_filter.proofs.BlockSteps.{AreInner, ColumnsKeep, RowsKeep, filter_keeps}
use Rattle.loop_filter.proofs.Apart.{Shows, columns_show, rows_show}
use Rattle.loop_filter.proofs.Folds.{row_more}
use Rattle.loop_filter.proofs.Places.{block_ends, rows_of_blocks}

-- the first sample of a line, four samples before its edge
column_start : (side stride mx my x : ℕ) → 4 ≤ side * mx + x → my * (side * stride) + side * mx + x - 4 ≡ side * my * stride + (side * mx + x - 4)
column_start side stride mx my x from = omega (arith, from, rows_of_blocks side stride my)

row_start : (side stride mx my y p : ℕ) → p + 4 ≡ side * my + y → my * (side * stride) + side * mx + y * stride - 4 * stride ≡ p * stride + side * mx
row_start side stride mx my y p is = let rows : (p + 4) * stride ≡ (side * my + y) * stride = ap (λ n. n * stride) is in omega (arith, rows, rows_of_blocks side stride my)

module _ (width height stride side mx my : ℕ) (wide : width ≤ stride) (right : side * mx + side ≤ width) (down : side * my + side ≤ height) where
  column_shows : ColumnsKeep (Shows width height stride) side stride width mx my
  unfolding column_edge
  column_shows f x items shown from to shows =
      columns_show width height stride wide f _ _ (side * mx + x - 4) (side * my) items shown side (column_start side stride mx my x from) (column_start side width mx my x from) (omega (arith, from, to, right)) down shows

  row_shows : RowsKeep (Shows width height stride) side stride width mx my
  unfolding row_edge
  row_shows f y items shown from to shows =
      let before : side * my + y - 4 + 4 ≡ side * my + y = omega (arith, from) in
      rows_show width height stride wide f _ _ (side * mx) (side * my + y - 4) items shown side (row_start side stride mx my y (side * my + y - 4) before) (row_start side width mx my y (side * my + y - 4) before) right (omega (arith, from, to, down)) shows

-- so is one more macroblock of a row
more_of_row : (shape : Shape) → 8 ≤ shape.side → AreInner shape.side shape.inner → (all : Macroblocks) (stride mx my : ℕ) (first items new : List ℕ) → IsPlane shape.side all stride (length first) → length items ≡ length first → mx < all.columns → my < all.rows
    → new ≡ macroblock_filtered shape all stride mx my items → plane_in shape all stride items ≡ row_of_all shape all my (plane_in shape all stride first) mx → plane_in shape all stride new ≡ row_of_all shape all my (plane_in shape all stride first) (mx + 1)
more_of_row shape some inner all stride mx my first items new plane long column row is before =
    let is_simple : Bool = all.header.now.filter.is_simple in
    let strength : Option Strength = strengths all (my * all.columns + mx) in
    let shows : Shows (shape.side * all.columns) (shape.side * all.rows) stride items (plane_in shape all stride items) = record { room = omega (arith, plane.2, long); is = refl } in
    let width : ℕ = shape.side * all.columns in
    let height : ℕ = shape.side * all.rows in
    let right = block_ends shape.side mx all.columns column in
    let down = block_ends shape.side my all.rows row in
    let filtered = filter_keeps (Shows width height stride) shape some inner stride width mx my (column_shows width height stride shape.side mx my plane.0 right down) (row_shows width height stride shape.side mx my plane.0 right down) is_simple strength items (plane_in shape all stride items) shows in
    ap (λ s. plane_in shape all stride s) is ∙ filtered.is ∙ ap (λ s. filtered_by shape is_simple strength (block_at shape.side all.columns mx my) s) before ∙ sym (row_more shape is_simple (strengths all) all.columns my (plane_in shape all stride first) mx)

pub more_of_luma : (all : Macroblocks) (stride mx my : ℕ) (first items new : List ℕ) → IsPlane luma.side all stride (length first) → length items ≡ length first → mx < all.columns → my < all.rows
    → new ≡ macroblock_filtered luma all stride mx my items → plane_in luma all stride items ≡ row_of_all luma all my (plane_in luma all stride first) mx → plane_in luma all stride new ≡ row_of_all luma all my (plane_in luma all stride first) (mx + 1)
more_of_luma = more_of_row luma (omega arith) (omega arith, omega arith, (omega arith, omega arith, (omega arith, omega arith, refl)))

pub more_of_chroma : (all : Macroblocks) (stride mx my : ℕ) (first items new : List ℕ) → IsPlane chroma.side all stride (length first) → length items ≡ length first → mx < all.columns → my < all.rows
    → new ≡ macroblock_filtered chroma all stride mx my items → plane_in chroma all stride items ≡ row_of_all chroma all my (plane_in chroma all stride first) mx → plane_in chroma all stride new ≡ row_of_all chroma all my (plane_in chroma all stride first) (mx + 1)
more_of_chroma = more_of_row chroma (omega arith) (omega arith, omega arith, refl)
