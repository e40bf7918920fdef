-- What each edge keeps between two lists of samples, a whole block keeps.
use Rattle.std.specs.Prelude.{if◌then◌else◌}
use Rattle.std.proofs.Common.{◌≡◌, ℕ, ◌+◌, ◌*◌, ◌≤◌, ◌==◌, Bool, true, false, List, [], ◌∷◌, Option, Some, None, refl, arith, mul-le-mul_left}
use Rattle.loop_filter.specs.Lines.{Line, filtered_line}
use Rattle.loop_filter.specs.Blocks.{Shape, outer_filter, inner_filter, outer_limits, inner_limits, column_edge, row_edge, column_edges, row_edges, left_edge, inner_columns, top_edge, inner_rows, block_filtered, filtered_by}
use Rattle.loop_filter.specs.Macroblocks.{block_apart}
use Rattle.loop_filter.specs.declared.strengths.Strength.{Strength}

-- edges before these columns or rows are inside a block
abbrev pub AreInner : ℕ → List ℕ → Type 0
AreInner side [] = side ≡ side
AreInner side (x ∷ more) = (4 ≤ x) × (x + 4 ≤ side) × AreInner side more

-- an edge that is not the first one is four samples after the start of the plane
not_first : (side n : ℕ) → 8 ≤ side → (n == 0) ≡ false → 4 ≤ side * n + 0
not_first side n some later =
    let from : 1 ≤ n = grind arith in
    let fits : side * 1 ≤ side * n = mul-le-mul_left side from in
    omega (arith, fits, some)

-- an edge before a column of a block, in rows of two strides, keeps a relation of the samples
abbrev pub ColumnsKeep : (List ℕ → List ℕ → Type 0) → ℕ → ℕ → ℕ → ℕ → ℕ → Type 0
ColumnsKeep R side stride stride' mx my = (f : Line → Line) (x : ℕ) (s s' : List ℕ) → 4 ≤ side * mx + x → x + 4 ≤ side → R s s' → R (column_edge f side (block_apart side stride mx my) x s) (column_edge f side (block_apart side stride' mx my) x s')

-- and one before a row
abbrev pub RowsKeep : (List ℕ → List ℕ → Type 0) → ℕ → ℕ → ℕ → ℕ → ℕ → Type 0
RowsKeep R side stride stride' mx my = (f : Line → Line) (y : ℕ) (s s' : List ℕ) → 4 ≤ side * my + y → y + 4 ≤ side → R s s' → R (row_edge f side (block_apart side stride mx my) y s) (row_edge f side (block_apart side stride' mx my) y s')

module _ (R : List ℕ → List ℕ → Type 0) (shape : Shape) (some : 8 ≤ shape.side) (inner : AreInner shape.side shape.inner) (stride stride' mx my : ℕ) (columns_keep : ColumnsKeep R shape.side stride stride' mx my) (rows_keep : RowsKeep R shape.side stride stride' mx my) where
  if_keeps : (b : Bool) (t t' s s' : List ℕ) → (b ≡ true → R t t') → (b ≡ false → R s s') → R (if b then t else s) (if b then t' else s')
  if_keeps true t t' s s' then_keeps else_keeps = then_keeps refl
  if_keeps false t t' s s' then_keeps else_keeps = else_keeps refl

  columns_inside : (f : Line → Line) (xs s s' : List ℕ) → AreInner shape.side xs → R s s' → R (column_edges f shape.side (block_apart shape.side stride mx my) xs s) (column_edges f shape.side (block_apart shape.side stride' mx my) xs s')
  columns_inside f [] s s' are same = same
  columns_inside f (x ∷ xs) s s' are same = columns_inside f xs _ _ are.2 (columns_keep f x s s' (omega (arith, are.0)) are.1 same)

  rows_inside : (f : Line → Line) (ys s s' : List ℕ) → AreInner shape.side ys → R s s' → R (row_edges f shape.side (block_apart shape.side stride mx my) ys s) (row_edges f shape.side (block_apart shape.side stride' mx my) ys s')
  rows_inside f [] s s' are same = same
  rows_inside f (y ∷ ys) s s' are same = rows_inside f ys _ _ are.2 (rows_keep f y s s' (omega (arith, are.0)) are.1 same)

  left_keeps : (f : Line → Line) (s s' : List ℕ) → R s s' → R (left_edge f shape.side (block_apart shape.side stride mx my) s) (left_edge f shape.side (block_apart shape.side stride' mx my) s')
  unfolding left_edge
  left_keeps f s s' same = if_keeps (mx == 0) _ _ _ _ (λ first. same) (λ later. columns_keep f 0 s s' (not_first shape.side mx some later) (omega (arith, some)) same)

  top_keeps : (f : Line → Line) (s s' : List ℕ) → R s s' → R (top_edge f shape.side (block_apart shape.side stride mx my) s) (top_edge f shape.side (block_apart shape.side stride' mx my) s')
  unfolding top_edge
  top_keeps f s s' same = if_keeps (my == 0) _ _ _ _ (λ first. same) (λ later. rows_keep f 0 s s' (not_first shape.side my some later) (omega (arith, some)) same)

  inner_columns_keep : (f : Line → Line) (has : Bool) (s s' : List ℕ) → R s s' → R (inner_columns f shape has (block_apart shape.side stride mx my) s) (inner_columns f shape has (block_apart shape.side stride' mx my) s')
  unfolding inner_columns
  inner_columns_keep f has s s' same = if_keeps has _ _ _ _ (λ has_them. columns_inside f shape.inner s s' inner same) (λ none. same)

  inner_rows_keep : (f : Line → Line) (has : Bool) (s s' : List ℕ) → R s s' → R (inner_rows f shape has (block_apart shape.side stride mx my) s) (inner_rows f shape has (block_apart shape.side stride' mx my) s')
  unfolding inner_rows
  inner_rows_keep f has s s' same = if_keeps has _ _ _ _ (λ has_them. rows_inside f shape.inner s s' inner same) (λ none. same)

  block_keeps : (is_simple : Bool) (by : Strength) (s s' : List ℕ) → R s s' → R (block_filtered shape is_simple by (block_apart shape.side stride mx my) s) (block_filtered shape is_simple by (block_apart shape.side stride' mx my) s')
  block_keeps is_simple by s s' same =
      let outer : Line → Line = filtered_line (outer_filter is_simple) (outer_limits by.limits) in
      let inside : Line → Line = filtered_line (inner_filter is_simple) (inner_limits by.limits) in
      inner_rows_keep inside by.has_inner_edges _ _ (top_keeps outer _ _ (inner_columns_keep inside by.has_inner_edges _ _ (left_keeps outer s s' same)))

  pub filter_keeps : (is_simple : Bool) (by : Option Strength) (s s' : List ℕ) → R s s' → R (filtered_by shape is_simple by (block_apart shape.side stride mx my) s) (filtered_by shape is_simple by (block_apart shape.side stride' mx my) s')
  unfolding filtered_by
  filter_keeps is_simple None s s' same = same
  filter_keeps is_simple (Some by) s s' same = block_keeps is_simple by s s' same
