-- Filtering the first rows of macroblocks neither reads nor changes a sample below them.
use Rattle.std.specs.Prelude.{slice_index}
use Rattle.std.proofs.Common.{◌≡◌, ℕ, zero, suc, ◌+◌, ◌-◌, ◌*◌, ◌<◌, ◌≤◌, Bool, List, ◌++◌, length, Option, set, refl, sym, ap, ◌∙◌, arith}
use Rattle.std.proofs.Math.Nat.{mul-le-mul_right}
use Rattle.std.proofs.lemmas.List.{get_or_append_left, set-append_left}
use Rattle.loop_filter.specs.Lines.{Line}
use Rattle.loop_filter.specs.Edges.{line_in, with_line, lines_filtered}
use Rattle.loop_filter.specs.Blocks.{Shape, luma, chroma, column_edge, row_edge}
use Rattle.loop_filter.specs.Frames.{row_filtered, rows_filtered}
use Rattle.loop_filter.specs.declared.strengths.Strength.{Strength}
use Rattle.loop_filter.proofs.BlockSteps.{AreInner, ColumnsKeep, RowsKeep, filter_keeps}
use Rattle.loop_filter.proofs.EdgeFold.{samples_of, same_line_in, line_is_sets}
use Rattle.loop_filter.proofs.OwnLines.{sets-length, edge-length}
use Rattle.loop_filter.proofs.Places.{block_ends, rows_of_blocks}
use Rattle.loop_filter.proofs.RowsPut.{line_sets}

-- samples that are set in front of others
sets_in_front : (s rest : List ℕ) (at across : ℕ) (v : ℕ → ℕ) (m : ℕ) → ((k : ℕ) → k < m → at + k * across < length s) → line_sets (s ++ rest) at across v m ≡ line_sets s at across v m ++ rest
unfolding line_sets
sets_in_front s rest at across v zero inside = refl
sets_in_front s rest at across v (suc m) inside =
    let long : length (line_sets s at across v m) ≡ length s = sets-length s at across v m in
    ap (λ l. set l (at + m * across) (v m)) (sets_in_front s rest at across v m (λ k less. inside k (omega (arith, less))))
    ∙ set-append_left (line_sets s at across v m) rest (at + m * across) (v m) (omega (arith, long, inside m (omega arith)))

-- a line in front of other samples
inside_of : (s : List ℕ) (at across k : ℕ) → at + 7 * across < length s → k < 8 → at + k * across < length s
inside_of s at across k inside less = let upto : k * across ≤ 7 * across = mul-le-mul_right across (omega (arith, less)) in omega (arith, inside, upto)

line_in_front : (s rest : List ℕ) (at across : ℕ) → at + 7 * across < length s → line_in (s ++ rest) at across ≡ line_in s at across
line_in_front s rest at across inside = same_line_in s (s ++ rest) at across (λ k less. get_or_append_left s rest 0 (at + k * across) (inside_of s at across k inside less))

put_in_front : (s rest : List ℕ) (at across : ℕ) (l : Line) → at + 7 * across < length s → with_line (s ++ rest) at across l ≡ with_line s at across l ++ rest
put_in_front s rest at across l inside =
    let value : ℕ → ℕ = λ k. slice_index (samples_of l) k in
    line_is_sets (s ++ rest) at across l ∙ sets_in_front s rest at across value 8 (λ k less. inside_of s at across k inside less) ∙ ap (λ x. x ++ rest) (sym (line_is_sets s at across l))

-- an edge all of whose lines are in front of other samples
edge_in_front : (f : Line → Line) (start between across : ℕ) (s rest : List ℕ) (n : ℕ) → ((i : ℕ) → i < n → start + i * between + 7 * across < length s) → lines_filtered f start between across (s ++ rest) n ≡ lines_filtered f start between across s n ++ rest
unfolding lines_filtered
edge_in_front f start between across s rest zero inside = refl
edge_in_front f start between across s rest (suc n) inside =
    let before : List ℕ = lines_filtered f start between across s n in
    let at : ℕ = start + n * between in
    let long : length before ≡ length s = edge-length f start between across s n in
    let fits : at + 7 * across < length before = omega (arith, long, inside n (omega arith)) in
    ap (λ l. with_line l at across (f (line_in l at across))) (edge_in_front f start between across s rest n (λ i less. inside i (omega (arith, less))))
    ∙ ap (λ l. with_line (before ++ rest) at across (f l)) (line_in_front before rest at across fits)
    ∙ put_in_front before rest at across (f (line_in before at across)) fits

-- so many samples, and the same ones in front of others
record IsFront (rest : List ℕ) (count : ℕ) (all front : List ℕ) : Type 0 where
  is : all ≡ front ++ rest
  long : length front ≡ count

edge_is_front : (f : Line → Line) (start between across n : ℕ) (rest : List ℕ) (count : ℕ) (all front : List ℕ) → ((i : ℕ) → i < n → start + i * between + 7 * across < count) → IsFront rest count all front → IsFront rest count (lines_filtered f start between across all n) (lines_filtered f start between across front n)
edge_is_front f start between across n rest count all front inside same = record {
  is = ap (λ l. lines_filtered f start between across l n) same.is ∙ edge_in_front f start between across front rest n (λ i less. rw same.long (inside i less));
  long = edge-length f start between across front n ∙ same.long;
}

-- a block that ends before so many samples
module _ (rest : List ℕ) (count side stride mx my : ℕ) (some : 1 ≤ side) (right : side * mx + side ≤ stride) (room : my * (side * stride) + side * stride ≤ count) where
  -- the last row of a block
  last_row : (k : ℕ) → k + 1 ≤ side → k * stride + stride ≤ side * stride
  last_row k less = let upto : (k + 1) * stride ≤ side * stride = mul-le-mul_right stride less in omega (arith, upto)

  columns_in_front : ColumnsKeep (IsFront rest count) side stride stride mx my
  unfolding column_edge
  columns_in_front f x s s' from to same =
      edge_is_front f (my * (side * stride) + side * mx + x - 4) stride 1 side rest count s s' (λ i less. omega (arith, from, to, right, room, last_row i (omega (arith, less)))) same

  rows_in_front : RowsKeep (IsFront rest count) side stride stride mx my
  unfolding row_edge
  rows_in_front f y s s' from to same =
      let above : 4 * stride ≤ (side * my + y) * stride = mul-le-mul_right stride from in
      let start = rows_of_blocks side stride my in
      edge_is_front f (my * (side * stride) + side * mx + y * stride - 4 * stride) 1 stride side rest count s s' (λ i less. omega (arith, to, right, room, less, above, start, last_row (y + 3) (omega (arith, to)))) same

module _ (shape : Shape) (some : 8 ≤ shape.side) (inner : AreInner shape.side shape.inner) (is_simple : Bool) (strength : ℕ → Option Strength) (columns : ℕ) (rest : List ℕ) (count : ℕ) where
  -- the samples of a row of macroblocks
  abbrev row : ℕ
  row = shape.side * (shape.side * columns)

  row_in_front : (my n : ℕ) (s s' : List ℕ) → n ≤ columns → my * row + row ≤ count → IsFront rest count s s' → IsFront rest count (row_filtered shape is_simple strength columns my s n) (row_filtered shape is_simple strength columns my s' n)
  unfolding row_filtered
  row_in_front my zero s s' within room same = same
  row_in_front my (suc n) s s' within room same =
      let right = block_ends shape.side n columns (omega (arith, within)) in
      filter_keeps (IsFront rest count) shape some inner (shape.side * columns) (shape.side * columns) n my
      (columns_in_front rest count shape.side (shape.side * columns) n my (omega (arith, some)) right room) (rows_in_front rest count shape.side (shape.side * columns) n my (omega (arith, some)) right room)
      is_simple (strength (my * columns + n)) _ _ (row_in_front my n s s' (omega (arith, within)) room same)

  rows_in_front_all : (n : ℕ) (s s' : List ℕ) → n * row ≤ count → IsFront rest count s s' → IsFront rest count (rows_filtered shape is_simple strength columns s n) (rows_filtered shape is_simple strength columns s' n)
  unfolding rows_filtered
  rows_in_front_all zero s s' room same = same
  rows_in_front_all (suc n) s s' room same =
      row_in_front n columns _ _ (omega arith) (omega (arith, room)) (rows_in_front_all n s s' (omega (arith, room)) same)

  pub rows_alone : (front : List ℕ) (n : ℕ) → n * row ≤ count → length front ≡ count → (rows_filtered shape is_simple strength columns (front ++ rest) n ≡ rows_filtered shape is_simple strength columns front n ++ rest) × (length (rows_filtered shape is_simple strength columns front n) ≡ length front)
  rows_alone front n room long =
      let after = rows_in_front_all n (front ++ rest) front room (record { is = refl; long = long }) in
      (after.is, after.long ∙ sym long)

-- both kinds of planes
module _ (is_simple : Bool) (strength : ℕ → Option Strength) (columns n : ℕ) (front rest : List ℕ) where
  pub luma_alone : length front ≡ n * (luma.side * (luma.side * columns)) → (rows_filtered luma is_simple strength columns (front ++ rest) n ≡ rows_filtered luma is_simple strength columns front n ++ rest) × (length (rows_filtered luma is_simple strength columns front n) ≡ length front)
  luma_alone long = rows_alone luma (omega arith) (omega arith, omega arith, (omega arith, omega arith, (omega arith, omega arith, refl))) is_simple strength columns rest (n * (16 * (16 * columns))) front n (omega arith) long

  pub chroma_alone : length front ≡ n * (chroma.side * (chroma.side * columns)) → (rows_filtered chroma is_simple strength columns (front ++ rest) n ≡ rows_filtered chroma is_simple strength columns front n ++ rest) × (length (rows_filtered chroma is_simple strength columns front n) ≡ length front)
  chroma_alone long = rows_alone chroma (omega arith) (omega arith, omega arith, refl) is_simple strength columns rest (n * (8 * (8 * columns))) front n (omega arith) long
