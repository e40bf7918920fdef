-- A filter leaves as many samples as there were, and each is a byte.
use lib.Lanes.{Each1}
use Rattle.std.proofs.Common.{◌≡◌, ℕ, zero, suc, ◌+◌, ◌*◌, ◌<◌, Bool, true, false, List, [], ◌∷◌, length, set, Option, Some, None, refl, ◌∙◌, arith, inl, inr, take, drop, ℤ, pos, negsuc, ◌+ℤ◌, ◌-ℤ◌, if◌then◌else◌}
use Rattle.std.specs.Prelude.{slice_index, slice_set}
use Rattle.std.proofs.lemmas.List.{length-set, get_or_past}
use Rattle.std.proofs.lemmas.Bool.{cases_lt}
use Rattle.std.proofs.lemmas.Int.{ints}
use Rattle.std.proofs.lemmas.Simd.{Each1-get_or}
use Rattle.loop_filter.specs.Blocks.{Shape, block_filtered, column_edge, column_edges, filtered_by, inner_columns, inner_rows, left_edge, row_edge, row_edges, top_edge}
use Rattle.loop_filter.specs.Edges.{line_in, lines_filtered, with_line}
use Rattle.loop_filter.specs.Lines.{Line, adjusted, as_signed, filtered_line, has_high_edge_variance, inner_line, is_filtered, is_small_step, lowered, macroblock_line, outer_adjusted, raised, sample, shortfall, simple_line, smoothed}
use Rattle.loop_filter.specs.declared.edge_limits.EdgeFilter.{EdgeFilter}
use Rattle.loop_filter.specs.declared.edge_limits.EdgeFilter.TheVariants.{Simple, Inner, Macroblock}
use Rattle.loop_filter.specs.declared.edge_limits.EdgeLimits.{EdgeLimits}

-- each number of a list is a byte
abbrev pub AreSmall : List ℕ → Type 0
AreSmall xs = Each1 (λ s. s < 256) xs

pub small-at : (xs : List ℕ) → AreSmall xs → (k : ℕ) → slice_index xs k < 256
small-at xs bytes k = elim (cases_lt k (length xs)) [
  | inl inside ↦ Each1-get_or (λ s. s < 256) xs k 0 inside bytes
  | inr past ↦ let none : slice_index xs k ≡ 0 = get_or_past xs k 0 past in omega (arith, none)
]

small-set : (xs : List ℕ) (i s : ℕ) → AreSmall xs → s < 256 → AreSmall (set xs i s)
small-set [] i s bytes small = tt
small-set (x ∷ xs) zero s bytes small = (small, bytes.1)
small-set (x ∷ xs) (suc i) s bytes small = (bytes.0, small-set xs i s bytes.1 small)

pub small-take : (n : ℕ) (xs : List ℕ) → AreSmall xs → AreSmall (take n xs)
small-take zero xs small = tt
small-take (suc n) [] small = tt
small-take (suc n) (x ∷ xs) small = (small.0, small-take n xs small.1)

pub small-drop : (n : ℕ) (xs : List ℕ) → AreSmall xs → AreSmall (drop n xs)
small-drop zero xs small = small
small-drop (suc n) [] small = tt
small-drop (suc n) (x ∷ xs) small = small-drop n xs small.1

-- ---- lines

sample-small : (z : ℤ) → sample z < 256
sample-small z = grind (arith, ints)

raised-small : (s : ℕ) (d : ℤ) → raised s d < 256
unfolding raised
raised-small s d = sample-small (as_signed s +ℤ d)

lowered-small : (s : ℕ) (d : ℤ) → lowered s d < 256
unfolding lowered
lowered-small s d = sample-small (as_signed s -ℤ d)

record IsSmall (l : Line) : Type 0 where
  p3 : l.p3 < 256
  p2 : l.p2 < 256
  p1 : l.p1 < 256
  p0 : l.p0 < 256
  q0 : l.q0 < 256
  q1 : l.q1 < 256
  q2 : l.q2 < 256
  q3 : l.q3 < 256

adjusted-small : (a : ℤ) (l : Line) → IsSmall l → IsSmall (adjusted a l)
adjusted-small a l small = record { p3 = small.p3; p2 = small.p2; p1 = small.p1; p0 = raised-small _ _; q0 = lowered-small _ _; q1 = small.q1; q2 = small.q2; q3 = small.q3 }

outer-small : (a : ℤ) (l : Line) → IsSmall l → IsSmall (outer_adjusted a l)
outer-small a l small = record { p3 = small.p3; p2 = small.p2; p1 = raised-small _ _; p0 = small.p0; q0 = small.q0; q1 = lowered-small _ _; q2 = small.q2; q3 = small.q3 }

smoothed-small : (a : ℤ) (l : Line) → IsSmall l → IsSmall (smoothed a l)
smoothed-small a l small = record { p3 = small.p3; p2 = raised-small _ _; p1 = raised-small _ _; p0 = raised-small _ _; q0 = lowered-small _ _; q1 = lowered-small _ _; q2 = lowered-small _ _; q3 = small.q3 }

either-small : (b : Bool) (x y : Line) → IsSmall x → IsSmall y → IsSmall (if b then x else y)
either-small true x y first second = first
either-small false x y first second = second

line-small : (filter : EdgeFilter) (limits : EdgeLimits) (l : Line) → IsSmall l → IsSmall (filtered_line filter limits l)
unfolding simple_line inner_line macroblock_line
line-small Simple limits l small = either-small (is_small_step limits.edge l) (adjusted (shortfall true l) l) l (adjusted-small (shortfall true l) l small) small
line-small Inner limits l small =
    let near : Line = adjusted (shortfall true l) l in
    let even : Line = outer_adjusted (shortfall false l) (adjusted (shortfall false l) l) in
    let changed : IsSmall (if has_high_edge_variance limits.variance l then near else even) =
    either-small (has_high_edge_variance limits.variance l) near even (adjusted-small (shortfall true l) l small) (outer-small (shortfall false l) (adjusted (shortfall false l) l) (adjusted-small (shortfall false l) l small)) in
    either-small (is_filtered limits l) (if has_high_edge_variance limits.variance l then near else even) l changed small
line-small Macroblock limits l small =
    let near : Line = adjusted (shortfall true l) l in
    let even : Line = smoothed (shortfall true l) l in
    let changed : IsSmall (if has_high_edge_variance limits.variance l then near else even) = either-small (has_high_edge_variance limits.variance l) near even (adjusted-small (shortfall true l) l small) (smoothed-small (shortfall true l) l small) in
    either-small (is_filtered limits l) (if has_high_edge_variance limits.variance l then near else even) l changed small

-- ---- edges

-- so many samples, each a byte
pub record AreBytesOf (count : ℕ) (samples : List ℕ) : Type 0 where
  pub long : length samples ≡ count
  pub small : AreSmall samples

one-set : (count : ℕ) (samples : List ℕ) (i s : ℕ) → s < 256 → AreBytesOf count samples → AreBytesOf count (slice_set samples i s)
one-set count samples i s small are = record { long = length-set samples i s ∙ are.long; small = small-set samples i s are.small small }

line-of : (count : ℕ) (samples : List ℕ) (at across : ℕ) → AreBytesOf count samples → IsSmall (line_in samples at across)
line-of count samples at across are = record {
  p3 = small-at samples are.small _;
  p2 = small-at samples are.small _;
  p1 = small-at samples are.small _;
  p0 = small-at samples are.small _;
  q0 = small-at samples are.small _;
  q1 = small-at samples are.small _;
  q2 = small-at samples are.small _;
  q3 = small-at samples are.small _;
}

line-set : (count : ℕ) (samples : List ℕ) (at across : ℕ) (l : Line) → IsSmall l → AreBytesOf count samples → AreBytesOf count (with_line samples at across l)
unfolding with_line
line-set count samples at across l small are =
    one-set count _ _ _ small.q3 (one-set count _ _ _ small.q2 (one-set count _ _ _ small.q1 (one-set count _ _ _ small.q0 (one-set count _ _ _ small.p0 (one-set count _ _ _ small.p1 (one-set count _ _ _ small.p2 (one-set count _ _ _ small.p3 are)))))))

-- a filter of lines that leaves bytes
KeepsBytes : (Line → Line) → Type 0
KeepsBytes filter = (l : Line) → IsSmall l → IsSmall (filter l)

lines-bytes : (count : ℕ) (filter : Line → Line) (start between across : ℕ) (samples : List ℕ) (n : ℕ) → KeepsBytes filter → AreBytesOf count samples → AreBytesOf count (lines_filtered filter start between across samples n)
unfolding lines_filtered KeepsBytes
lines-bytes count filter start between across samples zero keeps are = are
lines-bytes count filter start between across samples (suc n) keeps are =
    let before : List ℕ = lines_filtered filter start between across samples n in
    let so : AreBytesOf count before = lines-bytes count filter start between across samples n keeps are in
    line-set count before (start + n * between) across (filter (line_in before (start + n * between) across)) (keeps (line_in before (start + n * between) across) (line-of count before (start + n * between) across so)) so

column-bytes : (count : ℕ) (filter : Line → Line) (side : ℕ) (block : _) (x : ℕ) (samples : List ℕ) → KeepsBytes filter → AreBytesOf count samples → AreBytesOf count (column_edge filter side block x samples)
unfolding column_edge
column-bytes count filter side block x samples keeps are = lines-bytes count filter _ _ _ samples side keeps are

row-bytes : (count : ℕ) (filter : Line → Line) (side : ℕ) (block : _) (y : ℕ) (samples : List ℕ) → KeepsBytes filter → AreBytesOf count samples → AreBytesOf count (row_edge filter side block y samples)
unfolding row_edge
row-bytes count filter side block y samples keeps are = lines-bytes count filter _ _ _ samples side keeps are

columns-bytes : (count : ℕ) (filter : Line → Line) (side : ℕ) (block : _) (xs : List ℕ) (samples : List ℕ) → KeepsBytes filter → AreBytesOf count samples → AreBytesOf count (column_edges filter side block xs samples)
columns-bytes count filter side block [] samples keeps are = are
columns-bytes count filter side block (x ∷ xs) samples keeps are = columns-bytes count filter side block xs (column_edge filter side block x samples) keeps (column-bytes count filter side block x samples keeps are)

rows-bytes : (count : ℕ) (filter : Line → Line) (side : ℕ) (block : _) (ys : List ℕ) (samples : List ℕ) → KeepsBytes filter → AreBytesOf count samples → AreBytesOf count (row_edges filter side block ys samples)
rows-bytes count filter side block [] samples keeps are = are
rows-bytes count filter side block (y ∷ ys) samples keeps are = rows-bytes count filter side block ys (row_edge filter side block y samples) keeps (row-bytes count filter side block y samples keeps are)

either-bytes : (count : ℕ) (b : Bool) (xs ys : List ℕ) → AreBytesOf count xs → AreBytesOf count ys → AreBytesOf count (if b then xs else ys)
either-bytes count true xs ys first second = first
either-bytes count false xs ys first second = second

left-bytes : (count : ℕ) (filter : Line → Line) (side : ℕ) (block : _) (samples : List ℕ) → KeepsBytes filter → AreBytesOf count samples → AreBytesOf count (left_edge filter side block samples)
unfolding left_edge
left-bytes count filter side block samples keeps are = either-bytes count block.is_leftmost samples (column_edge filter side block 0 samples) are (column-bytes count filter side block 0 samples keeps are)

top-bytes : (count : ℕ) (filter : Line → Line) (side : ℕ) (block : _) (samples : List ℕ) → KeepsBytes filter → AreBytesOf count samples → AreBytesOf count (top_edge filter side block samples)
unfolding top_edge
top-bytes count filter side block samples keeps are = either-bytes count block.is_topmost samples (row_edge filter side block 0 samples) are (row-bytes count filter side block 0 samples keeps are)

inner_columns-bytes : (count : ℕ) (filter : Line → Line) (shape : Shape) (has : Bool) (block : _) (samples : List ℕ) → KeepsBytes filter → AreBytesOf count samples → AreBytesOf count (inner_columns filter shape has block samples)
unfolding inner_columns
inner_columns-bytes count filter shape has block samples keeps are = either-bytes count has (column_edges filter shape.side block shape.inner samples) samples (columns-bytes count filter shape.side block shape.inner samples keeps are) are

inner_rows-bytes : (count : ℕ) (filter : Line → Line) (shape : Shape) (has : Bool) (block : _) (samples : List ℕ) → KeepsBytes filter → AreBytesOf count samples → AreBytesOf count (inner_rows filter shape has block samples)
unfolding inner_rows
inner_rows-bytes count filter shape has block samples keeps are = either-bytes count has (row_edges filter shape.side block shape.inner samples) samples (rows-bytes count filter shape.side block shape.inner samples keeps are) are

keeps-line : (filter : EdgeFilter) (limits : EdgeLimits) → KeepsBytes (filtered_line filter limits)
unfolding KeepsBytes
keeps-line filter limits = line-small filter limits

pub filtered-bytes : (count : ℕ) (shape : Shape) (is_simple : Bool) (strength : _) (block : _) (samples : List ℕ) → AreBytesOf count samples → AreBytesOf count (filtered_by shape is_simple strength block samples)
unfolding filtered_by
filtered-bytes count shape is_simple None block samples are = are
filtered-bytes count shape is_simple (Some strength) block samples are =
    inner_rows-bytes count _ shape strength.has_inner_edges block _ (keeps-line _ _)
    (top-bytes count _ shape.side block _ (keeps-line _ _) (inner_columns-bytes count _ shape strength.has_inner_edges block _ (keeps-line _ _) (left-bytes count _ shape.side block samples (keeps-line _ _) are)))
