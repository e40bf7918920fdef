-- The rows across an edge that its filter can change: the others are in the samples as they are.
use Rattle.std.specs.Prelude.{slice_index}
use Rattle.std.specs.Simd.Lanes.{put_chunk}
use Rattle.std.proofs.Common.{◌≡◌, ◌⊎◌, inl, inr, ℕ, zero, suc, ◌+◌, ◌-◌, ◌*◌, ◌<◌, ◌≤◌, Bool, true, false, cond, ℤ, List, [], ◌∷◌, length, map, refl, ap, sym, subst, ◌∙◌, arith}
use Rattle.std.specs.List.{range_with_len}
use Rattle.std.proofs.Math.Nat.{mul-le-mul_right}
use Rattle.std.proofs.lemmas.Grind.{same_number_lists}
use Rattle.std.proofs.lemmas.List.FromFn.{length-map-range_with_len, get_or-map-range_with_len}
use Rattle.std.proofs.lemmas.Simd.{length-put_chunk}
use Rattle.loop_filter.specs.declared.edge_limits.EdgeLimits.{EdgeLimits}
use Rattle.loop_filter.specs.declared.edge_limits.EdgeFilter.{EdgeFilter}
use Rattle.loop_filter.specs.declared.edge_limits.EdgeFilter.TheVariants.{Simple, Inner, Macroblock}
use Rattle.loop_filter.specs.Lines.{Line, is_small_step, is_filtered, has_high_edge_variance, shortfall, adjusted, outer_adjusted, smoothed, simple_line, inner_line, macroblock_line, filtered_line, reach}
use Rattle.loop_filter.specs.Edges.{line_in, lines_filtered}
use Rattle.loop_filter.specs.Lanes.{rows_put}
use Rattle.loop_filter.proofs.EdgeFold.{samples_of, same_line, rows_edge}
use Rattle.loop_filter.proofs.OwnLines.{own-lines, columns-apart}
use Rattle.loop_filter.proofs.RowsPut.{put_none, same_rows, rows_put_other, rows_put_on, earlier_row}
use Rattle.loop_filter.proofs.Transposed.{below_eight}

-- a sample of a line that is out of reach of the edge
abbrev pub IsFar : ℕ → ℕ → Type 0
IsFar reach k = (k < 4 - reach) ⊎ (4 + reach ≤ k)

near : (reach k : ℕ) → 4 ≤ k + reach → k < 4 + reach → IsFar reach k → ⊥
near reach k from below far = elim far [
  | inl before ↦ omega (arith, before)
  | inr following ↦ omega (arith, following)
]

-- those of two lines are the same
abbrev pub Keeps : ℕ → Line → Line → Type 0
Keeps reach new old = (k : ℕ) → k < 8 → IsFar reach k → slice_index (samples_of new) k ≡ slice_index (samples_of old) k

keeps_more : (few many : ℕ) (new old : Line) → few ≤ many → Keeps few new old → Keeps many new old
keeps_more few many new old le keeps k less far = keeps k less (elim far [
  | inl before ↦ inl (omega (arith, before, le))
  | inr following ↦ inr (omega (arith, following, le))
])

keeps_either : (reach : ℕ) (b : Bool) (x y old : Line) → Keeps reach x old → Keeps reach y old → Keeps reach (cond b x y) old
keeps_either reach true x y old first other = first
keeps_either reach false x y old first other = other

keeps_all : (reach : ℕ) (l : Line) → Keeps reach l l
keeps_all reach l k less far = refl

keeps_adjusted : (a : ℤ) (l : Line) → Keeps 1 (adjusted a l) l
keeps_adjusted a l =
    below_eight (λ k. IsFar 1 k → slice_index (samples_of (adjusted a l)) k ≡ slice_index (samples_of l) k) (λ far. refl) (λ far. refl) (λ far. refl)
    (λ far. absurd (near 1 3 (omega arith) (omega arith) far)) (λ far. absurd (near 1 4 (omega arith) (omega arith) far)) (λ far. refl) (λ far. refl) (λ far. refl)

keeps_outer : (a : ℤ) (l : Line) → Keeps 2 (outer_adjusted a (adjusted a l)) l
keeps_outer a l =
    below_eight (λ k. IsFar 2 k → slice_index (samples_of (outer_adjusted a (adjusted a l))) k ≡ slice_index (samples_of l) k) (λ far. refl) (λ far. refl)
    (λ far. absurd (near 2 2 (omega arith) (omega arith) far)) (λ far. absurd (near 2 3 (omega arith) (omega arith) far)) (λ far. absurd (near 2 4 (omega arith) (omega arith) far)) (λ far. absurd (near 2 5 (omega arith) (omega arith) far))
    (λ far. refl) (λ far. refl)

keeps_smoothed : (a : ℤ) (l : Line) → Keeps 3 (smoothed a l) l
keeps_smoothed a l =
    below_eight (λ k. IsFar 3 k → slice_index (samples_of (smoothed a l)) k ≡ slice_index (samples_of l) k) (λ far. refl)
    (λ far. absurd (near 3 1 (omega arith) (omega arith) far)) (λ far. absurd (near 3 2 (omega arith) (omega arith) far)) (λ far. absurd (near 3 3 (omega arith) (omega arith) far))
    (λ far. absurd (near 3 4 (omega arith) (omega arith) far)) (λ far. absurd (near 3 5 (omega arith) (omega arith) far)) (λ far. absurd (near 3 6 (omega arith) (omega arith) far)) (λ far. refl)

keeps_simple : (limit : ℕ) (l : Line) → Keeps 1 (simple_line limit l) l
unfolding simple_line
keeps_simple limit l = keeps_either 1 (is_small_step limit l) (adjusted (shortfall true l) l) l l (keeps_adjusted (shortfall true l) l) (keeps_all 1 l)

keeps_inner : (limits : EdgeLimits) (l : Line) → Keeps 2 (inner_line limits l) l
unfolding inner_line
keeps_inner limits l =
    let high : Line = adjusted (shortfall true l) l in
    let low : Line = outer_adjusted (shortfall false l) (adjusted (shortfall false l) l) in
    let v = has_high_edge_variance limits.variance l in
    keeps_either 2 (is_filtered limits l) (cond v high low) l l
    (keeps_either 2 v high low l (keeps_more 1 2 high l (omega arith) (keeps_adjusted (shortfall true l) l)) (keeps_outer (shortfall false l) l)) (keeps_all 2 l)

keeps_macroblock : (limits : EdgeLimits) (l : Line) → Keeps 3 (macroblock_line limits l) l
unfolding macroblock_line
keeps_macroblock limits l =
    let high : Line = adjusted (shortfall true l) l in
    let low : Line = smoothed (shortfall true l) l in
    let v = has_high_edge_variance limits.variance l in
    keeps_either 3 (is_filtered limits l) (cond v high low) l l
    (keeps_either 3 v high low l (keeps_more 1 3 high l (omega arith) (keeps_adjusted (shortfall true l) l)) (keeps_smoothed (shortfall true l) l)) (keeps_all 3 l)

keeps_far : (filter : EdgeFilter) (limits : EdgeLimits) (l : Line) → Keeps (reach filter) (filtered_line filter limits l) l
keeps_far Simple limits l = keeps_simple limits.edge l
keeps_far Inner limits l = keeps_inner limits l
keeps_far Macroblock limits l = keeps_macroblock limits l

is_near : (filter : EdgeFilter) → reach filter ≤ 4
is_near Simple = omega arith
is_near Inner = omega arith
is_near Macroblock = omega arith

-- samples that are written where they are already
put_as_is : (at : ℕ) (xs ys : List ℕ) → at + length ys ≤ length xs → ((i : ℕ) → i < length ys → slice_index ys i ≡ slice_index xs (at + i)) → put_chunk at xs ys ≡ xs
put_as_is at xs [] room same = put_none at xs
put_as_is zero [] (y ∷ ys) room same = absurd (omega arith)
put_as_is zero (x ∷ xs) (y ∷ ys) room same =
    let first : y ≡ x = same 0 (omega arith) in
    ap (λ (v : ℕ). v ∷ put_chunk zero xs ys) first ∙ ap (λ (l : List ℕ). x ∷ l) (put_as_is zero xs ys (omega arith) (λ i less. let next : 0 + suc i ≡ suc (0 + i) = omega arith in same (suc i) (omega arith) ∙ ap (slice_index (x ∷ xs)) next))
put_as_is (suc at) [] (y ∷ ys) room same = refl
put_as_is (suc at) (x ∷ xs) (y ∷ ys) room same = ap (λ (l : List ℕ). x ∷ l) (put_as_is at xs (y ∷ ys) (omega arith) (λ i less. let next : suc at + i ≡ suc (at + i) = omega arith in same i less ∙ ap (slice_index (x ∷ xs)) next))

length-rows : (s : List ℕ) (start stride : ℕ) (row : ℕ → List ℕ) (n : ℕ) → length (rows_put s start stride row n) ≡ length s
unfolding rows_put
length-rows s start stride row zero = refl
length-rows s start stride row (suc n) = length-put_chunk (start + n * stride) (rows_put s start stride row n) (row n) ∙ length-rows s start stride row n

-- rows that are not in reach need not be written
module _ (s : List ℕ) (start stride count : ℕ) (row : ℕ → List ℕ) (wide : count ≤ stride) where
  rows_as_are : (n m : ℕ) → ((k : ℕ) → k < n + m → length (row k) ≡ count) → ((k : ℕ) → k < n + m → start + k * stride + count ≤ length s)
      → ((k i : ℕ) → n ≤ k → k < n + m → i < count → slice_index (row k) i ≡ slice_index s (start + k * stride + i)) → rows_put s start stride row (n + m) ≡ rows_put s start stride row n
  unfolding rows_put
  rows_as_are n zero long room same = let end : n + 0 ≡ n = omega arith in ap (rows_put s start stride row) end
  rows_as_are n (suc m) long room same =
      let next : n + suc m ≡ suc (n + m) = omega arith in
      let before : List ℕ = rows_put s start stride row (n + m) in
      let at : ℕ = start + (n + m) * stride in
      let here : length (row (n + m)) ≡ count = long (n + m) (omega arith) in
      let inside : at + count ≤ length s = room (n + m) (omega arith) in
      let whole : length before ≡ length s = length-rows s start stride row (n + m) in
      let kept : (i : ℕ) → i < length (row (n + m)) → slice_index (row (n + m)) i ≡ slice_index before (at + i) = λ (i : ℕ) (less : i < length (row (n + m))).
      same (n + m) i (omega arith) (omega arith) (omega (arith, less, here))
      ∙ sym (rows_put_other s start stride row (n + m) (at + i) (λ k below. let e = earlier_row stride k (n + m) below in let l = long k (omega (arith, below)) in inr (omega (arith, e, l, wide)))) in
      ap (rows_put s start stride row) next
      ∙ put_as_is at before (row (n + m)) (omega (arith, here, inside, whole)) kept
      ∙ rows_as_are n m (λ k below. long k (omega (arith, below))) (λ k below. room k (omega (arith, below))) (λ k i from below less. same k i from (omega (arith, below)) less)

-- sample k of a column, in row k
sample_in : (s : List ℕ) (start stride i k : ℕ) → k < 8 → slice_index (samples_of (line_in s (start + i) stride)) k ≡ slice_index s (start + k * stride + i)
sample_in s start stride i =
    let at : (m n : ℕ) → m ≡ n → slice_index s m ≡ slice_index s n = λ (m n : ℕ) (same : m ≡ n). ap (slice_index s) same in
    below_eight (λ k. slice_index (samples_of (line_in s (start + i) stride)) k ≡ slice_index s (start + k * stride + i))
    (at _ _ (omega arith)) (at _ _ (omega arith)) (at _ _ (omega arith)) (at _ _ (omega arith)) (at _ _ (omega arith)) (at _ _ (omega arith)) (at _ _ (omega arith)) (at _ _ (omega arith))

-- row k of the filtered lines
abbrev row_after : (Line → Line) → List ℕ → ℕ → ℕ → ℕ → ℕ → List ℕ
row_after f s start stride count k = map (λ i. slice_index (samples_of (f (line_in s (start + i) stride))) k) (range_with_len 0 count)

row_after-is : (f : Line → Line) (s : List ℕ) (start stride count k i : ℕ) → i < count → slice_index (row_after f s start stride count k) i ≡ slice_index (samples_of (f (line_in s (start + i) stride))) k
row_after-is f s start stride count k i less = get_or-map-range_with_len (λ i. slice_index (samples_of (f (line_in s (start + i) stride))) k) 0 count i i 0 less (omega arith)

after_written : (f : Line → Line) (reach : ℕ) → reach ≤ 4 → ((l : Line) → Keeps reach (f l) l) → (s : List ℕ) (start stride count : ℕ) → count ≤ stride → start + 7 * stride + count ≤ length s
    → rows_put s (start + (4 - reach) * stride) stride (λ k. row_after f s start stride count (4 - reach + k)) (2 * reach) ≡ lines_filtered f start 1 stride s count
unfolding rows_put
after_written f reach few keeps s start stride count wide room =
    let first = 4 - reach in
    let row : ℕ → List ℕ = row_after f s start stride count in
    let long : (k : ℕ) → length (row k) ≡ count = λ (k : ℕ). length-map-range_with_len (λ i. slice_index (samples_of (f (line_in s (start + i) stride))) k) 0 count in
    let ends : (k : ℕ) → k < 8 → start + k * stride + count ≤ length s = λ (k : ℕ) (below : k < 8). let le : k * stride ≤ 7 * stride = mul-le-mul_right stride (omega arith) in omega (arith, le, room) in
    let as_is : (k i : ℕ) → k < 8 → IsFar reach k → i < count → slice_index (row k) i ≡ slice_index s (start + k * stride + i) = λ (k i : ℕ) (below : k < 8) (far : IsFar reach k) (less : i < count).
    row_after-is f s start stride count k i less ∙ keeps (line_in s (start + i) stride) k below far ∙ sample_in s start stride i k below in
    let none : first ≡ 0 + first = omega arith in
    let above : rows_put s start stride row first ≡ s =
    ap (rows_put s start stride row) none
    ∙ rows_as_are s start stride count row wide 0 first (λ k below. long k) (λ k below. ends k (omega arith)) (λ k i from below less. as_is k i (omega arith) (inl (omega arith)) less) in
    let under : rows_put s start stride row (first + 2 * reach + first) ≡ rows_put s start stride row (first + 2 * reach) =
    rows_as_are s start stride count row wide (first + 2 * reach) first (λ k below. long k) (λ k below. ends k (omega arith)) (λ k i from below less. as_is k i (omega arith) (inr (omega arith)) less) in
    let total : first + 2 * reach + first ≡ 8 = omega (arith, few) in
    ap (λ (l : List ℕ). rows_put l (start + first * stride) stride (λ k. row (first + k)) (2 * reach)) (sym above)
    ∙ rows_put_on s start stride row first (2 * reach)
    ∙ sym under
    ∙ ap (rows_put s start stride row) total
    ∙ rows_edge f s start stride count row wide (λ k below. long k) (λ i k less below. row_after-is f s start stride count k i less)

-- the rows in reach of a filter, written alone
pub changed_rows : (filter : EdgeFilter) (limits : EdgeLimits) (s : List ℕ) (start stride count : ℕ) (row : ℕ → List ℕ) → count ≤ stride → start + 7 * stride + count ≤ length s
    → ((k : ℕ) → k < 2 * reach filter → length (row (4 - reach filter + k)) ≡ count)
    → ((i k : ℕ) → i < count → k < 8 → slice_index (row k) i ≡ slice_index (samples_of (filtered_line filter limits (line_in s (start + i) stride))) k)
    → rows_put s (start + (4 - reach filter) * stride) stride (λ k. row (4 - reach filter + k)) (2 * reach filter) ≡ lines_filtered (filtered_line filter limits) start 1 stride s count
changed_rows filter limits s start stride count row wide room long is =
    let f = filtered_line filter limits in
    let few : reach filter ≤ 4 = is_near filter in
    let after : ℕ → List ℕ = row_after f s start stride count in
    let whole : (k : ℕ) → length (after k) ≡ count = λ (k : ℕ). length-map-range_with_len (λ i. slice_index (samples_of (f (line_in s (start + i) stride))) k) 0 count in
    same_rows s (start + (4 - reach filter) * stride) stride (λ k. row (4 - reach filter + k)) (λ k. after (4 - reach filter + k)) (2 * reach filter) (λ k less.
    let here : length (row (4 - reach filter + k)) ≡ count = long k less in
    same_number_lists _ _ (here ∙ sym (whole (4 - reach filter + k))) (λ i below. let inside : i < count = omega (arith, below, here) in is i (4 - reach filter + k) inside (omega (arith, few, less)) ∙ sym (row_after-is f s start stride count (4 - reach filter + k) i inside)))
    ∙ after_written f (reach filter) few (keeps_far filter limits) s start stride count wide room

-- one more row, stored after those from row n on
stored_more : (s : List ℕ) (start stride : ℕ) (row : ℕ → List ℕ) (n m at : ℕ) (before new : List ℕ) → at ≡ start + (n + m) * stride
    → before ≡ rows_put s (start + n * stride) stride (λ k. row (n + k)) m → new ≡ put_chunk at before (row (n + m)) → new ≡ rows_put s (start + n * stride) stride (λ k. row (n + k)) (suc m)
unfolding rows_put
stored_more s start stride row n m at before new place is stored =
    let same : at ≡ start + n * stride + m * stride = omega (arith, place) in
    stored ∙ ap (λ (l : List ℕ). put_chunk at l (row (n + m))) is ∙ ap (λ (p : ℕ). put_chunk p (rows_put s (start + n * stride) stride (λ k. row (n + k)) m) (row (n + m))) same

-- the rows in reach of each filter, stored in sequence
module _ (s : List ℕ) (start stride : ℕ) (row : ℕ → List ℕ) where
  pub two_stores : (s1 s2 : List ℕ) → s1 ≡ put_chunk (start + 3 * stride) s (row 3) → s2 ≡ put_chunk (start + 4 * stride) s1 (row 4) → s2 ≡ rows_put s (start + 3 * stride) stride (λ k. row (3 + k)) 2
  unfolding rows_put
  two_stores s1 s2 e1 e2 = stored_more s start stride row 3 1 _ s1 s2 refl (stored_more s start stride row 3 0 _ s s1 refl refl e1) e2

  pub four_stores : (s1 s2 s3 s4 : List ℕ) → s1 ≡ put_chunk (start + 2 * stride) s (row 2) → s2 ≡ put_chunk (start + 3 * stride) s1 (row 3) → s3 ≡ put_chunk (start + 4 * stride) s2 (row 4) → s4 ≡ put_chunk (start + 5 * stride) s3 (row 5)
      → s4 ≡ rows_put s (start + 2 * stride) stride (λ k. row (2 + k)) 4
  unfolding rows_put
  four_stores s1 s2 s3 s4 e1 e2 e3 e4 =
      stored_more s start stride row 2 3 _ s3 s4 refl (stored_more s start stride row 2 2 _ s2 s3 refl (stored_more s start stride row 2 1 _ s1 s2 refl (stored_more s start stride row 2 0 _ s s1 refl refl e1) e2) e3) e4

  pub six_stores : (s1 s2 s3 s4 s5 s6 : List ℕ) → s1 ≡ put_chunk (start + stride) s (row 1) → s2 ≡ put_chunk (start + 2 * stride) s1 (row 2) → s3 ≡ put_chunk (start + 3 * stride) s2 (row 3)
      → s4 ≡ put_chunk (start + 4 * stride) s3 (row 4) → s5 ≡ put_chunk (start + 5 * stride) s4 (row 5) → s6 ≡ put_chunk (start + 6 * stride) s5 (row 6) → s6 ≡ rows_put s (start + 1 * stride) stride (λ k. row (1 + k)) 6
  unfolding rows_put
  six_stores s1 s2 s3 s4 s5 s6 e1 e2 e3 e4 e5 e6 =
      let three : s3 ≡ rows_put s (start + 1 * stride) stride (λ k. row (1 + k)) 3 = stored_more s start stride row 1 2 _ s2 s3 refl (stored_more s start stride row 1 1 _ s1 s2 refl (stored_more s start stride row 1 0 _ s s1 (omega arith) refl e1) e2) e3 in
      stored_more s start stride row 1 5 _ s5 s6 refl (stored_more s start stride row 1 4 _ s4 s5 refl (stored_more s start stride row 1 3 _ s3 s4 refl three e4) e5) e6

-- the lines of an edge after its filter
pub column_after : (f : Line → Line) (s : List ℕ) (start stride count i : ℕ) → 1 ≤ stride → count ≤ stride → i < count → start + i + 7 * stride < length s
    → f (line_in s (start + i) stride) ≡ line_in (lines_filtered f start 1 stride s count) (start + i) stride
column_after f s start stride count i some wide less inside =
    let place : start + i * 1 ≡ start + i = omega arith in
    let lines = own-lines f start 1 stride count s some (columns-apart count start stride wide) in
    sym (subst (λ (p : ℕ). line_in (lines_filtered f start 1 stride s count) p stride ≡ f (line_in s p stride)) place (lines.lines i less (omega (arith, inside))))

-- and the columns across the next edge, of which the upper half is in vectors
pub next_column : (s : List ℕ) (start stride i : ℕ) (above l : Line) → above ≡ line_in s (start + i) stride → l.p3 ≡ above.q0 → l.p2 ≡ above.q1 → l.p1 ≡ above.q2 → l.p0 ≡ above.q3
    → l.q0 ≡ slice_index s (start + 8 * stride + i) → l.q1 ≡ slice_index s (start + 9 * stride + i) → l.q2 ≡ slice_index s (start + 10 * stride + i) → l.q3 ≡ slice_index s (start + 11 * stride + i)
    → l ≡ line_in s (start + 4 * stride + i) stride
next_column s start stride i above l is e0 e1 e2 e3 e4 e5 e6 e7 =
    let at : (m n : ℕ) → m ≡ n → slice_index s m ≡ slice_index s n = λ (m n : ℕ) (same : m ≡ n). ap (slice_index s) same in
    same_line l (line_in s (start + 4 * stride + i) stride) (e0 ∙ ap (λ (l : Line). l.q0) is ∙ at _ _ (omega arith)) (e1 ∙ ap (λ (l : Line). l.q1) is ∙ at _ _ (omega arith)) (e2 ∙ ap (λ (l : Line). l.q2) is ∙ at _ _ (omega arith)) (e3 ∙ ap (λ (l : Line). l.q3) is ∙ at _ _ (omega arith))
    (e4 ∙ at _ _ (omega arith)) (e5 ∙ at _ _ (omega arith)) (e6 ∙ at _ _ (omega arith)) (e7 ∙ at _ _ (omega arith))
