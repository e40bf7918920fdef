-- Whole blocks among the samples of a plane.
use Rattle.std.specs.Prelude.{slice_index, slice_range, Option, None, Some}
use Rattle.std.specs.List.{range_with_len}
use Rattle.std.specs.Simd.Lanes.{put_chunk}
use Rattle.std.proofs.Common.{◌≡◌, ℕ, zero, suc, ◌+◌, ◌-◌, ◌*◌, ◌<◌, ◌≤◌, inl, inr, List, [], ◌∷◌, ◌++◌, length, map, take, drop, refl, ap, sym, ◌∙◌, eq-eqb, arith}
use Rattle.std.proofs.lemmas.Bool.{cases_eq, ne_eqb, cond-true, cond-false}
use Rattle.std.proofs.lemmas.List.{append-nil, length-take-le, length-drop, take_at, take_rest, drop_at, drop_all, get_or-take, get_or-drop}
use Rattle.std.proofs.lemmas.List.FromFn.{get_or-map-range_with_len}
use Rattle.intra_predict.specs.declared.corners.Corner.{Corner}
use Rattle.intra_predict.specs.Blocks.{IsBlockAmong}
use Rattle.intra_predict.specs.InPlace.{start_of, above_among, left_among, IsBlockFrom}
use Rattle.intra_predict.specs.WholeSample.{above_at, left_at}
use Rattle.intra_predict.proofs.Rows.{no_rows, row_put, among_same}

-- ---- the sides

-- below the first row there is a row above
pub over_start : (across row column : ℕ) → (row ≡ 0 → ⊥) → across ≤ across * row + column
over_start across zero column below = absurd (below refl)
over_start across (suc row) column below = omega arith

-- a side above the frame
pub above_none : (samples : List ℕ) (corner : Corner) (n : ℕ) → corner.row ≡ 0 → above_among samples corner n ≡ None
above_none samples corner n top = cond-true _ _ _ (eq-eqb _ _ top)

-- below that
pub above_some : (samples : List ℕ) (corner : Corner) (n : ℕ) → (corner.row ≡ 0 → ⊥) → above_among samples corner n ≡ Some (slice_range samples (start_of corner - corner.across) (start_of corner - corner.across + n))
above_some samples corner n below = cond-false _ _ _ (ne_eqb _ _ below)

-- a side to the left of the frame
pub left_none : (samples : List ℕ) (corner : Corner) (n : ℕ) → corner.column ≡ 0 → left_among samples corner n ≡ None
left_none samples corner n first = cond-true _ _ _ (eq-eqb _ _ first)

-- right of that
pub left_some : (samples : List ℕ) (corner : Corner) (n : ℕ) → (corner.column ≡ 0 → ⊥) → left_among samples corner n ≡ Some (map (λ row. slice_index samples (start_of corner + row * corner.across - 1)) (range_with_len 0 n))
left_some samples corner n inner = cond-false _ _ _ (ne_eqb _ _ inner)

-- how many samples a part has
pub range_length : (samples : List ℕ) (first n : ℕ) → first + n ≤ length samples → length (slice_range samples first (first + n)) ≡ n
range_length samples first n room = length-take-le (first + n - first) (drop first samples) (omega (arith, length-drop first samples, room)) ∙ omega arith

-- one sample above, and one to the left
pub above_outside : (samples : List ℕ) (corner : Corner) (n column : ℕ) → corner.row ≡ 0 → above_at (above_among samples corner n) column ≡ 127
above_outside samples corner n column top = ap (λ (side : Option (List ℕ)). above_at side column) (above_none samples corner n top)

pub above_inside : (samples : List ℕ) (corner : Corner) (n column : ℕ) → (corner.row ≡ 0 → ⊥) → column < n → above_at (above_among samples corner n) column ≡ slice_index samples (start_of corner - corner.across + column)
above_inside samples corner n column below less =
    let first : ℕ = start_of corner - corner.across in
    ap (λ (side : Option (List ℕ)). above_at side column) (above_some samples corner n below)
    ∙ get_or-take (first + n - first) (drop first samples) column 0 (omega arith)
    ∙ get_or-drop first samples column 0

pub left_outside : (samples : List ℕ) (corner : Corner) (n row : ℕ) → corner.column ≡ 0 → left_at (left_among samples corner n) row ≡ 129
left_outside samples corner n row first = ap (λ (side : Option (List ℕ)). left_at side row) (left_none samples corner n first)

pub left_inside : (samples : List ℕ) (corner : Corner) (n row : ℕ) → (corner.column ≡ 0 → ⊥) → row < n → left_at (left_among samples corner n) row ≡ slice_index samples (start_of corner + row * corner.across - 1)
left_inside samples corner n row inner less =
    ap (λ (side : Option (List ℕ)). left_at side row) (left_some samples corner n inner)
    ∙ get_or-map-range_with_len (λ k. slice_index samples (start_of corner + k * corner.across - 1)) 0 n row row 0 less (omega arith)

-- ---- a block that starts at an index

-- a row that is written after an index
take_put : (start i : ℕ) (xs ys : List ℕ) → take start (put_chunk (start + i) xs ys) ≡ take start xs
take_put zero i xs ys = refl
take_put (suc start) i [] ys = refl
take_put (suc start) i (x ∷ xs) ys =
    let next : suc start + i ≡ suc (start + i) = omega arith in
    rw next (ap (λ (l : List ℕ). x ∷ l) (take_put start i xs ys))

drop_put : (start i : ℕ) (xs ys : List ℕ) → drop start (put_chunk (start + i) xs ys) ≡ put_chunk i (drop start xs) ys
drop_put zero i xs ys =
    let same : 0 + i ≡ i = omega arith in
    rw same refl
drop_put (suc start) i [] ys = refl
drop_put (suc start) i (x ∷ xs) ys =
    let next : suc start + i ≡ suc (start + i) = omega arith in
    rw next (drop_put start i xs ys)

-- no row
pub none_from : (sample : ℕ → ℕ → ℕ) (start width stride : ℕ) (old : List ℕ) → IsBlockFrom sample start width 0 stride old old
none_from sample start width stride old = record { before = refl; block = no_rows sample width stride (drop start old) }

-- one more row
pub row_from : (sample : ℕ → ℕ → ℕ) (start width n stride : ℕ) (old now line : List ℕ) → IsBlockFrom sample start width n stride old now → width ≤ stride → start + n * stride + width ≤ length old → length line ≡ width →
    ((column : ℕ) → column < width → slice_index line column ≡ sample column n) → IsBlockFrom sample start width (n + 1) stride old (put_chunk (start + n * stride) now line)
row_from sample start width n stride old now line is fits room long right =
    let inside : n * stride + width ≤ length (drop start old) = omega (arith, length-drop start old, room) in
    record {
      before = take_put start (n * stride) now line ∙ is.before;
      block = rw (drop_put start (n * stride) now line) (row_put sample width n stride (drop start old) (drop start now) line is.block fits inside long right);
    }

-- the same block by another function of column and row
pub from_same : (one other : ℕ → ℕ → ℕ) (start width height stride : ℕ) (old new : List ℕ) → IsBlockFrom one start width height stride old new → ((column row : ℕ) → column < width → row < height → one column row ≡ other column row) → IsBlockFrom other start width height stride old new
from_same one other start width height stride old new is same = record {
  before = is.before;
  block = among_same one other width height stride (drop start old) (drop start new) is.block same;
}

-- a block that was written into the part that starts with it
pub part_from : (sample : ℕ → ℕ → ℕ) (start width height stride : ℕ) (old part rest : List ℕ) → start ≤ length old → rest ≡ drop (length old - start) (drop start old) →
    IsBlockAmong sample width height stride (take (length old - start) (drop start old)) part → IsBlockFrom sample start width height stride old (take start old ++ (part ++ rest))
part_from sample start width height stride old part rest room following is =
    let front : length (take start old) ≡ start = length-take-le start old room in
    let none : rest ≡ [] = following ∙ drop_all (length old - start) (drop start old) (omega (arith, length-drop start old)) in
    let after : drop start (take start old ++ (part ++ rest)) ≡ part = drop_at (take start old) (part ++ rest) start front ∙ ap (λ (l : List ℕ). part ++ l) none ∙ append-nil part in
    let whole : IsBlockAmong sample width height stride (drop start old) part = rw (take_rest old start) at is in
    record {
      before = take_at (take start old) (part ++ rest) start front;
      block = rw after whole;
    }

-- ---- the left side while rows are written

-- a sample before the block
before_same : (start k : ℕ) (old now : List ℕ) → take start now ≡ take start old → k < start → slice_index now k ≡ slice_index old k
before_same start k old now same less = sym (get_or-take start now k 0 less) ∙ ap (λ (l : List ℕ). slice_index l k) same ∙ get_or-take start old k 0 less

-- the sample to the left of row n is the last one between rows n - 1 and n
left_index : (start stride n : ℕ) → 0 < stride → start + (n + 1) * stride - 1 ≡ start + (n * stride + (stride - 1))
left_index start stride n some = omega arith

-- the sample to the left of the next row
left_kept : (sample : ℕ → ℕ → ℕ) (start width n stride : ℕ) (old now : List ℕ) → IsBlockFrom sample start width n stride old now → width < stride → 0 < start → slice_index now (start + n * stride - 1) ≡ slice_index old (start + n * stride - 1)
left_kept sample start width zero stride old now is narrow some =
    let first : start + 0 * stride - 1 ≡ start - 1 = omega arith in
    rw first (before_same start (start - 1) old now is.before (omega (arith, some)))
left_kept sample start width (suc n) stride old now is narrow some =
    let next : suc n ≡ n + 1 = omega arith in
    let place : start + suc n * stride - 1 ≡ start + (n * stride + (stride - 1)) = ap (λ (k : ℕ). start + k * stride - 1) next ∙ left_index start stride n (omega (arith, narrow)) in
    rw place
    (sym (get_or-drop start now (n * stride + (stride - 1)) 0)
    ∙ is.block.others (stride - 1) n (omega (arith, narrow)) (inl (omega (arith, narrow)))
    ∙ get_or-drop start old (n * stride + (stride - 1)) 0)

-- what is read there is what it was before the rows above were written
pub left_same : (sample : ℕ → ℕ → ℕ) (corner : Corner) (width side n : ℕ) (old now : List ℕ) → IsBlockFrom sample (start_of corner) width n corner.across old now → corner.column + width ≤ corner.across → n < side → left_at (left_among now corner side) n ≡ left_at (left_among old corner side) n
left_same sample corner width side n old now is wide less =
    elim (cases_eq corner.column 0) [
      | inl first ↦ left_outside now corner side n first ∙ sym (left_outside old corner side n first)
      | inr inner ↦
          let some : 0 < corner.column = omega (arith, inner) in
          left_inside now corner side n inner less
          ∙ left_kept sample (start_of corner) width n corner.across old now is (omega (arith, some, wide)) (omega (arith, some))
          ∙ sym (left_inside old corner side n inner less)
    ]
