-- Indices in rows of samples, and in a part that begins with one of them.
use Rattle.std.specs.Prelude.{slice_index}
use Rattle.std.proofs.Common.{◌≡◌, ℕ, ◌+◌, ◌-◌, ◌*◌, ◌<◌, ◌≤◌, inl, inr, List, ◌++◌, length, get_or, take, drop, refl, ap, sym, ◌∙◌, arith}
use Rattle.std.proofs.Math.ListN.{get_or-eq_default}
use Rattle.std.proofs.Math.Nat.{mul-le-mul_right}
use Rattle.std.proofs.lemmas.Bool.{cases_lt}
use Rattle.std.proofs.lemmas.List.{length-take-le, length-drop, length-append, get_or-take, get_or-drop, get_or_append_left, get_or-append_right}

index_from : (side i d column row : ℕ) → column ≤ i → (row + d) * side + i ≡ side * row + column + (d * side + (i - column))
index_from side i d column row a = omega arith

pub index_in : (side i j column row : ℕ) → column ≤ i → row ≤ j → j * side + i ≡ side * row + column + ((j - row) * side + (i - column))
index_in side i j column row a b =
    let e : j ≡ row + (j - row) = omega arith in
    ap (λ n. n * side + i) e ∙ index_from side i (j - row) column row a

-- a sample left of the block is at the end of a row of the part that begins with the block
index_left : (side i d column row : ℕ) → column ≤ side → (row + (d + 1)) * side + i ≡ side * row + column + (d * side + (side + i - column))
index_left side i d column row a = omega arith

pub index_before : (side i j column row : ℕ) → column ≤ side → row < j → j * side + i ≡ side * row + column + ((j - row - 1) * side + (side + i - column))
index_before side i j column row a b =
    let e : j ≡ row + (j - row - 1 + 1) = omega arith in
    ap (λ n. n * side + i) e ∙ index_left side i (j - row - 1) column row a

above_start : (side i j e column : ℕ) → i < side → j * side + i < side * (j + 1 + e) + column
above_start side i j e column a = omega arith

pub index_above : (side i j column row : ℕ) → i < side → j < row → j * side + i < side * row + column
index_above side i j column row a b =
    let e : row ≡ j + 1 + (row - j - 1) = omega arith in
    rw e (above_start side i j (row - j - 1) column a)

-- each index of the first rows is within them
pub index_within : (across i j rows : ℕ) → i < across → j < rows → j * across + i < rows * across
index_within across i j rows a b = let fits : (j + 1) * across ≤ rows * across = mul-le-mul_right across (omega (arith, b)) in omega (arith, fits, a)

-- fewer rows have room if more have it
pub rows_room : (few many across count : ℕ) → few ≤ many → many * across ≤ count → few * across ≤ count
rows_room few many across count fewer room = let fits : few * across ≤ many * across = mul-le-mul_right across fewer in omega (arith, fits, room)

-- a square has its first sample, and the samples of its last row
pub start_within : (across side column row count : ℕ) → 0 < side → column + side ≤ across → (row + side) * across ≤ count → across * row + column ≤ count
start_within across side column row count some wide room =
    let inside = index_within across column row (row + side) (omega (arith, some, wide)) (omega (arith, some)) in
    omega (arith, inside, room)

pub last_row_within : (across side column row count : ℕ) → 0 < side → column + side ≤ across → (row + side) * across ≤ count → across * row + column + ((side - 1) * across + side) ≤ count
last_row_within across side column row count some wide room =
    let last : row + side ≡ row + (side - 1) + 1 = omega (arith, some) in
    let rows = rw last at room in
    omega (arith, rows, wide)

-- the index of a sample, by its column and row in a square
pub from_place : (across x y i j : ℕ) → x ≤ i → y ≤ j → (y + (j - y)) * across + (x + (i - x)) ≡ j * across + i
from_place across x y i j a b =
    let right : x + (i - x) ≡ i = omega (arith, a) in
    let down : y + (j - y) ≡ j = omega (arith, b) in
    rw (right, down) refl

-- an index after the start of a part is in the part
pub part_old : (old : List ℕ) (start k : ℕ) → start + k < length old → slice_index (take (length old - start) (drop start old)) k ≡ slice_index old (start + k)
part_old old start k within = get_or-take (length old - start) (drop start old) k 0 (omega arith) ∙ get_or-drop start old k 0

pub part_new : (old part rest : List ℕ) (start k : ℕ) → length part ≡ length (take (length old - start) (drop start old)) → start + k < length old → slice_index (take start old ++ (part ++ rest)) (start + k) ≡ slice_index part k
part_new old part rest start k whole within =
    let front : length (take start old) ≡ start = length-take-le start old (omega arith) in
    let long : length (take (length old - start) (drop start old)) ≡ length old - start = length-take-le (length old - start) (drop start old) (omega (arith, length-drop start old)) in
    let less : k < length part = omega (arith, whole, long) in
    let place : start + k - start ≡ k = omega arith in
    get_or-append_right (take start old) (part ++ rest) start (start + k) 0 front (omega arith) ∙ ap (λ n. get_or (part ++ rest) n 0) place ∙ get_or_append_left part rest 0 k less

pub part_before : (old tail : List ℕ) (start k : ℕ) → start ≤ length old → k < start → slice_index (take start old ++ tail) k ≡ slice_index old k
part_before old tail start k inside before =
    let front : length (take start old) ≡ start = length-take-le start old inside in
    get_or_append_left (take start old) tail 0 k (omega (arith, front)) ∙ get_or-take start old k 0 before

pub whole_put : (old part rest : List ℕ) (start : ℕ) → start ≤ length old → length part ≡ length (take (length old - start) (drop start old)) → rest ≡ drop (length old - start) (drop start old) → length (take start old ++ (part ++ rest)) ≡ length old
whole_put old part rest start room whole following =
    let front : length (take start old) ≡ start = length-take-le start old room in
    let long : length (take (length old - start) (drop start old)) ≡ length old - start = length-take-le (length old - start) (drop start old) (omega (arith, length-drop start old)) in
    let none : length rest ≡ 0 = ap (λ (r : List ℕ). length r) following ∙ length-drop (length old - start) (drop start old) ∙ omega (arith, length-drop start old) in
    omega (arith, length-append (take start old) (part ++ rest), length-append part rest, front, whole, long, none)

-- a sample after the start of a block that is unchanged in the part is unchanged in the whole
pub part_kept : (old part rest : List ℕ) (start k n : ℕ) → start ≤ length old → length part ≡ length (take (length old - start) (drop start old)) → rest ≡ drop (length old - start) (drop start old) → n ≡ start + k → slice_index part k ≡ slice_index (take (length old - start) (drop start old)) k → slice_index (take start old ++ (part ++ rest)) n ≡ slice_index old n
part_kept old part rest start k n room whole following place same =
    let long : length (take start old ++ (part ++ rest)) ≡ length old = whole_put old part rest start room whole following in
    elim (cases_lt n (length old)) [
      | inl within ↦
          let inside : start + k < length old = omega (arith, place, within) in
          rw place (part_new old part rest start k whole inside ∙ same ∙ part_old old start k inside)
      | inr out ↦ get_or-eq_default (take start old ++ (part ++ rest)) 0 (omega (arith, long, out)) ∙ sym (get_or-eq_default old 0 out)
    ]
