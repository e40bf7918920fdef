-- Where the elements of a list are among its chunks.
use Rattle.std.proofs.Common.{◌≡◌, ℕ, zero, suc, ◌+◌, ◌-◌, ◌*◌, ◌/◌, ◌%◌, ◌<◌, ◌≤◌, List, [], ◌∷◌, length, get_or, slice_get, slice_set, Some, inl, inr, refl, sym, ap, ◌∙◌, subst, arith}
use Rattle.std.proofs.lemmas.Bool.{cases_eq, cases_lt}
use Rattle.std.proofs.lemmas.List.{get_or-set_other, get_or-set_same, length-set}
use Rattle.std.specs.declared.collections.VecDeque.{VecDeque}
use Rattle.std.specs.List.{insert, remove}
use Rattle.chunked_list.specs.Moves.{moved}
use Rattle.chunked_list.specs.Chunks.{AreFull, before, joined, sizes}
use Rattle.chunked_list.proofs.Sizes.{all_before, as_many, found_in, full_before}

-- one chunk more
before_more : (k : ℕ) (sizes : List ℕ) → k < length sizes → before (suc k) sizes ≡ before k sizes + get_or sizes k 0
before_more k [] within = absurd (omega arith)
before_more zero (size ∷ sizes) within = omega arith
before_more (suc k) (size ∷ sizes) within = let rest : before (suc k) sizes ≡ before k sizes + get_or sizes k 0 = before_more k sizes (omega arith) in omega (arith, rest)

-- the chunk of an element, and its index there
pub record IsAt {T Z : Type 0} (at a r : ℕ) (chunks : List (VecDeque T Z)) : Type 0 where
  pub chunk : a < length chunks
  pub place : r < get_or (sizes chunks) a 0
  pub index : before a (sizes chunks) + r ≡ at

pub stored_at : {T Z : Type 0} (at a r : ℕ) (chunks : List (VecDeque T Z)) → AreFull 1024 (sizes chunks) → at < length (joined chunks) → a ≡ at / 1024 → r ≡ at % 1024 → IsAt at a r chunks
stored_at at a r chunks are within quotient rest =
    let all : length (joined chunks) ≡ before (length chunks) (sizes chunks) = all_before chunks in
    let many : length (sizes chunks) ≡ length chunks = as_many chunks in
    let whole : a * 1024 + r ≡ at = omega (arith, quotient, rest) in
    let every : before (length (sizes chunks)) (sizes chunks) ≡ before (length chunks) (sizes chunks) = ap (λ n. before n (sizes chunks)) many in
    let found = found_in 1024 a r (sizes chunks) are (omega (arith, rest)) (omega (arith, all, every, whole, within)) in
    let chunk : a < length (sizes chunks) = found.chunk in
    let first : before a (sizes chunks) ≡ a * 1024 = full_before 1024 a (sizes chunks) are chunk in
    record { chunk = omega (arith, chunk, many); place = found.place; index = omega (arith, first, whole) }

within_one : (a r last : ℕ) (sizes : List ℕ) → a ≤ last → r < 1024 → (a < last → get_or sizes a 0 ≡ 1024) → (a ≡ last → r ≤ get_or sizes last 0) → r ≤ get_or sizes a 0
within_one a r last sizes order below full end =
    elim (cases_lt a last) [
      | inl less ↦ (let all : get_or sizes a 0 ≡ 1024 = full less in omega (arith, all, below))
      | inr more ↦ (let same : a ≡ last = omega (arith, order, more) in subst (λ (k : ℕ). r ≤ get_or sizes k 0) (sym same) (end same))
    ]

-- the chunk in which an element is inserted, if the last one is not full
pub record HasPlace {T Z : Type 0} (at a r last : ℕ) (chunks : List (VecDeque T Z)) : Type 0 where
  pub order : a ≤ last
  pub within : r ≤ get_or (sizes chunks) a 0
  pub index : before a (sizes chunks) + r ≡ at

pub place_for : {T Z : Type 0} (at a r last : ℕ) (chunks : List (VecDeque T Z)) → AreFull 1024 (sizes chunks) → last + 1 ≡ length chunks → get_or (sizes chunks) last 0 < 1024 → at ≤ length (joined chunks) → a ≡ at / 1024 → r ≡ at % 1024 → HasPlace at a r last chunks
place_for at a r last chunks are end below within quotient rest =
    let ns : List ℕ = sizes chunks in
    let many : length ns ≡ length chunks = as_many chunks in
    let last_in : last < length ns = omega (arith, many, end) in
    let all : length (joined chunks) ≡ before (length chunks) ns = all_before chunks in
    let counted : before (length chunks) ns ≡ before (suc last) ns = ap (λ n. before n ns) (let one : length chunks ≡ suc last = omega (arith, end) in one) in
    let more : before (suc last) ns ≡ before last ns + get_or ns last 0 = before_more last ns last_in in
    let full : before last ns ≡ last * 1024 = full_before 1024 last ns are last_in in
    let whole : a * 1024 + r ≡ at = omega (arith, quotient, rest) in
    let order : a ≤ last = omega (arith, all, counted, more, full, whole, within, below) in
    let first : before a ns ≡ a * 1024 = full_before 1024 a ns are (omega (arith, order, last_in)) in
    record {
      order = order;
      within = within_one a r last ns order (omega (arith, rest)) (λ less. are.full a (omega (arith, less, last_in))) (λ same. omega (arith, same, all, counted, more, full, whole, within));
      index = omega (arith, first, whole);
    }

last_of : (most last n k : ℕ) (sizes : List ℕ) → AreFull most sizes → last + 1 ≡ length sizes → n ≤ most → k < length sizes → get_or (slice_set sizes last n) k 0 ≤ most
last_of most last n k sizes are end fits within =
    elim (cases_eq k last) [
      | inl same ↦ (let here : get_or (slice_set sizes last n) k 0 ≡ n = ap (λ (i : ℕ). get_or (slice_set sizes last n) i 0) same ∙ get_or-set_same sizes last n 0 (omega (arith, end)) in omega (arith, here, fits))
      | inr other ↦ (let there : get_or (slice_set sizes last n) k 0 ≡ get_or sizes k 0 = get_or-set_other sizes last k n 0 other in let few : get_or sizes k 0 ≤ most = are.last k within in omega (arith, there, few))
    ]

-- the size of the last chunk may change
pub full_set : (most last n : ℕ) (sizes : List ℕ) → AreFull most sizes → last + 1 ≡ length sizes → n ≤ most → AreFull most (slice_set sizes last n)
full_set most last n sizes are end fits =
    let long : length (slice_set sizes last n) ≡ length sizes = length-set sizes last n in
    record {
      full = λ k less. get_or-set_other sizes last k n 0 (λ same. omega (arith, same, less, long, end)) ∙ are.full k (omega (arith, less, long));
      last = λ k less. last_of most last n k sizes are end fits (omega (arith, less, long));
    }

-- an index within a chunk that is not the one that lost an element, or within what is left of it
pub within_set : (last b r : ℕ) (sizes : List ℕ) → last < length sizes → r < get_or sizes b 0 → r ≤ get_or (slice_set sizes last (get_or sizes last 0 - 1)) b 0
within_set last b r sizes within less =
    elim (cases_eq b last) [
      | inl same ↦ (
          let here : get_or (slice_set sizes last (get_or sizes last 0 - 1)) b 0 ≡ get_or sizes last 0 - 1 = ap (λ (i : ℕ). get_or (slice_set sizes last (get_or sizes last 0 - 1)) i 0) same ∙ get_or-set_same sizes last (get_or sizes last 0 - 1) 0 within in
          let size : get_or sizes b 0 ≡ get_or sizes last 0 = ap (λ (i : ℕ). get_or sizes i 0) same in
          omega (arith, here, size, less))
      | inr other ↦ (let there : get_or (slice_set sizes last (get_or sizes last 0 - 1)) b 0 ≡ get_or sizes b 0 = get_or-set_other sizes last b (get_or sizes last 0 - 1) 0 other in omega (arith, there, less))
    ]

-- a chunk that lost an element and took another one
pub set_back : (last : ℕ) (sizes : List ℕ) → last < length sizes → 0 < get_or sizes last 0 → slice_set (slice_set sizes last (get_or sizes last 0 - 1)) last (get_or (slice_set sizes last (get_or sizes last 0 - 1)) last 0 + 1) ≡ sizes
set_back last [] within some = absurd (omega arith)
set_back zero (size ∷ sizes) within some = let one : size - 1 + 1 ≡ size = omega (arith, some) in ap (λ n. n ∷ sizes) one
set_back (suc last) (size ∷ sizes) within some = ap (λ ns. size ∷ ns) (set_back last sizes (omega arith) some)

-- a move of an element that exists
pub moved_is : {T : Type 0} (from to : ℕ) (xs : List T) (x : T) → slice_get xs from ≡ Some x → moved from to xs ≡ insert (remove xs from) to x
moved_is from to xs x here = rw here refl
