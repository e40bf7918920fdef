-- How many elements chunks have.
use Rattle.std.proofs.Common.{◌≡◌, ℕ, zero, suc, ◌+◌, ◌-◌, ◌*◌, ◌<◌, ◌≤◌, List, [], ◌∷◌, length, get_or, slice_set, take, refl, sym, ap, ◌∙◌, arith, length-append}
use Rattle.std.proofs.lemmas.List.{get_or-take, length-take-le}
use Rattle.std.specs.declared.collections.VecDeque.{VecDeque}
use Rattle.chunked_list.specs.Chunks.{AreFull, before, joined, rooms, sizes}

module _ {T Z : Type 0} where
  -- the size of chunk k
  pub size_at : (k : ℕ) (chunks : List (VecDeque T Z)) (q : VecDeque T Z) → k < length chunks → q ≡ get_or chunks k q → get_or (sizes chunks) k 0 ≡ q.len
  size_at k [] q within is = absurd (omega arith)
  size_at zero (chunk ∷ chunks) q within is = ap (λ (c : VecDeque T Z). c.len) (sym is)
  size_at (suc k) (chunk ∷ chunks) q within is = size_at k chunks q (omega arith) is

  pub room_at : (k : ℕ) (chunks : List (VecDeque T Z)) (q : VecDeque T Z) → k < length chunks → q ≡ get_or chunks k q → get_or (rooms chunks) k 0 ≡ q.cap - q.len
  room_at k [] q within is = absurd (omega arith)
  room_at zero (chunk ∷ chunks) q within is = ap (λ (c : VecDeque T Z). c.cap - c.len) (sym is)
  room_at (suc k) (chunk ∷ chunks) q within is = room_at k chunks q (omega arith) is

  -- a chunk that is changed
  pub sizes_set : (k : ℕ) (chunks : List (VecDeque T Z)) (q : VecDeque T Z) → sizes (slice_set chunks k q) ≡ slice_set (sizes chunks) k q.len
  sizes_set k [] q = refl
  sizes_set zero (chunk ∷ chunks) q = refl
  sizes_set (suc k) (chunk ∷ chunks) q = ap (λ ns. chunk.len ∷ ns) (sizes_set k chunks q)

  pub sizes_same : (k : ℕ) (chunks : List (VecDeque T Z)) (old new : VecDeque T Z) → k < length chunks → old ≡ get_or chunks k old → new.len ≡ old.len → sizes (slice_set chunks k new) ≡ sizes chunks
  sizes_same k [] old new within is same = absurd (omega arith)
  sizes_same zero (chunk ∷ chunks) old new within is same = ap (λ n. n ∷ sizes chunks) (same ∙ ap (λ (q : VecDeque T Z). q.len) is)
  sizes_same (suc k) (chunk ∷ chunks) old new within is same = ap (λ ns. chunk.len ∷ ns) (sizes_same k chunks old new (omega arith) is same)

  -- the room of the changed chunk, and of the others
  pub room_here : (k : ℕ) (chunks : List (VecDeque T Z)) (q : VecDeque T Z) → k < length chunks → get_or (rooms (slice_set chunks k q)) k 0 ≡ q.cap - q.len
  room_here k [] q within = absurd (omega arith)
  room_here zero (chunk ∷ chunks) q within = refl
  room_here (suc k) (chunk ∷ chunks) q within = room_here k chunks q (omega arith)

  pub room_other : (k m : ℕ) (chunks : List (VecDeque T Z)) (q : VecDeque T Z) → k < m → get_or (rooms (slice_set chunks k q)) m 0 ≡ get_or (rooms chunks) m 0
  room_other k m [] q less = refl
  room_other k zero (chunk ∷ chunks) q less = absurd (omega (arith, less))
  room_other zero (suc m) (chunk ∷ chunks) q less = refl
  room_other (suc k) (suc m) (chunk ∷ chunks) q less = room_other k m chunks q (omega (arith, less))

  -- the first chunks
  pub sizes_take : (k : ℕ) (chunks : List (VecDeque T Z)) → sizes (take k chunks) ≡ take k (sizes chunks)
  sizes_take zero chunks = refl
  sizes_take (suc k) [] = refl
  sizes_take (suc k) (chunk ∷ chunks) = ap (λ ns. chunk.len ∷ ns) (sizes_take k chunks)

  -- there is a size for each chunk
  pub as_many : (chunks : List (VecDeque T Z)) → length (sizes chunks) ≡ length chunks
  as_many [] = refl
  as_many (chunk ∷ chunks) = ap suc (as_many chunks)

  -- the number of all elements
  pub all_before : (chunks : List (VecDeque T Z)) → length (joined chunks) ≡ before (length chunks) (sizes chunks)
  all_before [] = refl
  all_before (chunk ∷ chunks) =
      length-append chunk.items (joined chunks) ∙ ap (λ n. n + length (joined chunks)) (sym chunk.ok.0) ∙ ap (λ n. chunk.len + n) (all_before chunks)

-- what is before a chunk does not change with it
pub before_set : (k m n : ℕ) (sizes : List ℕ) → k ≤ m → before k (slice_set sizes m n) ≡ before k sizes
before_set zero m n sizes order = refl
before_set (suc k) m n [] order = refl
before_set (suc k) zero n (size ∷ sizes) order = absurd (omega (arith, order))
before_set (suc k) (suc m) n (size ∷ sizes) order = ap (λ i. size + i) (before_set k m n sizes (omega (arith, order)))

-- the chunks after the first one
rest_full : (most size : ℕ) (sizes : List ℕ) → AreFull most (size ∷ sizes) → AreFull most sizes
rest_full most size sizes are = record {
  full = λ k within. are.full (suc k) (omega (arith, within));
  last = λ k within. are.last (suc k) (omega (arith, within));
}

-- full chunks before chunk k
pub full_before : (most k : ℕ) (sizes : List ℕ) → AreFull most sizes → k < length sizes → before k sizes ≡ k * most
full_before most k [] are within = absurd (omega arith)
full_before most zero (size ∷ sizes) are within = omega arith
full_before most (suc k) (size ∷ sizes) are within =
    let here : size ≡ most = are.full 0 (omega (arith, within)) in
    let rest : before k sizes ≡ k * most = full_before most k sizes (rest_full most size sizes are) (omega arith) in
    omega (arith, here, rest)

-- the first chunks of full ones are full
pub full_taken : (most k : ℕ) (sizes : List ℕ) → AreFull most sizes → k < length sizes → AreFull most (take k sizes)
full_taken most k sizes are within =
    let long : length (take k sizes) ≡ k = length-take-le k sizes (omega (arith, within)) in
    record {
      full = λ i less. get_or-take k sizes i 0 (omega (arith, long, less)) ∙ are.full i (omega (arith, long, less, within));
      last = λ i less.
          let same : get_or (take k sizes) i 0 ≡ get_or sizes i 0 = get_or-take k sizes i 0 (omega (arith, long, less)) in
          let all : get_or sizes i 0 ≡ most = are.full i (omega (arith, long, less, within)) in
          omega (arith, same, all);
    }

pub last_taken : (most k : ℕ) (sizes : List ℕ) → 0 < most → AreFull most sizes → k < length sizes → 0 < length (take k sizes) → 0 < get_or (take k sizes) (length (take k sizes) - 1) 0
last_taken most k sizes some are within filled =
    let long : length (take k sizes) ≡ k = length-take-le k sizes (omega (arith, within)) in
    let same : get_or (take k sizes) (length (take k sizes) - 1) 0 ≡ get_or sizes (length (take k sizes) - 1) 0 = get_or-take k sizes (length (take k sizes) - 1) 0 (omega (arith, long, filled)) in
    let all : get_or sizes (length (take k sizes) - 1) 0 ≡ most = are.full (length (take k sizes) - 1) (omega (arith, long, filled, within)) in
    omega (arith, same, all, some)

-- an index among the elements is one of a chunk
pub record IsIn (most a r : ℕ) (sizes : List ℕ) : Type 0 where
  pub chunk : a < length sizes
  pub place : r < get_or sizes a 0

pub found_in : (most a r : ℕ) (sizes : List ℕ) → AreFull most sizes → r < most → a * most + r < before (length sizes) sizes → IsIn most a r sizes
found_in most a r [] are below within = absurd (omega arith)
found_in most zero r (size ∷ []) are below within = record { chunk = omega arith; place = omega (arith, within) }
found_in most zero r (size ∷ next ∷ sizes) are below within =
    let here : size ≡ most = are.full 0 (omega arith) in
    record { chunk = omega arith; place = omega (arith, here, below) }
found_in most (suc a) r (size ∷ sizes) are below within =
    let here : size ≤ most = are.last 0 (omega arith) in
    let rest = found_in most a r sizes (rest_full most size sizes are) below (omega (arith, here, within)) in
    record { chunk = let more : a < length sizes = rest.chunk in omega (arith, more); place = rest.place }
