-- A list that is stored as chunks.
use Rattle.std.specs.Prelude.{◌≡◌, ℕ, zero, suc, ◌+◌, ◌-◌, ◌<◌, ◌≤◌, List, [], ◌∷◌, length, map, slice_index}
use Rattle.std.specs.List.{flat_map}
use Rattle.std.specs.VecDeque.{deque_capacity, deque_len}
use Rattle.std.specs.declared.collections.VecDeque.{VecDeque}

module _ {T Z : Type 0} where
  -- the elements of the chunks, one chunk after another
  abbrev pub joined : List (VecDeque T Z) → List T
  joined chunks = flat_map (λ chunk. chunk.items) chunks

  -- how many elements each chunk has
  abbrev pub sizes : List (VecDeque T Z) → List ℕ
  sizes chunks = map (λ chunk. deque_len chunk) chunks

  -- how many more elements each chunk has room for
  abbrev pub rooms : List (VecDeque T Z) → List ℕ
  rooms chunks = map (λ chunk. deque_capacity chunk - deque_len chunk) chunks

-- how many elements chunks of these sizes have before chunk k
abbrev pub before : ℕ → List ℕ → ℕ
before zero sizes = 0
before (suc k) [] = 0
before (suc k) (size ∷ sizes) = size + before k sizes

-- each chunk has `most` elements, except for the last, which has at most as many
pub record AreFull (most : ℕ) (sizes : List ℕ) : Type 0 where
  pub full : (k : ℕ) → k + 1 < length sizes → slice_index sizes k ≡ most
  pub last : (k : ℕ) → k < length sizes → slice_index sizes k ≤ most

-- the chunks are full, except for the last, and have so many elements
pub record IsStored {T Z : Type 0} (most : ℕ) (chunks : List (VecDeque T Z)) (count : ℕ) : Type 0 where
  pub counted : count ≡ length (joined chunks)
  pub full : AreFull most (sizes chunks)
