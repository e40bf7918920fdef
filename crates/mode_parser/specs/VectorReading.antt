-- How a motion vector is read (RFC 6386, section 17.1).
use Rattle.std.specs.Prelude.{ℕ, ◌+◌, ◌*◌, ◌^◌, ◌==◌, nat_lt, ℤ, pos, neg_ℤ, List, [], ◌∷◌, slice_index, slice_index_or, slice_range, if◌then◌else◌}
use Rattle.std.specs.Int.{from_bool}
use Rattle.bool_coder.specs.Reader.{read}
use Rattle.bool_coder.specs.Reading.{Reading, ◌>>=◌, give}
use Rattle.bool_coder.specs.Trees.{leaf}
use Rattle.vp8_tables.specs.declared.vectors.TheConstants.{SHORT_VECTOR_TREE, LONG_VECTOR_BITS}
use Rattle.mode_parser.specs.Vectors.{MotionVector}

-- the number that has the bits at these indices, each read with the probability at its index
unfoldable pub bits_at : List ℕ → List ℕ → Reading ℕ
bits_at [] probabilities = give 0
bits_at (place ∷ places) probabilities = do
  bit ← read (slice_index probabilities (9 + place))
  rest ← bits_at places probabilities
  give (2 ^ place * from_bool bit + rest)

-- a long size, which is 8 or more: bit 3 is read last, and is 1, and not read, if no bit above it is set
unfoldable pub long_size : List ℕ → Reading ℕ
long_size probabilities = do
  size ← bits_at LONG_VECTOR_BITS probabilities
  if nat_lt size 16 then give (size + 8) else (do
    bit ← read (slice_index probabilities 12)
    give (size + 8 * from_bool bit))

-- a short size, which is 7 or less
unfoldable pub short_size : List ℕ → Reading ℕ
short_size probabilities = leaf SHORT_VECTOR_TREE (slice_range probabilities 2 9)

unfoldable pub vector_size : List ℕ → Reading ℕ
vector_size probabilities = do
  is_long ← read (slice_index probabilities 0)
  if is_long then long_size probabilities else short_size probabilities

-- a component by its 19 probabilities: its size, and if that is not 0 its sign, 1 for minus
unfoldable pub vector_component : List ℕ → Reading ℤ
vector_component probabilities = do
  n ← vector_size probabilities
  if n == 0 then give (pos 0) else (do
    is_minus ← read (slice_index probabilities 1)
    give (if is_minus then neg_ℤ (pos n) else pos n))

-- a vector by the probabilities of its row and of its column: its row, then its column
unfoldable pub new_vector : List (List ℕ) → Reading MotionVector
new_vector probabilities = do
  down ← vector_component (slice_index_or probabilities 0 [])
  right ← vector_component (slice_index_or probabilities 1 [])
  give (record { x = right; y = down })
