use Rattle.std.specs.Prelude.{ℕ, ◌+◌, ◌*◌, ◌/◌, ◌%◌, zero, suc, Bool, true, false, ◌&&◌, ◌||◌, nat_eq, nat_le, nat_lt, ℤ, pos, negsuc, List, [], ◌∷◌, length, slice_index, slice_index_or, unsigned_abs, if◌then◌else◌}
use Rattle.std.specs.Int.{from_bool}
use Rattle.bool_coder.specs.Reader.{read}
use Rattle.bool_coder.specs.Reading.{Reading, ◌>>=◌, give}

-- A tree is a list of pairs of entries, and a node is the index of a pair. An entry above 0 is a later node, any other is
-- a leaf, stored as its negative (RFC 6386, section 8.1).

-- an entry at an index of a tree of this size is a leaf or a later node
abbrev pub is_entry : ℕ → ℕ → ℤ → Bool
is_entry size place (pos node) = nat_eq node 0 || (nat_eq (node % 2) 0 && nat_lt place node && nat_lt node size)
is_entry size place (negsuc value) = true

abbrev pub are_entries : ℕ → ℕ → List ℤ → Bool
are_entries size place [] = true
are_entries size place (entry ∷ rest) = is_entry size place entry && are_entries size (suc place) rest

-- a tree of one pair at least, with a probability for each
abbrev pub is_tree : List ℤ → List ℕ → Bool
is_tree tree probs = nat_le 2 (length tree) && nat_eq (length tree % 2) 0 && nat_le (length tree) (2 * length probs) && are_entries (length tree) 0 tree

-- whether an entry is a node
abbrev pub is_node : ℤ → Bool
is_node (pos entry) = nat_lt 0 entry
is_node (negsuc value) = false

-- the leaf below a node, reached bit by bit; nodes increase, so the tree's length bounds their number
unfoldable pub leaf_below : ℕ → List ℤ → List ℕ → ℕ → Reading ℕ
leaf_below zero tree probs node = give 0
leaf_below (suc more) tree probs node = do
  bit ← read (slice_index probs (node / 2))
  let entry = slice_index_or tree (node + from_bool bit) (pos 0)
  if is_node entry then leaf_below more tree probs (unsigned_abs entry) else give (unsigned_abs entry)

-- the leaf of a tree, with a probability for each node (`treed_read` in RFC 6386, section 8.1)
unfoldable pub leaf : List ℤ → List ℕ → Reading ℕ
leaf tree probs = leaf_below (length tree) tree probs 0
