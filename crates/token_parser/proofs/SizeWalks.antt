-- Sizes by the bits that lead to them
use Rattle.std.proofs.Common.{◌≡◌, ℕ, suc, ◌+◌, ◌-◌, ◌/◌, Bool, true, false, List, [], slice_index_or, refl}
use Rattle.std.specs.Prelude.{ℤ, pos, unsigned_abs, slice_index, nat_lt}
use Rattle.std.specs.Int.{from_bool}
use Rattle.bool_coder.specs.Reader.{Reader, read}
use Rattle.bool_coder.specs.Trees.{is_node, leaf_below}
use Rattle.token_parser.specs.TokenTree.{token_tree, categories, size_in, size_of}
use Rattle.token_parser.specs.Walks.{size_below}

abbrev entry_at : ℕ → Bool → ℤ
entry_at node side = slice_index_or token_tree (node + from_bool side) (pos 0)

-- a bit that leads to a node
pub size_below-on : (bits node : ℕ) (nodes : List ℕ) (r s : Reader) (bit side : Bool) → read (slice_index nodes (node / 2)) r ≡ (bit, s) → bit ≡ side → is_node (entry_at node side) ≡ true → size_below (suc bits) nodes node r ≡ size_below bits nodes (unsigned_abs (entry_at node side)) s
unfolding leaf_below
size_below-on bits node nodes r s bit side tokens_read is leads = rw (tokens_read, is, leads) refl

-- a bit that leads to a size
pub size_below-small : (bits node : ℕ) (nodes : List ℕ) (r s : Reader) (bit side : Bool) → read (slice_index nodes (node / 2)) r ≡ (bit, s) → bit ≡ side → is_node (entry_at node side) ≡ false → nat_lt (unsigned_abs (entry_at node side)) 5 ≡ true → size_below (suc bits) nodes node r ≡ (unsigned_abs (entry_at node side), s)
unfolding leaf_below size_of
size_below-small bits node nodes r s bit side tokens_read is ends small = rw (tokens_read, is, ends, small) refl

-- a bit that leads to a category
pub size_below-in : (bits node : ℕ) (nodes : List ℕ) (r s t : Reader) (bit side : Bool) (category : ℕ × List ℕ) (size : ℕ) → read (slice_index nodes (node / 2)) r ≡ (bit, s) → bit ≡ side → is_node (entry_at node side) ≡ false → nat_lt (unsigned_abs (entry_at node side)) 5 ≡ false → slice_index_or categories (unsigned_abs (entry_at node side) - 5) (0, []) ≡ category → size_in category.0 category.1 s ≡ (size, t) → size_below (suc bits) nodes node r ≡ (size, t)
unfolding leaf_below size_of
size_below-in bits node nodes r s t bit side category size tokens_read is ends large which extra = rw (tokens_read, is, ends, large, which, extra) refl
