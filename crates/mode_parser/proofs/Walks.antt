-- One bit of a walk down a tree, by the side to which it goes
use Rattle.std.proofs.Common.{◌≡◌, ℕ, suc, ◌+◌, ◌/◌, Bool, true, false, List, slice_index_or, refl}
use Rattle.std.specs.Prelude.{ℤ, pos, unsigned_abs, slice_index}
use Rattle.std.specs.Int.{from_bool}
use Rattle.bool_coder.specs.Reader.{Reader, read}
use Rattle.bool_coder.specs.Trees.{is_node, leaf_below}

pub leaf_below-on : (pairs : ℕ) (tree : List ℤ) (nodes : List ℕ) (node : ℕ) (r s : Reader) (bit side : Bool) → read (slice_index nodes (node / 2)) r ≡ (bit, s) → bit ≡ side → is_node (slice_index_or tree (node + from_bool side) (pos 0)) ≡ true → leaf_below (suc pairs) tree nodes node r ≡ leaf_below pairs tree nodes (unsigned_abs (slice_index_or tree (node + from_bool side) (pos 0))) s
unfolding leaf_below
leaf_below-on pairs tree nodes node r s bit side told is leads = rw (told, is, leads) refl

pub leaf_below-end : (pairs : ℕ) (tree : List ℤ) (nodes : List ℕ) (node : ℕ) (r s : Reader) (bit side : Bool) → read (slice_index nodes (node / 2)) r ≡ (bit, s) → bit ≡ side → is_node (slice_index_or tree (node + from_bool side) (pos 0)) ≡ false → leaf_below (suc pairs) tree nodes node r ≡ (unsigned_abs (slice_index_or tree (node + from_bool side) (pos 0)), s)
unfolding leaf_below
leaf_below-end pairs tree nodes node r s bit side told is ends = rw (told, is, ends) refl

-- the last bit of a walk, to one of two leaves that follow one another
pub leaf_below-last : (pairs : ℕ) (tree : List ℤ) (nodes : List ℕ) (node number : ℕ) (r s : Reader) (bit : Bool) → read (slice_index nodes (node / 2)) r ≡ (bit, s) → is_node (slice_index_or tree (node + 0) (pos 0)) ≡ false → is_node (slice_index_or tree (node + 1) (pos 0)) ≡ false → unsigned_abs (slice_index_or tree (node + 0) (pos 0)) ≡ number + 0 → unsigned_abs (slice_index_or tree (node + 1) (pos 0)) ≡ number + 1 → leaf_below (suc pairs) tree nodes node r ≡ (number + from_bool bit, s)
leaf_below-last pairs tree nodes node number r s false told first second is_first is_second = rw (← is_first) (leaf_below-end pairs tree nodes node r s false false told refl first)
leaf_below-last pairs tree nodes node number r s true told first second is_first is_second = rw (← is_second) (leaf_below-end pairs tree nodes node r s true true told refl second)

-- the same, to the leaves 0 and 1
pub leaf_below-flag : (pairs : ℕ) (tree : List ℤ) (nodes : List ℕ) (node : ℕ) (r s : Reader) (bit : Bool) → read (slice_index nodes (node / 2)) r ≡ (bit, s) → is_node (slice_index_or tree (node + 0) (pos 0)) ≡ false → is_node (slice_index_or tree (node + 1) (pos 0)) ≡ false → unsigned_abs (slice_index_or tree (node + 0) (pos 0)) ≡ 0 → unsigned_abs (slice_index_or tree (node + 1) (pos 0)) ≡ 1 → leaf_below (suc pairs) tree nodes node r ≡ (from_bool bit, s)
leaf_below-flag pairs tree nodes node r s false told first second is_first is_second = rw (← is_first) (leaf_below-end pairs tree nodes node r s false false told refl first)
leaf_below-flag pairs tree nodes node r s true told first second is_first is_second = rw (← is_second) (leaf_below-end pairs tree nodes node r s true true told refl second)
