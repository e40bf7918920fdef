-- Walks down a tree: when they end, and which leaves they reach
use Rattle.std.proofs.Common.{◌≡◌, ℕ, zero, suc, ◌+◌, ◌/◌, Bool, true, false, List, slice_index_or, refl, arith}
use Rattle.std.specs.Prelude.{ℤ, pos, unsigned_abs, slice_index, ◌&&◌, if◌then◌else◌}
use Rattle.std.specs.Int.{from_bool}
use Rattle.std.proofs.lemmas.Bool.{and_parts}
use Rattle.bool_coder.specs.Reader.{Reader, read}
use Rattle.bool_coder.specs.Reading.{give}
use Rattle.bool_coder.specs.Trees.{is_node, leaf_below}

-- the entry on a side of a node
abbrev entry_at : List ℤ → ℕ → Bool → ℤ
entry_at tree node side = slice_index_or tree (node + from_bool side) (pos 0)

-- every walk from a node ends after so many bits, at a leaf that passes a test
abbrev pub all_below : ℕ → List ℤ → (ℕ → Bool) → ℕ → Bool
all_below zero tree test node = false
all_below (suc bits) tree test node = (if is_node (entry_at tree node false) then all_below bits tree test (unsigned_abs (entry_at tree node false)) else test (unsigned_abs (entry_at tree node false))) && (if is_node (entry_at tree node true) then all_below bits tree test (unsigned_abs (entry_at tree node true)) else test (unsigned_abs (entry_at tree node true)))

-- the same on one of its sides
side_below : (bits : ℕ) (tree : List ℤ) (test : ℕ → Bool) (node : ℕ) (side : Bool) → all_below (suc bits) tree test node ≡ true → (if is_node (entry_at tree node side) then all_below bits tree test (unsigned_abs (entry_at tree node side)) else test (unsigned_abs (entry_at tree node side))) ≡ true
side_below bits tree test node false all = (and_parts _ _ all).0
side_below bits tree test node true all = (and_parts _ _ all).1

-- more bits than are needed change nothing
pub leaf_below-more : (bits more : ℕ) (tree : List ℤ) (test : ℕ → Bool) (probs : List ℕ) (node : ℕ) (r : Reader) → all_below bits tree test node ≡ true → leaf_below (bits + more) tree probs node r ≡ leaf_below bits tree probs node r
unfolding leaf_below
leaf_below-more zero more tree test probs node r all = absurd (cc)
leaf_below-more (suc bits) more tree test probs node r all =
    let one_more : suc bits + more ≡ suc (bits + more) = omega arith in
    let next = read (slice_index probs (node / 2)) r in
    let entry = entry_at tree node next.0 in
    let past = leaf_below-more bits more tree test probs (unsigned_abs entry) next.1 in
    rw one_more (elim (is_node entry) as (λ b. (if b then all_below bits tree test (unsigned_abs entry) else test (unsigned_abs entry)) ≡ true → (if b then leaf_below (bits + more) tree probs (unsigned_abs entry) else give (unsigned_abs entry)) next.1 ≡ (if b then leaf_below bits tree probs (unsigned_abs entry) else give (unsigned_abs entry)) next.1) [ true ↦ past | false ↦ λ passes. refl ] (side_below bits tree test node next.0 all))

-- a walk ends at a leaf that passes
pub leaf_below-test : (bits : ℕ) (tree : List ℤ) (test : ℕ → Bool) (probs : List ℕ) (node : ℕ) (r : Reader) → all_below bits tree test node ≡ true → test (leaf_below bits tree probs node r).0 ≡ true
unfolding leaf_below
leaf_below-test zero tree test probs node r all = absurd (cc)
leaf_below-test (suc bits) tree test probs node r all =
    let next = read (slice_index probs (node / 2)) r in
    let entry = entry_at tree node next.0 in
    let past = leaf_below-test bits tree test probs (unsigned_abs entry) next.1 in
    elim (is_node entry) as (λ b. (if b then all_below bits tree test (unsigned_abs entry) else test (unsigned_abs entry)) ≡ true → test ((if b then leaf_below bits tree probs (unsigned_abs entry) else give (unsigned_abs entry)) next.1).0 ≡ true) [ true ↦ past | false ↦ λ passes. passes ] (side_below bits tree test node next.0 all)
