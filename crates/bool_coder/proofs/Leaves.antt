use Rattle.std.proofs.Common.{◌≡◌, ℕ, zero, suc, ◌+◌, ◌*◌, ◌/◌, ◌%◌, ◌<◌, ◌≤◌, Bool, true, false, List, [], ◌∷◌, length, slice_index_or, refl, sym, ◌∙◌, arith, inl, inr}
use Rattle.std.specs.Prelude.{◌⊎◌, ℤ, pos, negsuc, unsigned_abs, slice_index, nat_lt, nat_eq, ◌&&◌, ◌||◌}
use Rattle.std.specs.Int.{from_bool}
use Rattle.std.specs.Int.Signed.{le_z}
use Rattle.std.proofs.lemmas.Bool.{and_parts, eqb-true, leb-true}
use Rattle.std.proofs.lemmas.Bool.Decides.{nat_tests}
use Rattle.bool_coder.specs.Reader.{Reader, read}
use Rattle.bool_coder.specs.Trees.{is_entry, are_entries, is_tree, is_node, leaf_below, leaf}
use Rattle.bool_coder.proofs.Literals.{from_bool-le_one}

-- the facts of the test of a tree
pub record Tree (tree : List ℤ) (probs : List ℕ) : Type 0 where
  pub some : 2 ≤ length tree
  pub even : length tree % 2 ≡ 0
  pub probable : length tree ≤ 2 * length probs
  pub entries : (k : ℕ) → k < length tree → is_entry (length tree) k (slice_index_or tree k (pos 0)) ≡ true

are_entries-at : (size base : ℕ) (tree : List ℤ) → are_entries size base tree ≡ true → (k : ℕ) → k < length tree → is_entry size (base + k) (slice_index_or tree k (pos 0)) ≡ true
are_entries-at size base [] all k below = absurd (omega arith)
are_entries-at size base (entry ∷ rest) all zero below =
    let here : base + 0 ≡ base = omega arith in rw here (and_parts _ _ all).0
are_entries-at size base (entry ∷ rest) all (suc k) below =
    let there : base + suc k ≡ suc base + k = omega arith in
    rw there (are_entries-at size (suc base) rest (and_parts _ _ all).1 k (omega arith))

pub tree_of : (tree : List ℤ) (probs : List ℕ) → is_tree tree probs ≡ true → Tree tree probs
tree_of tree probs is =
    let last = and_parts _ _ is in
    let third = and_parts _ _ last.0 in
    let second = and_parts _ _ third.0 in
    record {
      some = leb-true _ _ second.0;
      even = eqb-true _ _ second.1;
      probable = leb-true _ _ third.1;
      entries = λ k below. (let base : 0 + k ≡ k = omega arith in rw base at (are_entries-at (length tree) 0 tree last.1 k below));
    }

-- a node is the index of a pair
pub record Node (tree : List ℤ) (place : ℕ) : Type 0 where
  pub even : place % 2 ≡ 0
  pub inside : place + 1 < length tree

-- an entry above 0 is a later node
pub record Later (size place node : ℕ) : Type 0 where
  pub even : node % 2 ≡ 0
  pub later : place < node
  pub inside : node + 1 < size

entry_later : (size place node : ℕ) → size % 2 ≡ 0 → (nat_eq node 0 || (nat_eq (node % 2) 0 && nat_lt place node && nat_lt node size)) ≡ true → nat_lt 0 node ≡ true → Later size place node
entry_later size place node even is leads =
    let pair : node % 2 ≡ 0 = grind (arith, nat_tests) in
    let later : place < node = grind (arith, nat_tests) in
    let inside : node < size = grind (arith, nat_tests) in
    record { even = pair; later = later; inside = omega arith }

entry_node : (size place : ℕ) (entry : ℤ) → size % 2 ≡ 0 → is_entry size place entry ≡ true → is_node entry ≡ true → Later size place (unsigned_abs entry)
entry_node size place (pos node) even is leads = entry_later size place node even is leads
entry_node size place (negsuc value) even is leads = absurd (cc)

pub is_node-leaf : (entry : ℤ) → le_z entry (pos 0) ≡ true → is_node entry ≡ false
is_node-leaf (pos node) ends = grind (arith, nat_tests)
is_node-leaf (negsuc value) ends = refl

pub is_node-node : (entry : ℤ) → le_z entry (pos 0) ≡ false → is_node entry ≡ true
is_node-node (pos node) leads = grind (arith, nat_tests)
is_node-node (negsuc value) leads = absurd (cc)

-- the walk is at a node, from which it leads to the leaf of the tree
pub record StandsAt (tree : List ℤ) (probs : List ℕ) (start r : Reader) (place : ℕ) : Type 0 where
  pub node : Node tree place
  pub fuel : ℕ
  pub enough : length tree ≤ place + fuel
  pub same : leaf_below fuel tree probs place r ≡ leaf tree probs start

pub stands-start : (tree : List ℤ) (probs : List ℕ) (r : Reader) → is_tree tree probs ≡ true → StandsAt tree probs r r 0
unfolding leaf
stands-start tree probs r is =
    let facts : Tree tree probs = tree_of tree probs is in
    record {
      node = record { even = refl; inside = omega arith };
      fuel = length tree;
      enough = omega arith;
      same = refl;
    }

leaf_below-end : (fuel : ℕ) (tree : List ℤ) (probs : List ℕ) (place : ℕ) (r s : Reader) (bit : Bool) → read (slice_index probs (place / 2)) r ≡ (bit, s) → is_node (slice_index_or tree (place + from_bool bit) (pos 0)) ≡ false → leaf_below (suc fuel) tree probs place r ≡ (unsigned_abs (slice_index_or tree (place + from_bool bit) (pos 0)), s)
unfolding leaf_below
leaf_below-end fuel tree probs place r s bit told ends = rw (told, ends) refl

leaf_below-on : (fuel : ℕ) (tree : List ℤ) (probs : List ℕ) (place : ℕ) (r s : Reader) (bit : Bool) → read (slice_index probs (place / 2)) r ≡ (bit, s) → is_node (slice_index_or tree (place + from_bool bit) (pos 0)) ≡ true → leaf_below (suc fuel) tree probs place r ≡ leaf_below fuel tree probs (unsigned_abs (slice_index_or tree (place + from_bool bit) (pos 0))) s
unfolding leaf_below
leaf_below-on fuel tree probs place r s bit told leads = rw (told, leads) refl

-- a bit that leads to a leaf ends the walk
end_at : (tree : List ℤ) (probs : List ℕ) (start r s : Reader) (bit : Bool) (place fuel : ℕ) → Node tree place → length tree ≤ place + fuel → leaf_below fuel tree probs place r ≡ leaf tree probs start → read (slice_index probs (place / 2)) r ≡ (bit, s) → is_node (slice_index_or tree (place + from_bool bit) (pos 0)) ≡ false → leaf tree probs start ≡ (unsigned_abs (slice_index_or tree (place + from_bool bit) (pos 0)), s)
end_at tree probs start r s bit place zero node enough same told ends = absurd (omega arith)
end_at tree probs start r s bit place (suc fuel) node enough same told ends = sym same ∙ leaf_below-end fuel tree probs place r s bit told ends

pub stands-end : (tree : List ℤ) (probs : List ℕ) (start r s : Reader) (bit : Bool) (place : ℕ) → StandsAt tree probs start r place → read (slice_index probs (place / 2)) r ≡ (bit, s) → le_z (slice_index_or tree (place + from_bool bit) (pos 0)) (pos 0) ≡ true → leaf tree probs start ≡ (unsigned_abs (slice_index_or tree (place + from_bool bit) (pos 0)), s)
stands-end tree probs start r s bit place stands told ends =
    end_at tree probs start r s bit place stands.fuel stands.node stands.enough stands.same told (is_node-leaf (slice_index_or tree (place + from_bool bit) (pos 0)) ends)

-- another moves it to a later node
pub record Moved (tree : List ℤ) (probs : List ℕ) (start s : Reader) (place node : ℕ) : Type 0 where
  pub stands : StandsAt tree probs start s node
  pub later : place < node

move_at : (tree : List ℤ) (probs : List ℕ) (start r s : Reader) (bit : Bool) (place fuel node : ℕ) → Tree tree probs → Node tree place → length tree ≤ place + fuel → leaf_below fuel tree probs place r ≡ leaf tree probs start → read (slice_index probs (place / 2)) r ≡ (bit, s) → is_node (slice_index_or tree (place + from_bool bit) (pos 0)) ≡ true → node ≡ unsigned_abs (slice_index_or tree (place + from_bool bit) (pos 0)) → Moved tree probs start s place node
move_at tree probs start r s bit place zero node facts stands enough same told leads next = absurd (omega arith)
move_at tree probs start r s bit place (suc fuel) node facts stands enough same told leads next =
    let small : from_bool bit ≤ 1 = from_bool-le_one bit in
    let here : place + from_bool bit < length tree = omega arith in
    let found : Later (length tree) (place + from_bool bit) (unsigned_abs (slice_index_or tree (place + from_bool bit) (pos 0))) = entry_node (length tree) (place + from_bool bit) (slice_index_or tree (place + from_bool bit) (pos 0)) facts.even (facts.entries _ here) leads in
    record {
      stands = record {
        node = record { even = rw next found.even; inside = rw next found.inside };
        fuel = fuel;
        enough = omega arith;
        same = rw next (sym (leaf_below-on fuel tree probs place r s bit told leads) ∙ same);
      };
      later = omega arith;
    }

pub stands-moved : (tree : List ℤ) (probs : List ℕ) (start r s : Reader) (bit : Bool) (place node : ℕ) → is_tree tree probs ≡ true → StandsAt tree probs start r place → read (slice_index probs (place / 2)) r ≡ (bit, s) → le_z (slice_index_or tree (place + from_bool bit) (pos 0)) (pos 0) ≡ false → node ≡ unsigned_abs (slice_index_or tree (place + from_bool bit) (pos 0)) → Moved tree probs start s place node
stands-moved tree probs start r s bit place node is stands told leads next =
    move_at tree probs start r s bit place stands.fuel node (tree_of tree probs is) stands.node stands.enough stands.same told (is_node-node (slice_index_or tree (place + from_bool bit) (pos 0)) leads) next

either : (b : Bool) → (b ≡ true) ⊎ (b ≡ false)
either true = inl refl
either false = inr refl

-- a walk from a node ends before a fuel that reaches the tree's end is used up
pub leaf_below-more : (tree : List ℤ) (probs : List ℕ) → Tree tree probs → (fuel more place : ℕ) (r : Reader) → Node tree place → length tree ≤ place + fuel → leaf_below (fuel + more) tree probs place r ≡ leaf_below fuel tree probs place r
leaf_below-more tree probs facts zero more place r node enough = absurd (omega arith)
leaf_below-more tree probs facts (suc fuel) more place r node enough =
    let next : suc fuel + more ≡ suc (fuel + more) = omega arith in
    let bit : Bool = (read (slice_index probs (place / 2)) r).0 in
    let s : Reader = (read (slice_index probs (place / 2)) r).1 in
    let entry : ℤ = slice_index_or tree (place + from_bool bit) (pos 0) in
    let small : from_bool bit ≤ 1 = from_bool-le_one bit in
    let here : place + from_bool bit < length tree = omega arith in
    rw next
    (elim (either (is_node entry)) [
      | inl leads ↦
          let found : Later (length tree) (place + from_bool bit) (unsigned_abs entry) = entry_node (length tree) (place + from_bool bit) entry facts.even (facts.entries _ here) leads in
          leaf_below-on (fuel + more) tree probs place r s bit refl leads ∙ leaf_below-more tree probs facts fuel more (unsigned_abs entry) s (record { even = found.even; inside = found.inside }) (omega arith) ∙ sym (leaf_below-on fuel tree probs place r s bit refl leads)
      | inr ends ↦ leaf_below-end (fuel + more) tree probs place r s bit refl ends ∙ sym (leaf_below-end fuel tree probs place r s bit refl ends)
    ])

pub leaf-reached : (tree : List ℤ) (probs : List ℕ) → is_tree tree probs ≡ true → (more : ℕ) (r : Reader) → leaf_below (length tree + more) tree probs 0 r ≡ leaf tree probs r
unfolding leaf
leaf-reached tree probs is more r =
    let facts : Tree tree probs = tree_of tree probs is in
    leaf_below-more tree probs facts (length tree) more 0 r (record { even = refl; inside = omega arith }) (omega arith)
