-- A value for each node, computed from the values of the nodes below it.
use Rattle.std.proofs.Common.{◌≡◌, ℕ, zero, suc, ◌+◌, ◌-◌, ◌<◌, true, List, [], ◌∷◌, ◌++◌, length, drop, get_or, refl, sym, ap, ◌∙◌, arith, add-one, length-append}
use Rattle.std.proofs.Math.Seq.{drop-cons}
use Rattle.std.proofs.lemmas.List.{get_or_append_left, get_or-append_right}
use Rattle.script_nodes.specs.declared.nodes.Node.{Node}
use Rattle.script_nodes.specs.Nodes.{uses_below, all_use_below}
use Rattle.script_nodes.specs.Lengths.{built}
use Rattle.script_nodes.proofs.Uses.{both}

-- the value of a node depends on the values of the nodes that it uses
pub record IsLocal {B : Type 0} (make : List B → Node → B) : Type 0 where
  pub same : (n : ℕ) (below all : List B) (node : Node) → uses_below n node ≡ true → ((k : ℕ) (d : B) → k < n → get_or all k d ≡ get_or below k d) → make all node ≡ make below node

module _ {B : Type 0} (make : List B → Node → B) where
  -- one more node
  pub built-next : (below : List B) (nodes : List Node) (i : ℕ) (e : Node) → i < length nodes → built make below (drop i nodes) ≡ built make (below ++ make below (get_or nodes i e) ∷ []) (drop (i + 1) nodes)
  built-next below nodes i e h = rw (add-one i, drop-cons nodes i e h) refl

  pub length-one_more : (below : List B) (x : B) → length (below ++ x ∷ []) ≡ length below + 1
  length-one_more below x = length-append below (x ∷ [])

  pub length-built : (below : List B) (nodes : List Node) → length (built make below nodes) ≡ length below + length nodes
  length-built below [] = omega arith
  length-built below (node ∷ nodes) = omega (arith, length-built (below ++ make below node ∷ []) nodes, length-one_more below (make below node))

  -- earlier values stay
  pub built_below : (below : List B) (nodes : List Node) (k : ℕ) (d : B) → k < length below → get_or (built make below nodes) k d ≡ get_or below k d
  built_below below [] k d h = refl
  built_below below (node ∷ nodes) k d h =
      built_below (below ++ make below node ∷ []) nodes k d (omega (arith, length-one_more below (make below node)))
      ∙ get_or_append_left below (make below node ∷ []) d k h

  -- the value of a node, from the values of all of them
  pub built_at : IsLocal make → (below : List B) (nodes : List Node) (k : ℕ) (d : B) (e : Node) → all_use_below (length below) nodes ≡ true → k < length nodes → get_or (built make below nodes) (length below + k) d ≡ make (built make below nodes) (get_or nodes k e)
  built_at local below [] k d e uses h = absurd (omega arith)
  built_at local below (node ∷ nodes) zero d e uses h =
      let more : List B = below ++ make below node ∷ [] in
      let place : length below + 0 ≡ length below = omega arith in
      ap (λ i. get_or (built make more nodes) i d) place
      ∙ built_below more nodes (length below) d (omega (arith, length-one_more below (make below node)))
      ∙ get_or-append_right below (make below node ∷ []) (length below) (length below) d refl (omega arith)
      ∙ ap (λ i. get_or (make below node ∷ []) i d) (let none : length below - length below ≡ 0 = omega arith in none)
      ∙ sym (local.same (length below) below (built make more nodes) node (both _ _ uses).0 (λ i f less. built_below more nodes i f (omega (arith, length-one_more below (make below node))) ∙ get_or_append_left below (make below node ∷ []) f i less))
  built_at local below (node ∷ nodes) (suc k) d e uses h =
      let more : List B = below ++ make below node ∷ [] in
      let long : length more ≡ length below + 1 = length-one_more below (make below node) in
      let place : length below + suc k ≡ length more + k = omega (arith, long) in
      let rest : all_use_below (length more) nodes ≡ true = rw long (both _ _ uses).1 in
      ap (λ i. get_or (built make more nodes) i d) place ∙ built_at local more nodes k d e rest (omega arith)
