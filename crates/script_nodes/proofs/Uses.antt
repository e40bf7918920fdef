-- The nodes that a node uses.
use Rattle.std.specs.Prelude.{◌&&◌}
use Rattle.std.proofs.Common.{◌≡◌, ℕ, ◌+◌, ◌<◌, ◌≤◌, Bool, true, false, List, length, drop, get_or, refl, sym, ◌∙◌, add-one}
use Rattle.std.proofs.Math.Seq.{drop-cons}
use Rattle.std.proofs.lemmas.List.{drop_all}
use Rattle.script_nodes.specs.declared.nodes.Node.{Node}
use Rattle.script_nodes.specs.Nodes.{uses_below, all_use_below}

-- the nodes starting at one
pub all_next : (own i : ℕ) (nodes : List Node) (d : Node) → i < length nodes → all_use_below own (drop i nodes) ≡ (uses_below own (get_or nodes i d) && all_use_below (own + 1) (drop (i + 1) nodes))
all_next own i nodes d h = rw (add-one i, drop-cons nodes i d h) refl

pub all_end : (own i : ℕ) (nodes : List Node) → length nodes ≤ i → all_use_below own (drop i nodes) ≡ true
all_end own i nodes h = rw (drop_all i nodes h) refl

-- two tests that hold
pub both : (a b : Bool) → (a && b) ≡ true → (a ≡ true) × (b ≡ true)
both true true h = (refl, refl)
both true false h = cc
both false b h = cc

-- the first of the remaining nodes, and the others
pub all_left : (own i : ℕ) (nodes : List Node) (d : Node) → i < length nodes → all_use_below own (drop i nodes) ≡ true → (uses_below own (get_or nodes i d) ≡ true) × (all_use_below (own + 1) (drop (i + 1) nodes) ≡ true)
all_left own i nodes d h all = both _ _ (sym (all_next own i nodes d h) ∙ all)
