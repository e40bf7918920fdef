use Rattle.std.specs.Prelude.{slice_index}
use Rattle.std.proofs.Common.{◌≡◌, ◌+◌, ◌≤◌, ℕ, true, sym, subst, List, [], ◌∷◌, ◌++◌, length, refl, ap, ◌∙◌, arith}
use Rattle.script_nodes.specs.declared.nodes.Node.{Node}
use Rattle.script_nodes.specs.Nodes.{uses_below}
use Rattle.script_nodes.specs.PartLists.{most_frames}
use Rattle.script_nodes.specs.Lengths.{node_length}
use Rattle.script_nodes.proofs.Uses.{all_left}
use Rattle.script_nodes.proofs.Counts.{counted_first, counted_next, counted_bound, counted_within, counted_all, counted_given}
use Rattle.script_nodes.proofs.scripts.lengths_of.Goals as goal

pub loop-node-init : goal.loop-node-init
loop-node-init c = counted_first _ _ _ (c.push.ensures.items ∙ rw (c.new-found.ensures, c.length_at.ensures) refl) c.requires.few c.requires.script

pub length-length-requires-clause-uses : goal.length-length-requires-clause-uses
length-length-requires-clause-uses c =
    let long : length c.deref.result.now ≡ c.loop-node.node-index + 1 = ap length c.deref.ensures.0 ∙ c.loop-node.invariant.long in
    rw long (subst (λ (n : Node). uses_below (c.loop-node.node-index + 1) n ≡ true) (sym c.node-item.is) (all_left (c.loop-node.node-index + 1) c.loop-node.node-index c.args.nodes.now c.node-item.result c.loop-node-test.true c.loop-node.invariant.uses).0)

pub length-length-requires-clause-small : goal.length-length-requires-clause-small
length-length-requires-clause-small c = λ k.
    let bound : slice_index c.loop-node.found.items k ≤ 68719476736 = counted_bound _ _ _ c.loop-node.node-index c.loop-node.invariant k in
    rw c.deref.ensures.0 (omega arith)

pub length-length-requires-clause-few : goal.length-length-requires-clause-few
length-length-requires-clause-few c =
    let long : length c.deref.result.now ≡ c.loop-node.node-index + 1 = ap length c.deref.ensures.0 ∙ c.loop-node.invariant.long in
    omega (arith, long, c.requires.script.few, c.loop-node-test.true)

pub length-length-requires-clause-within : goal.length-length-requires-clause-within
length-length-requires-clause-within c = rw c.deref.ensures.0 (subst (λ (n : Node). node_length c.args.counts.now c.loop-node.found.items n ≤ most_frames) (sym c.node-item.is) (counted_within _ _ _ c.loop-node.node-index c.node-item.result c.requires.few c.loop-node.invariant c.loop-node-test.true))

pub loop-node-preserved : goal.loop-node-preserved
loop-node-preserved c =
    counted_next _ _ _ _ c.loop-node.node-index c.node-item.result c.requires.few c.loop-node.invariant c.loop-node-test.true
    (c.push-in-loop-node.ensures.items ∙ ap (λ (k : ℕ). c.loop-node.found.items ++ k ∷ []) (c.length-length.ensures ∙ ap (λ (l : List ℕ). node_length c.args.counts.now l c.node-item.result) c.deref.ensures.0 ∙ ap (node_length c.args.counts.now c.loop-node.found.items) c.node-item.is))

pub returns-clause-value : goal.returns-clause-value
returns-clause-value c = counted_all _ _ _ _ c.loop-node.invariant c.loop-node-test.false

pub returns-clause-long : goal.returns-clause-long
returns-clause-long c = omega (arith, c.loop-node.invariant.long, c.loop-node-test.false, c.loop-node.auto.node-index-end)

pub returns-clause-given : goal.returns-clause-given
returns-clause-given c = counted_given _ _ _ c.loop-node.node-index c.requires.script c.loop-node.invariant c.loop-node.auto.node-index-end c.loop-node-test.false
