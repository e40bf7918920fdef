use Rattle.std.proofs.Common.{◌≡◌, ◌+◌, List, ℕ, ◌∷◌, ◌++◌, drop, ap, sym, subst, ◌∙◌, append_assoc, append-nil}
use Rattle.std.proofs.KnownBytes.{Appends-trans}
use Rattle.std.proofs.lemmas.List.{drop_all, drop_more}
use Rattle.std.specs.List.{flat_map}
use Rattle.std.specs.Io.KnownBytes.{Appends}
use Rattle.script_nodes.specs.declared.nodes.Node.{Node}
use Rattle.script_nodes.specs.Written.{later_text}
use Rattle.script_nodes.proofs.writing.write_later.Goals as goal

pub loop-node-preserved : goal.loop-node-preserved
loop-node-preserved g c =
    let done = c.loop-node.invariant.done in
    let i = c.loop-node.node-index in
    let x : Node = c.node-item.result in
    let rest : List Node = drop (i + 1) c.args.nodes.now in
    let at : drop i c.args.nodes.now ≡ x ∷ rest = drop_more c.args.nodes.now i x c.loop-node-test.true ∙ ap (λ (n : Node). n ∷ rest) (sym c.node-item.is) in
    record {
      done = done ++ later_text x;
      whole = append_assoc done (later_text x) (flat_map later_text rest) ∙ ap (λ (ys : List Node). done ++ flat_map later_text ys) (sym at) ∙ c.loop-node.invariant.whole;
      said = Appends-trans _ _ _ _ _ c.loop-node.invariant.said (Appends-trans _ _ _ _ _ c.in_ok-write_all.ensures.bytes c.in_ok-write_node.ensures);
    }

pub returns : goal.returns
returns g c =
    let done = c.loop-node.invariant.done in
    let whole : done ≡ flat_map later_text c.args.nodes.now =
    sym (append-nil done) ∙ ap (λ (ys : List Node). done ++ flat_map later_text ys) (sym (drop_all c.loop-node.node-index c.args.nodes.now c.loop-node-test.false)) ∙ c.loop-node.invariant.whole in
    subst (λ (text : List ℕ). Appends (g.W.Write.contents c.args.w.now) (g.W.Write.contents c.loop-node.w) text) whole c.loop-node.invariant.said
