use Rattle.std.proofs.Common.{◌≡◌, ◌+◌, List, ℕ, ◌∷◌, ◌++◌, drop, get_or, refl, ap, sym, subst, ◌∙◌, append_assoc, append-nil}
use Rattle.std.proofs.KnownBytes.{Appends-trans}
use Rattle.std.proofs.lemmas.List.{drop_all, drop_more}
use Rattle.std.specs.List.{flat_map}
use Rattle.std.specs.Prelude.{codes}
use Rattle.std.specs.Io.KnownBytes.{Appends}
use Rattle.script_nodes.specs.declared.nodes.Node.TheVariants.{Parts}
use Rattle.script_nodes.specs.declared.part_list.Part.{Part}
use Rattle.script_nodes.specs.Written.{later_part, node_text}
use Rattle.script_nodes.proofs.PartSums.{no_part}
use Rattle.script_nodes.proofs.PartTexts.{parts_text}
use Rattle.script_nodes.proofs.writing.write_parts.Goals as goal

pub loop-part-init : goal.loop-part-init
loop-part-init g c = record { done = codes "parts"; whole = refl; said = c.in_ok-write_all.ensures.bytes }

pub loop-part-preserved : goal.loop-part-preserved
loop-part-preserved g c =
    let done = c.loop-part.invariant.done in
    let i = c.loop-part.part-index in
    let x : Part = get_or c.args.parts.now i no_part in
    let rest : List Part = drop (i + 1) c.args.parts.now in
    let at : drop i c.args.parts.now ≡ x ∷ rest = drop_more c.args.parts.now i no_part c.loop-part-test.true in
    record {
      done = done ++ later_part x;
      whole = append_assoc done (later_part x) (flat_map later_part rest) ∙ ap (λ (ys : List Part). done ++ flat_map later_part ys) (sym at) ∙ c.loop-part.invariant.whole;
      said = Appends-trans _ _ _ _ _ c.loop-part.invariant.said c.in_ok-write_part.ensures;
    }

pub returns : goal.returns
returns g c =
    let done = c.loop-part.invariant.done in
    let whole : done ≡ node_text (Parts c.args.parts.now) =
    sym (append-nil done) ∙ ap (λ (ys : List Part). done ++ flat_map later_part ys) (sym (drop_all c.loop-part.part-index c.args.parts.now c.loop-part-test.false)) ∙ c.loop-part.invariant.whole ∙ sym (parts_text c.args.parts.now) in
    subst (λ (text : List ℕ). Appends (g.W.Write.contents c.args.w.now) (g.W.Write.contents c.loop-part.w) text) whole c.loop-part.invariant.said
