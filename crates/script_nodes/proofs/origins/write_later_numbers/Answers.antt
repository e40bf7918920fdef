use Rattle.std.proofs.Common.{◌≡◌, ◌+◌, List, ℕ, ◌∷◌, ◌++◌, drop, get_or, ap, sym, subst, ◌∙◌, append_assoc, append-nil}
use Rattle.std.proofs.KnownBytes.{Appends-trans}
use Rattle.std.proofs.lemmas.List.{drop_all, drop_more}
use Rattle.std.specs.List.{flat_map}
use Rattle.std.specs.Io.KnownBytes.{Appends}
use Rattle.script_nodes.specs.OriginTexts.{later_number}
use Rattle.script_nodes.proofs.origins.write_later_numbers.Goals as goal

pub loop-number-preserved : goal.loop-number-preserved
loop-number-preserved g c =
    let done = c.loop-number.invariant.done in
    let i = c.loop-number.number-index in
    let x : ℕ = get_or c.args.numbers.now i 0 in
    let rest : List ℕ = drop (i + 1) c.args.numbers.now in
    let at : drop i c.args.numbers.now ≡ x ∷ rest = drop_more c.args.numbers.now i 0 c.loop-number-test.true in
    record {
      done = done ++ later_number x;
      whole = append_assoc done (later_number x) (flat_map later_number rest) ∙ ap (λ (ys : List ℕ). done ++ flat_map later_number ys) (sym at) ∙ c.loop-number.invariant.whole;
      said = Appends-trans _ _ _ _ _ c.loop-number.invariant.said c.in_ok-write.ensures.bytes;
    }

pub returns : goal.returns
returns g c =
    let done = c.loop-number.invariant.done in
    let whole : done ≡ flat_map later_number c.args.numbers.now =
    sym (append-nil done) ∙ ap (λ (ys : List ℕ). done ++ flat_map later_number ys) (sym (drop_all c.loop-number.number-index c.args.numbers.now c.loop-number-test.false)) ∙ c.loop-number.invariant.whole in
    subst (λ (text : List ℕ). Appends (g.W.Write.contents c.args.w.now) (g.W.Write.contents c.loop-number.w) text) whole c.loop-number.invariant.said
