use Rattle.std.proofs.Common.{◌≡◌, ◌∙◌, ℕ, List, [], ◌∷◌, ◌++◌, Option, Some, ap, subst, sym}
use Rattle.std.proofs.KnownBytes.{Appends-trans}
use Rattle.std.proofs.lemmas.Result.{on_ok_weaker}
use Rattle.std.specs.Io.KnownBytes.{Appends}
use Rattle.std.specs.Option.{option_map_or}
use Rattle.script_nodes.specs.Frames.{Origin, traced}
use Rattle.script_nodes.specs.Scripts.{origin_of}
use Rattle.frame_session.specs.Cached.{SessionValue}
use Rattle.frame_session.specs.Origins.{origin_line, origin_object}
use Rattle.frame_session.proofs.session.Session.write_origin_line.Goals as goal

pub returns : goal.returns
returns g c =
    let now = c.args.self.now.state in
    let n = c.args.n in
    let source = c.in-Some-trace.source in
    let frame = c.in-Some-trace.frame in
    let T : SessionValue → Type 0 = λ v. traced c.shown_counts-counts.result.items v.state.script n ≡ Some (origin_of source frame c.in-Some-trace.field-0-2) in
    let found : T c.args.self.now = subst T c.self.view_is (ap (λ (k : List ℕ). traced k c.self.inside.script n) (sym c.deref-2.ensures.0) ∙ c.in-Some-trace.ensures.some) in
    let from = ap (λ (k : List ℕ). traced k now.script n) (sym c.shown_counts-counts.ensures.value) ∙ found in
    let line : origin_line now n ≡ origin_object now n source frame ++ 10 ∷ [] = ap (λ (o : Option Origin). option_map_or (λ (f : Origin). origin_object now n f.source f.frame) o [] ++ 10 ∷ []) from in
    on_ok_weaker c.write_text-2.result
    (λ p. subst (λ (t : List ℕ). Appends (g.W.Write.contents c.args.w.now) (g.W.Write.contents c.write_text-2.new.w) t) (sym line) (Appends-trans _ _ _ _ _ c.in_ok-write_origin_of.ensures p))
    c.write_text-2.ensures
