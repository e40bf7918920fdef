use Rattle.std.proofs.Common.{◌≡◌, ◌∙◌, false, true, not, ℕ, List, Ok, Err, Some, slice_get, ap, subst, sym, refl, rules}
use Rattle.std.specs.Prelude.{is_some}
use Rattle.lossless_cuts.specs.declared.targets.Target.{Target}
use Rattle.script_nodes.specs.Frames.{traced}
use Rattle.script_nodes.specs.NodeSteps.{changed_nodes, node_steps}
use Rattle.script_nodes.specs.Scripts.{IsScript, origin_of}
use Rattle.script_nodes.specs.Shown.{Size, shown_in, steps_shown}
use Rattle.script_nodes.specs.declared.node_steps.NodeStep.{NodeStep}
use Rattle.script_nodes.proofs.Applied.{shown_answered}
use Rattle.frame_session.specs.Cached.{SessionValue}
use Rattle.frame_session.specs.Exported.{HasPicture}
use Rattle.frame_session.specs.Sessions.{SessionState, shown_counts}
use Rattle.frame_session.proofs.ExportedFrames.{changed_if, frame_cut_off, frame_is, frame_refused, none_changes, target_is}
use Rattle.frame_session.proofs.session.Session.origin_of.Goals as goal

pub returns-clause-target : goal.returns-clause-target
returns-clause-target c = λ none.
    let now : SessionState = c.args.self.now.state in
    let T : SessionValue → Type 0 = λ v. traced c.args.counts.now v.state.script c.args.n ≡ Some (origin_of c.in-Some.source c.in-Some.frame c.in-Some.trace) in
    let from : T c.args.self.now = subst T c.self.view_is c.in-Some.ensures.some in
    let traces : traced (shown_counts now) now.script c.args.n ≡ Some (origin_of c.in-Some.source c.in-Some.frame c.in-Some.trace) = ap (λ (k : List ℕ). traced k now.script c.args.n) (sym c.requires.counts) ∙ from in
    let steps : c.in-Some-node_steps.steps.items ≡ node_steps (shown_counts now) now.script c.args.n =
    c.in-Some-node_steps.ensures.some
    ∙ ap (λ (v : SessionValue). node_steps c.args.counts.now v.state.script c.args.n) c.self.view_is
    ∙ ap (λ (k : List ℕ). node_steps k now.script c.args.n) c.requires.counts in
    let sides : Size = c.in_ok-sides.sides in
    let has : HasPicture now c.in-Some.source c.in-Some-shown_place.place sides = c.in_ok-sides.ensures.accepted in
    let target : Target = record { source = c.in-Some.source; place = c.in-Some-shown_place.place; width = sides.0; height = sides.1 } in
    let first : c.first_of-changed.result ≡ slice_get (changed_nodes sides (node_steps (shown_counts now) now.script c.args.n)) 0 =
    c.first_of-changed.ensures ∙ ap (λ (xs : List ℕ). slice_get xs 0) (c.deref-2.ensures.0 ∙ c.changed_nodes-nodes.ensures ∙ ap (λ (ss : List NodeStep). changed_nodes sides ss) (c.deref.ensures.0 ∙ steps)) in
    let script : IsScript now.script = subst (λ (v : SessionValue). IsScript v.state.script) c.self.view_is c.prove_nodes.ensures in
    target_is now c.args.n c.in-Some.source c.in-Some.frame target c.in-Some.trace has.picture c.shown_list_is_of_shown_packets.ensures traces refl (sym c.in-Some-shown_place.ensures.place) has.accepted
    (none_changes c.steps_are_of_nodes.ensures (shown_counts now) now.script c.args.n c.in-Some.source c.in-Some.frame c.in-Some.trace sides script traces (sym first ∙ none)) has.wide has.high has.bytes

pub returns-clause-changed : goal.returns-clause-changed
returns-clause-changed c =
    let now : SessionState = c.args.self.now.state in
    let T : SessionValue → Type 0 = λ v. traced c.args.counts.now v.state.script c.args.n ≡ Some (origin_of c.in-Some.source c.in-Some.frame c.in-Some.trace) in
    let from : T c.args.self.now = subst T c.self.view_is c.in-Some.ensures.some in
    let traces : traced (shown_counts now) now.script c.args.n ≡ Some (origin_of c.in-Some.source c.in-Some.frame c.in-Some.trace) = ap (λ (k : List ℕ). traced k now.script c.args.n) (sym c.requires.counts) ∙ from in
    let steps : c.in-Some-node_steps.steps.items ≡ node_steps (shown_counts now) now.script c.args.n =
    c.in-Some-node_steps.ensures.some
    ∙ ap (λ (v : SessionValue). node_steps c.args.counts.now v.state.script c.args.n) c.self.view_is
    ∙ ap (λ (k : List ℕ). node_steps k now.script c.args.n) c.requires.counts in
    let sides : Size = c.in_ok-sides.sides in
    let has : HasPicture now c.in-Some.source c.in-Some-shown_place.place sides = c.in_ok-sides.ensures.accepted in
    let wide : sides ≡ (has.picture.width, has.picture.height) = ap (λ (w : ℕ). let s : Size = (w, sides.1) in s) (sym has.wide) ∙ ap (λ (h : ℕ). let s : Size = (has.picture.width, h) in s) (sym has.high) in
    let first : c.first_of-changed.result ≡ slice_get (changed_nodes (has.picture.width, has.picture.height) (node_steps (shown_counts now) now.script c.args.n)) 0 =
    c.first_of-changed.ensures
    ∙ ap (λ (xs : List ℕ). slice_get xs 0) (c.deref-2.ensures.0 ∙ c.changed_nodes-nodes.ensures ∙ ap (λ (ss : List NodeStep). changed_nodes sides ss) (c.deref.ensures.0 ∙ steps))
    ∙ ap (λ (s : Size). slice_get (changed_nodes s (node_steps (shown_counts now) now.script c.args.n)) 0) wide in
    let some : is_some (steps_shown c.in-Some.trace (shown_in has.picture)) ≡ true = shown_answered c.size.result c.in-Some.trace has.picture sides.0 sides.1 c.size.ensures (sym has.wide) (sym has.high) ∙ c.is_err.ensures.negation ∙ ap not c.if-is_err.false in
    let is = frame_is now c.args.n c.in-Some.source c.in-Some.frame c.in-Some-shown_place.place c.in-Some.trace (Ok has.picture) traces (sym c.in-Some-shown_place.ensures.place) has.accepted in
    changed_if now c.args.n c.first_of-changed.result c.in-Some.trace has.picture is.0 is.1 some first

pub returns-then-is_err-clause-refused : goal.returns-then-is_err-clause-refused
returns-then-is_err-clause-refused c =
    let now : SessionState = c.args.self.now.state in
    let T : SessionValue → Type 0 = λ v. traced c.args.counts.now v.state.script c.args.n ≡ Some (origin_of c.in-Some.source c.in-Some.frame c.in-Some.trace) in
    let from : T c.args.self.now = subst T c.self.view_is c.in-Some.ensures.some in
    let traces : traced (shown_counts now) now.script c.args.n ≡ Some (origin_of c.in-Some.source c.in-Some.frame c.in-Some.trace) = ap (λ (k : List ℕ). traced k now.script c.args.n) (sym c.requires.counts) ∙ from in
    let sides : Size = c.in_ok-sides.sides in
    let has : HasPicture now c.in-Some.source c.in-Some-shown_place.place sides = c.in_ok-sides.ensures.accepted in
    let none : is_some (steps_shown c.in-Some.trace (shown_in has.picture)) ≡ false = shown_answered c.size.result c.in-Some.trace has.picture sides.0 sides.1 c.size.ensures (sym has.wide) (sym has.high) ∙ c.is_err.ensures.negation ∙ ap not c.if-is_err.true in
    let is = frame_is now c.args.n c.in-Some.source c.in-Some.frame c.in-Some-shown_place.place c.in-Some.trace (Ok has.picture) traces (sym c.in-Some-shown_place.ensures.place) has.accepted in
    frame_cut_off now c.args.n c.in-Some.trace has.picture is.1 none

pub returns-in_err-sides-clause-refused : goal.returns-in_err-sides-clause-refused
returns-in_err-sides-clause-refused c =
    let now : SessionState = c.args.self.now.state in
    let T : SessionValue → Type 0 = λ v. traced c.args.counts.now v.state.script c.args.n ≡ Some (origin_of c.in-Some.source c.in-Some.frame c.in-Some.trace) in
    let from : T c.args.self.now = subst T c.self.view_is c.in-Some.ensures.some in
    let traces : traced (shown_counts now) now.script c.args.n ≡ Some (origin_of c.in-Some.source c.in-Some.frame c.in-Some.trace) = ap (λ (k : List ℕ). traced k now.script c.args.n) (sym c.requires.counts) ∙ from in
    let is = frame_is now c.args.n c.in-Some.source c.in-Some.frame c.in-Some-shown_place.place c.in-Some.trace (Err c.in_err-sides.field-0.0) traces (sym c.in-Some-shown_place.ensures.place) c.in_err-sides.ensures.refused in
    let why = frame_refused now c.args.n c.in-Some.trace (Err c.in_err-sides.field-0.0) c.in_err-sides.field-0.0 is.1 refl in
    search rules
