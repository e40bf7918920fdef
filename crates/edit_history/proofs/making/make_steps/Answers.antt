use Rattle.std.proofs.Common.{◌≡◌, ℕ, suc, ◌+◌, ◌-◌, ◌<◌, ◌≤◌, ◌∙◌, List, [], ◌∷◌, ◌++◌, Option, ap, arith, append_assoc, drop, length, refl, subst, sym, take}
use Rattle.std.specs.Option.{option_to_list}
use Rattle.std.specs.Prelude.{MatchOption}
use Rattle.std.specs.Vec.{vec_capacity, vec_len}
use Rattle.std.proofs.lemmas.List.{length-append, length-drop, take-append-drop}
use Rattle.edit_history.specs.declared.step.Step.{Step}
use Rattle.edit_history.specs.Steps.{AreReady, Content, all_made, content_of, last_first, made, way_back, ways_made}
use Rattle.edit_history.proofs.Orders.{length_last, turned_twice}
use Rattle.edit_history.proofs.Ready.{popped}
use Rattle.edit_history.proofs.making.make_steps.Goals as goal

pub steps-init : goal.steps-init
steps-init c =
    let items : List Step = c.args.from.now.items in
    let k : ℕ = vec_len c.args.from.now - c.args.count in
    let same : vec_len c.args.from.now ≡ length items = c.args.from.now.ok.0 in
    let long : length (drop k items) ≡ length items - k = length-drop k items in
    let left : length (last_first (drop k items)) ≡ length (drop k items) = length_last (drop k items) in
    let few : c.args.count ≤ vec_len c.args.from.now = c.requires.count in
    let count : length (last_first (drop k items)) ≡ c.args.count = omega (arith, left, long, same, few) in
    record {
      left = last_first (drop k items);
      many = omega (arith, count);
      from = sym (take-append-drop k items) ∙ ap (λ (steps : List Step). take k items ++ steps) (sym (turned_twice (drop k items)));
      room = omega (arith, count, c.requires.room);
      ready = c.requires.ready;
      ends = refl;
      to = refl;
    }

-- the first of the steps that are left
some_left : (made count : ℕ) (left : List Step) → made + length left ≡ count → made < count → 0 < length left
some_left made count left many less = omega (arith, many, less)

pub unreachable-requires : goal.unreachable-requires
unreachable-requires c =
    let some = some_left c.steps._made c.args.count c.steps.invariant.left c.steps.invariant.many c.steps-test.true in
    let front : List Step = take (vec_len c.args.from.now - c.args.count) c.args.from.now.items in
    let a : length c.steps.from.items ≡ length front + length (last_first c.steps.invariant.left) = ap length c.steps.invariant.from ∙ length-append front (last_first c.steps.invariant.left) in
    let b : length (last_first c.steps.invariant.left) ≡ length c.steps.invariant.left = length_last c.steps.invariant.left in
    let long : vec_len c.steps.from ≡ length c.steps.from.items = c.steps.from.ok.0 in
    let none : vec_len c.steps.from ≡ 0 = (subst (λ (o : Option Step). MatchOption o ((vec_len c.steps.from ≡ 0) × (vec_len c.pop.new.self ≡ 0)) (λ (x : Step). vec_len c.pop.new.self + 1 ≡ vec_len c.steps.from)) c.in_default.is c.pop.ensures.cases).0 in
    omega (arith, some, a, b, long, none)

pub make_step-back-requires : goal.make_step-back-requires
make_step-back-requires c =
    let some = some_left c.steps._made c.args.count c.steps.invariant.left c.steps.invariant.many c.steps-test.true in
    let end : c.steps.from.items ≡ c.pop.new.self.items ++ c.in-Some.step ∷ [] = c.pop.ensures.items ∙ ap (λ (o : Option Step). c.pop.new.self.items ++ option_to_list o) c.in-Some.is in
    let last = popped (take (vec_len c.args.from.now - c.args.count) c.args.from.now.items) c.steps.invariant.left c.steps.from.items c.pop.new.self.items c.in-Some.step c.steps.invariant.from end some in
    (subst (λ (left : List Step). AreReady left (content_of c.steps.stores c.steps.script c.steps.current)) last.first c.steps.invariant.ready).0

pub steps-preserved : goal.steps-preserved
steps-preserved c =
    let now : Content = content_of c.steps.stores c.steps.script c.steps.current in
    let after : Content = content_of c.make_step-back.new.stores c.make_step-back.new.script c.make_step-back.new.current in
    let step : Step = c.in-Some.step in
    let some = some_left c.steps._made c.args.count c.steps.invariant.left c.steps.invariant.many c.steps-test.true in
    let end : c.steps.from.items ≡ c.pop.new.self.items ++ step ∷ [] = c.pop.ensures.items ∙ ap (λ (o : Option Step). c.pop.new.self.items ++ option_to_list o) c.in-Some.is in
    let last = popped (take (vec_len c.args.from.now - c.args.count) c.args.from.now.items) c.steps.invariant.left c.steps.from.items c.pop.new.self.items step c.steps.invariant.from end some in
    let is : after ≡ made step now = c.make_step-back.ensures.after in
    let one : length c.steps.invariant.left ≡ suc (length last.rest) = ap length last.first in
    let pushed : vec_len c.push_reserved.new.self ≡ vec_len c.steps.to + 1 = c.push_reserved.ensures.len in
    let wide : vec_capacity c.push_reserved.new.self ≡ vec_capacity c.steps.to = c.push_reserved.ensures.capacity in
    let ready = subst (λ (left : List Step). AreReady left now) last.first c.steps.invariant.ready in
    record {
      left = last.rest;
      many = omega (arith, one, c.steps.invariant.many);
      from = last.others;
      room = omega (arith, one, pushed, wide, c.steps.invariant.room);
      ready = subst (λ (content : Content). AreReady last.rest content) (sym is) ready.1;
      ends = ap (all_made last.rest) is ∙ sym (ap (λ (left : List Step). all_made left now) last.first) ∙ c.steps.invariant.ends;
      to = ap (λ (items : List Step). items ++ ways_made last.rest after) c.push_reserved.ensures.items
          ∙ append_assoc c.steps.to.items (c.make_step-back.result ∷ []) (ways_made last.rest after)
          ∙ ap (λ (way : Step). c.steps.to.items ++ (way ∷ ways_made last.rest after)) c.make_step-back.ensures.back
          ∙ ap (λ (content : Content). c.steps.to.items ++ (way_back step now ∷ ways_made last.rest content)) is
          ∙ sym (ap (λ (left : List Step). c.steps.to.items ++ ways_made left now) last.first)
          ∙ c.steps.invariant.to;
    }
