use Rattle.std.proofs.Common.{◌≡◌, ◌∙◌, ℕ, List, true, false, Some, slice_set, rules, ap, subst, sym}
use Rattle.state_cache.specs.Costs.{Costs}
use Rattle.state_cache.specs.Reaching.{OthersDrop}
use Rattle.state_cache.specs.Walks.{IsWalk}
use Rattle.script_nodes.specs.Frames.{traced}
use Rattle.script_nodes.specs.Scripts.{origin_of}
use Rattle.frame_session.specs.Cached.{SessionValue, store_at}
use Rattle.frame_session.specs.Sessions.{fits}
use Rattle.frame_session.proofs.Given.{frame_costs, frame_given, frame_refused}
use Rattle.frame_session.proofs.session.Session.frame.Goals as goal

pub returns-clause-returned : goal.returns-clause-returned
returns-clause-returned c =
    let made = c.in-Ok.made in
    let T : SessionValue → Type 0 = λ v. traced c.shown_counts-counts.result.items v.state.script c.args.n ≡ Some (origin_of c.in-Some.source c.in-Some.frame c.in-Some.trace) in
    let F : SessionValue → Type 0 = λ v. fits v.state.size (record { width = made.width; height = made.height }) ≡ true in
    let from : T c.args.self.now = subst T c.self.view_is (ap (λ (k : List ℕ). traced k c.self.inside.script c.args.n) (sym c.deref.ensures.0) ∙ c.in-Some.ensures.some) in
    let fit : F c.args.self.now = search rules in
    frame_given c.args.self.now.state c.args.n c.shown_counts-counts.result.items c.in-Some.source c.in-Some.frame c.in-Some-shown_place.place c.in-Some.trace c.in_ok-picture.picture made c.shown_counts-counts.ensures.value from c.in-Some-shown_place.ensures.place c.in_ok-picture.ensures.returned
    c.in-Ok.ensures.shown fit c.width.ensures.whole

pub returns-then-not-fits-clause-returned : goal.returns-then-not-fits-clause-returned
returns-then-not-fits-clause-returned c =
    let made = c.in-Ok.made in
    let T : SessionValue → Type 0 = λ v. traced c.shown_counts-counts.result.items v.state.script c.args.n ≡ Some (origin_of c.in-Some.source c.in-Some.frame c.in-Some.trace) in
    let F : SessionValue → Type 0 = λ v. fits v.state.size (record { width = made.width; height = made.height }) ≡ false in
    let from : T c.args.self.now = subst T c.self.view_is (ap (λ (k : List ℕ). traced k c.self.inside.script c.args.n) (sym c.deref.ensures.0) ∙ c.in-Some.ensures.some) in
    let unfit : F c.args.self.now = search rules in
    frame_refused c.args.self.now.state c.args.n c.shown_counts-counts.result.items c.in-Some.source c.in-Some.frame c.in-Some-shown_place.place c.in-Some.trace c.in_ok-picture.picture made c.shown_counts-counts.ensures.value from c.in-Some-shown_place.ensures.place c.in_ok-picture.ensures.returned
    c.in-Ok.ensures.shown unfit

pub returns-clause-costs : goal.returns-clause-costs
returns-clause-costs c =
    let old = c.args.self.now in
    let source = c.in-Some.source in
    let T : SessionValue → Type 0 = λ v. traced c.shown_counts-counts.result.items v.state.script c.args.n ≡ Some (origin_of source c.in-Some.frame c.in-Some.trace) in
    let P : SessionValue → Type 0 = λ v. Costs old.state.tables source (store_at old.stores source) old.cache c.in-Some-shown_place.place true (store_at v.stores source) v.cache × IsWalk old.state.tables source (store_at old.stores source) old.cache c.in-Some-shown_place.place true (store_at v.stores source) v.cache × (v.stores ≡ slice_set old.stores source (store_at v.stores source)) × OthersDrop source old.cache v.cache in
    let from : T old = subst T c.self.view_is (ap (λ (k : List ℕ). traced k c.self.inside.script c.args.n) (sym c.deref.ensures.0) ∙ c.in-Some.ensures.some) in
    let reached : P c.decoded_at.new.self = (c.in_ok-picture.ensures.costs, c.in_ok-picture.ensures.walks, c.in_ok-picture.ensures.packets, c.in_ok-picture.ensures.others) in
    let so = subst P (sym c.self-2.view_is) reached in
    frame_costs old _ c.args.n c.shown_counts-counts.result.items source c.in-Some.frame c.in-Some-shown_place.place c.in-Some.trace c.in-Ok.made c.shown_counts-counts.ensures.value from c.in-Some-shown_place.ensures.place so.0 so.1 (record { packets = so.2; outcomes = so.3 })
