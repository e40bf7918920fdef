-- Trails stay sound and stand for histories.
use Rattle.std.proofs.Common.{◌≡◌, ℕ, zero, suc, ◌+◌, ◌<◌, ◌≤◌, ◌⊎◌, inl, inr, Bool, true, false, List, [], ◌∷◌, ◌++◌, nat_eq, length, map, slice_set, Option, Some, None, refl, sym, ap, subst, ◌∙◌, arith}
use Rattle.std.specs.Prelude.{unwrap_or}
use Rattle.std.proofs.lemmas.List.{length-map, length-set, map-set, set-get_or}
use Rattle.std.proofs.Math.ListN.{get_or-map}
use Rattle.packet_edits.specs.declared.entry.Entry.{Entry}
use Rattle.packet_times.specs.Durations.{one_frame}
use Rattle.packet_edits.specs.Edits.{Listing, starting}
use Rattle.packet_edits.specs.Laws.{HaveOwnIds}
use Rattle.packet_edits.specs.Marks.{StoreValue}
use Rattle.edit_history.specs.declared.change.Change.{Change}
use Rattle.edit_history.specs.declared.change.Change.TheVariants.{Exchange, Move, Put, Take}
use Rattle.edit_history.specs.declared.step.Step.{Step}
use Rattle.edit_history.specs.declared.step.Step.TheVariants.{Packets, Script}
use Rattle.edit_history.specs.Changes.{back, changed, store_changed}
use Rattle.edit_history.specs.Histories.{Past, drop_from, drop_times, redo_from, redo_times, undo_from, undo_times}
use Rattle.edit_history.specs.Places.{HaveOwnHeld, held}
use Rattle.edit_history.specs.Steps.{Content, IsPossibleStep, after_step, store_at, way_back}
use Rattle.edit_history.specs.Trails.{AreAllPossible, AreMadePossible, AreSound, HasCurrent, HaveCurrents, IsSound, OwnsLeft, Remembered, StepsKeepNextIds, Trail, TrailsAreHistories, TrailsStaySound, drop_steps, entries_of, history_of, list_in, lists_of, lists_with, nothing, redo_steps, remembering, steps_of, trail_of, undo_steps}
use Rattle.edit_history.specs.Values.{IsPossibleIn, Made, earlier_by, history_by, packets_after, past_after, past_back, past_of, values_by}
use Rattle.edit_history.proofs.Counts.{change_many, many, many_both, own_fewer}
use Rattle.edit_history.proofs.Own.{owned_before}
use Rattle.edit_history.proofs.Travels.{differs, held_is, here, is_same, of_source, owned, same_source, there}
use Rattle.edit_history.proofs.Values.{steps_are_of_values, steps_keep_histories, steps_lead_back}

-- the packets that steps own, by their ids
part_many : (id : ℕ) (b : Bool) (change : Change) (rest : List Entry) → many id (of_source b (owned_before change rest) rest) ≡ many id (of_source b (owned_before change []) []) + many id rest
part_many id false change rest = omega arith
part_many id true (Put at e) rest = omega arith
part_many id true (Take at) rest = omega arith
part_many id true (Exchange at e true) rest = omega arith
part_many id true (Exchange at e false) rest = omega arith
part_many id true (Move from to) rest = omega arith

pub held_more : (id q : ℕ) (step : Step) (steps : List Step) → many id (held q (step ∷ steps)) ≡ many id (held q (step ∷ [])) + many id (held q steps)
held_more id q (Script script current) steps = omega arith
held_more id q (Packets source change current) steps =
    let whole = ap (many id) (held_is q (Packets source change current ∷ steps)) in
    let first = ap (many id) (held_is q (Packets source change current ∷ [])) in
    let rest = ap (many id) (held_is q steps) in
    let parts = part_many id (nat_eq source q) change (owned q steps) in
    omega (arith, whole, first, rest, parts)

pub held_both : (id q : ℕ) (xs ys : List Step) → many id (held q (xs ++ ys)) ≡ many id (held q xs) + many id (held q ys)
held_both id q [] ys = omega arith
held_both id q (x ∷ xs) ys =
    let rest = held_both id q xs ys in
    let a = held_more id q x (xs ++ ys) in
    let b = held_more id q x xs in
    omega (arith, rest, a, b)

held_here : (source : ℕ) (change : Change) (current : ℕ) → held source (Packets source change current ∷ []) ≡ owned_before change []
held_here source change current = held_is source (Packets source change current ∷ []) ∙ ap (λ (b : Bool). of_source b (owned_before change []) []) (is_same source)

held_there : (q source : ℕ) (change : Change) (current : ℕ) → (q ≡ source → ⊥) → held q (Packets source change current ∷ []) ≡ []
held_there q source change current apart =
    held_is q (Packets source change current ∷ []) ∙ ap (λ (b : Bool). of_source b (owned_before change []) []) (differs source q (nat_eq source q) refl (λ same. apart (sym same)))

-- what a step and the way back own
pub record IsStepped (step : Step) (now : Content) : Type 0 where
  pub long : length (after_step step now).stores ≡ length now.stores
  pub next : (q : ℕ) → (store_at (after_step step now).stores q).list.next_id ≡ (store_at now.stores q).list.next_id
  pub counts : (q id : ℕ) → many id (store_at (after_step step now).stores q).list.entries + many id (held q (way_back step now ∷ [])) ≡ many id (store_at now.stores q).list.entries + many id (held q (step ∷ []))

stepped : (step : Step) (now : Content) → IsPossibleStep step now → IsStepped step now
stepped (Script script current) now possible = record { long = refl; next = λ q. refl; counts = λ q id. refl }
stepped (Packets source change current) now possible = record {
  long = length-set now.stores source _;
  next = λ q. next_at q (same_source q source);
  counts = λ q id. counts_at q id (same_source q source);
}
  where
    next_at : (q : ℕ) → (q ≡ source) ⊎ (q ≡ source → ⊥) → (store_at (slice_set now.stores source (store_changed change (store_at now.stores source))) q).list.next_id ≡ (store_at now.stores q).list.next_id
    next_at q (inl same) =
        subst (λ (p : ℕ). (store_at (slice_set now.stores source (store_changed change (store_at now.stores source))) p).list.next_id ≡ (store_at now.stores p).list.next_id) (sym same)
        (ap (λ (t : StoreValue). t.list.next_id) (here now.stores source (store_changed change (store_at now.stores source)) possible.0))
    next_at q (inr apart) = ap (λ (t : StoreValue). t.list.next_id) (there now.stores source q (store_changed change (store_at now.stores source)) apart)

    counts_at : (q id : ℕ) → (q ≡ source) ⊎ (q ≡ source → ⊥)
        → many id (store_at (slice_set now.stores source (store_changed change (store_at now.stores source))) q).list.entries + many id (held q (Packets source (back change (store_at now.stores source).list.entries) now.current ∷ []))
        ≡ many id (store_at now.stores q).list.entries + many id (held q (Packets source change current ∷ []))
    counts_at q id (inl same) =
        let all = change_many change id (store_at now.stores source).list.entries possible.1 in
        let a : many id (store_at (slice_set now.stores source (store_changed change (store_at now.stores source))) source).list.entries ≡ many id (changed change (store_at now.stores source).list.entries) =
        ap (λ (t : StoreValue). many id t.list.entries) (here now.stores source (store_changed change (store_at now.stores source)) possible.0) in
        let b = ap (many id) (held_here source (back change (store_at now.stores source).list.entries) now.current) in
        let c = ap (many id) (held_here source change current) in
        subst (λ (p : ℕ). many id (store_at (slice_set now.stores source (store_changed change (store_at now.stores source))) p).list.entries + many id (held p (Packets source (back change (store_at now.stores source).list.entries) now.current ∷ []))
        ≡ many id (store_at now.stores p).list.entries + many id (held p (Packets source change current ∷ []))) (sym same)
        (omega (arith, all, a, b, c))
    counts_at q id (inr apart) =
        let a : many id (store_at (slice_set now.stores source (store_changed change (store_at now.stores source))) q).list.entries ≡ many id (store_at now.stores q).list.entries =
        ap (λ (t : StoreValue). many id t.list.entries) (there now.stores source q (store_changed change (store_at now.stores source)) apart) in
        let b = ap (many id) (held_there q source (back change (store_at now.stores source).list.entries) now.current apart) in
        let c = ap (many id) (held_there q source change current apart) in
        omega (arith, a, b, c)

-- the packets after a step and after the way back
pub after_packets : (step : Step) (now : Content) → (past_of (after_step step now)).packets ≡ packets_after step (past_of now).packets
after_packets step now = ap (λ (p : Past). p.packets) (steps_are_of_values.after step now) ∙ by_step step (past_of now)
  where
    by_step : (step : Step) (past : Past) → (past_after step past).packets ≡ packets_after step past.packets
    by_step (Packets source change current) past = refl
    by_step (Script script current) past = refl

back_fits : (step : Step) (now : Content) → IsPossibleIn step (past_of now).packets → IsPossibleIn (way_back step now) (past_of (after_step step now)).packets
back_fits step now fits =
    let there_ = steps_lead_back.possible step (past_of now) fits in
    subst (λ (s : Step). IsPossibleIn s (past_of (after_step step now)).packets) (sym (steps_are_of_values.back step now))
    (subst (λ (p : Past). IsPossibleIn (past_back step (past_of now)) p.packets) (sym (steps_are_of_values.after step now)) there_)

back_packets : (step : Step) (now : Content) → IsPossibleIn step (past_of now).packets → packets_after (way_back step now) (past_of (after_step step now)).packets ≡ (past_of now).packets
back_packets step now fits =
    ap (λ (s : Step). packets_after s (past_of (after_step step now)).packets) (steps_are_of_values.back step now)
    ∙ ap (λ (p : Past). packets_after (past_back step (past_of now)) p.packets) (steps_are_of_values.after step now)
    ∙ sym (by_step (past_back step (past_of now)) (past_after step (past_of now)))
    ∙ ap (λ (p : Past). p.packets) (steps_lead_back.leads_back step (past_of now) fits)
  where
    by_step : (step : Step) (past : Past) → (past_after step past).packets ≡ packets_after step past.packets
    by_step (Packets source change current) past = refl
    by_step (Script script current) past = refl

-- a sound trail, by its parts
pub record Inner (now : Content) (earlier : List Made) (undone : List Step) : Type 0 where
  pub earlier_fits : AreMadePossible earlier (past_of now).packets
  pub undone_fits : AreAllPossible undone (past_of now).packets
  pub currents : HaveCurrents (length now.stores) (steps_of earlier ++ undone)
  pub current : now.current < length now.stores
  pub own : HaveOwnHeld (steps_of earlier ++ undone) now.stores

abbrev pub InnerOf : Trail → Type 0
InnerOf trail = Inner trail.now trail.steps.earlier trail.steps.undone

entries_there : (stores : List StoreValue) → entries_of (lists_of stores) ≡ map (λ (store : StoreValue). store.list.entries) stores
entries_there [] = refl
entries_there (s ∷ stores) = ap (λ (xs : List (List Entry)). s.list.entries ∷ xs) (entries_there stores)

list_there : (stores : List StoreValue) (source : ℕ) → list_in (lists_of stores) source ≡ (store_at stores source).list
list_there stores source = get_or-map (λ (store : StoreValue). store.list) stores source _

-- the current sources of steps
currents_left : (n : ℕ) (xs ys : List Step) → HaveCurrents n (xs ++ ys) → HaveCurrents n xs
currents_left n [] ys has = tt
currents_left n (x ∷ xs) ys has = (has.0, currents_left n xs ys has.1)

currents_right : (n : ℕ) (xs ys : List Step) → HaveCurrents n (xs ++ ys) → HaveCurrents n ys
currents_right n [] ys has = has
currents_right n (x ∷ xs) ys has = currents_right n xs ys has.1

currents_both : (n : ℕ) (xs ys : List Step) → HaveCurrents n xs → HaveCurrents n ys → HaveCurrents n (xs ++ ys)
currents_both n [] ys a b = b
currents_both n (x ∷ xs) ys a b = (a.0, currents_both n xs ys a.1 b)

back_current : (n : ℕ) (step : Step) (now : Content) → now.current < n → HasCurrent n (way_back step now)
back_current n (Packets source change current) now has = has
back_current n (Script script current) now has = has

after_current : (n : ℕ) (step : Step) (now : Content) → HasCurrent n step → (after_step step now).current < n
after_current n (Packets source change current) now has = has
after_current n (Script script current) now has = has

pub stepped_long : (step : Step) (now : Content) → length (after_step step now).stores ≡ length now.stores
stepped_long (Script script current) now = refl
stepped_long (Packets source change current) now = length-set now.stores source _

pub inside : (trail : Trail) → IsSound trail → InnerOf trail
inside trail sound = record {
  earlier_fits = subst (λ (p : List (List Entry)). AreMadePossible trail.steps.earlier p) (entries_there trail.now.stores) sound.steps.earlier;
  undone_fits = subst (λ (p : List (List Entry)). AreAllPossible trail.steps.undone p) (entries_there trail.now.stores) sound.steps.undone;
  currents = subst (λ (n : ℕ). HaveCurrents n (steps_of trail.steps.earlier ++ trail.steps.undone)) (length-map trail.now.stores (λ (store : StoreValue). store.list)) sound.steps.currents;
  current = sound.current;
  own = λ source within.
      let long : length (lists_of trail.now.stores) ≡ length trail.now.stores = length-map trail.now.stores (λ (store : StoreValue). store.list) in
      subst (λ (l : Listing). HaveOwnIds l.next_id (l.entries ++ held source (steps_of trail.steps.earlier ++ trail.steps.undone))) (list_there trail.now.stores source) (sound.steps.own source (omega (arith, long, within)));
}

pub outside : (trail : Trail) → InnerOf trail → IsSound trail
outside trail inner = record {
  steps = record {
    earlier = subst (λ (p : List (List Entry)). AreMadePossible trail.steps.earlier p) (sym (entries_there trail.now.stores)) inner.earlier_fits;
    undone = subst (λ (p : List (List Entry)). AreAllPossible trail.steps.undone p) (sym (entries_there trail.now.stores)) inner.undone_fits;
    currents = subst (λ (n : ℕ). HaveCurrents n (steps_of trail.steps.earlier ++ trail.steps.undone)) (sym (length-map trail.now.stores (λ (store : StoreValue). store.list))) inner.currents;
    own = λ source within.
        let long : length (lists_of trail.now.stores) ≡ length trail.now.stores = length-map trail.now.stores (λ (store : StoreValue). store.list) in
        subst (λ (l : Listing). HaveOwnIds l.next_id (l.entries ++ held source (steps_of trail.steps.earlier ++ trail.steps.undone))) (sym (list_there trail.now.stores source)) (inner.own source (omega (arith, long, within)));
  };
  current = inner.current;
}

-- the ids after a step
own_after : (step : Step) (now : Content) (old new : List Step) → IsStepped step now
    → ((q id : ℕ) → many id (held q new) + many id (held q (step ∷ [])) ≤ many id (held q old) + many id (held q (way_back step now ∷ []))) → HaveOwnHeld old now.stores → HaveOwnHeld new (after_step step now).stores
own_after step now old new is fewer own = λ q within.
    let s : StoreValue = store_at now.stores q in
    let t : StoreValue = store_at (after_step step now).stores q in
    let same = is.next q in
    let long = is.long in
    own_fewer s.list.next_id t.list.next_id (s.list.entries ++ held q old) (t.list.entries ++ held q new) (omega (arith, same))
    (λ id. let a = many_both id s.list.entries (held q old) in let b = many_both id t.list.entries (held q new) in let c = is.counts q id in let d = fewer q id in omega (arith, a, b, c, d))
    (own q (omega (arith, long, within)))

-- one step
undo_one : (made : Made) (others : List Made) (undone : List Step) (now : Content) → Inner now (made ∷ others) undone → Inner (after_step made.step now) others (way_back made.step now ∷ undone)
undo_one made others undone now inner = record {
  earlier_fits = subst (λ (p : List (List Entry)). AreMadePossible others p) (sym (after_packets made.step now)) inner.earlier_fits.2;
  undone_fits = (back_fits made.step now inner.earlier_fits.0, subst (λ (p : List (List Entry)). AreAllPossible undone p) (sym (back_packets made.step now inner.earlier_fits.0)) inner.undone_fits);
  currents = subst (λ (n : ℕ). HaveCurrents n (steps_of others ++ way_back made.step now ∷ undone)) (sym (stepped_long made.step now))
      (let n : ℕ = length now.stores in
      let rest : HaveCurrents n (unwrap_or made.before [] ++ steps_of others) = currents_left n (unwrap_or made.before [] ++ steps_of others) undone inner.currents.1 in
      currents_both n (steps_of others) (way_back made.step now ∷ undone) (currents_right n (unwrap_or made.before []) (steps_of others) rest)
      (back_current n made.step now inner.current, currents_right n (unwrap_or made.before [] ++ steps_of others) undone inner.currents.1));
  current = subst (λ (n : ℕ). (after_step made.step now).current < n) (sym (stepped_long made.step now)) (after_current (length now.stores) made.step now inner.currents.0);
  own = own_after made.step now (steps_of (made ∷ others) ++ undone) (steps_of others ++ way_back made.step now ∷ undone)
      (stepped made.step now (steps_are_of_values.possible made.step now inner.earlier_fits.0))
      (λ q id.
      let a = held_both id q (steps_of (made ∷ others)) undone in
      let b = held_more id q made.step (unwrap_or made.before [] ++ steps_of others) in
      let c = held_both id q (unwrap_or made.before []) (steps_of others) in
      let d = held_both id q (steps_of others) (way_back made.step now ∷ undone) in
      let e = held_more id q (way_back made.step now) undone in
      omega (arith, a, b, c, d, e))
      inner.own;
}

redo_one : (step : Step) (others : List Step) (earlier : List Made) (now : Content) → Inner now earlier (step ∷ others) → Inner (after_step step now) (record { step = way_back step now; before = None } ∷ earlier) others
redo_one step others earlier now inner = record {
  earlier_fits = (back_fits step now inner.undone_fits.0, tt, subst (λ (p : List (List Entry)). AreMadePossible earlier p) (sym (back_packets step now inner.undone_fits.0)) inner.earlier_fits);
  undone_fits = subst (λ (p : List (List Entry)). AreAllPossible others p) (sym (after_packets step now)) inner.undone_fits.1;
  currents = subst (λ (n : ℕ). HaveCurrents n ((way_back step now ∷ steps_of earlier) ++ others)) (sym (stepped_long step now))
      (let n : ℕ = length now.stores in
      let rest : HaveCurrents n (step ∷ others) = currents_right n (steps_of earlier) (step ∷ others) inner.currents in
      (back_current n step now inner.current, currents_both n (steps_of earlier) others (currents_left n (steps_of earlier) (step ∷ others) inner.currents) rest.1));
  current = subst (λ (n : ℕ). (after_step step now).current < n) (sym (stepped_long step now))
      (after_current (length now.stores) step now (let rest : HaveCurrents (length now.stores) (step ∷ others) = currents_right (length now.stores) (steps_of earlier) (step ∷ others) inner.currents in rest.0));
  own = own_after step now (steps_of earlier ++ step ∷ others) ((way_back step now ∷ steps_of earlier) ++ others)
      (stepped step now (steps_are_of_values.possible step now inner.undone_fits.0))
      (λ q id.
      let a = held_both id q (steps_of earlier) (step ∷ others) in
      let b = held_more id q step others in
      let c = held_both id q (way_back step now ∷ steps_of earlier) others in
      let d = held_more id q (way_back step now) (steps_of earlier) in
      omega (arith, a, b, c, d))
      inner.own;
}

drop_one : (step : Step) (before : Option (List Step)) (others : List Made) (undone : List Step) (now : Content) → Inner now (record { step = step; before = before } ∷ others) undone
    → Inner (after_step step now) others (unwrap_or before (way_back step now ∷ undone))
drop_one step None others undone now inner = undo_one (record { step = step; before = None }) others undone now inner
drop_one step (Some before) others undone now inner = record {
  earlier_fits = subst (λ (p : List (List Entry)). AreMadePossible others p) (sym (after_packets step now)) inner.earlier_fits.2;
  undone_fits = subst (λ (p : List (List Entry)). AreAllPossible before p) (sym (after_packets step now)) inner.earlier_fits.1;
  currents = subst (λ (n : ℕ). HaveCurrents n (steps_of others ++ before)) (sym (stepped_long step now))
      (let n : ℕ = length now.stores in
      let rest : HaveCurrents n (before ++ steps_of others) = currents_left n (before ++ steps_of others) undone inner.currents.1 in
      currents_both n (steps_of others) before (currents_right n before (steps_of others) rest) (currents_left n before (steps_of others) rest));
  current = subst (λ (n : ℕ). (after_step step now).current < n) (sym (stepped_long step now)) (after_current (length now.stores) step now inner.currents.0);
  own = own_after step now ((step ∷ (before ++ steps_of others)) ++ undone) (steps_of others ++ before)
      (stepped step now (steps_are_of_values.possible step now inner.earlier_fits.0))
      (λ q id.
      let a = held_both id q (step ∷ (before ++ steps_of others)) undone in
      let b = held_more id q step (before ++ steps_of others) in
      let c = held_both id q before (steps_of others) in
      let d = held_both id q (steps_of others) before in
      omega (arith, a, b, c, d))
      inner.own;
}

-- the same n times
undo_all : (n : ℕ) (earlier : List Made) (undone : List Step) (now : Content) → Inner now earlier undone → InnerOf (undo_steps n (trail_of now (record { earlier = earlier; undone = undone })))
undo_all zero earlier undone now inner = inner
undo_all (suc n) [] undone now inner = undo_all n [] undone now inner
undo_all (suc n) (made ∷ others) undone now inner = undo_all n others (way_back made.step now ∷ undone) (after_step made.step now) (undo_one made others undone now inner)

redo_all : (n : ℕ) (earlier : List Made) (undone : List Step) (now : Content) → Inner now earlier undone → InnerOf (redo_steps n (trail_of now (record { earlier = earlier; undone = undone })))
redo_all zero earlier undone now inner = inner
redo_all (suc n) earlier [] now inner = redo_all n earlier [] now inner
redo_all (suc n) earlier (step ∷ others) now inner = redo_all n (record { step = way_back step now; before = None } ∷ earlier) others (after_step step now) (redo_one step others earlier now inner)

drop_all : (n : ℕ) (earlier : List Made) (undone : List Step) (now : Content) → Inner now earlier undone → InnerOf (drop_steps n (trail_of now (record { earlier = earlier; undone = undone })))
drop_all zero earlier undone now inner = inner
drop_all (suc n) [] undone now inner = drop_all n [] undone now inner
drop_all (suc n) (made ∷ others) undone now inner =
    drop_all n others (unwrap_or made.before (way_back made.step now ∷ undone)) (after_step made.step now) (drop_one made.step made.before others undone now inner)

-- a change
change_sound : (step : Step) (steps : Remembered) (old new : List Listing) → AreSound steps old → length new ≡ length old → HasCurrent (length new) step → IsPossibleIn step (entries_of new)
    → packets_after step (entries_of new) ≡ entries_of old → OwnsLeft step old new → AreSound (remembering step steps) new
change_sound step steps old new sound long has fits leads owns = record {
  earlier = (fits, subst (λ (p : List (List Entry)). AreAllPossible steps.undone p) (sym leads) sound.undone, subst (λ (p : List (List Entry)). AreMadePossible steps.earlier p) (sym leads) sound.earlier);
  undone = tt;
  currents =
      let n : ℕ = length new in
      let all : HaveCurrents n (steps_of steps.earlier ++ steps.undone) = subst (λ (m : ℕ). HaveCurrents m (steps_of steps.earlier ++ steps.undone)) (sym long) sound.currents in
      let others : HaveCurrents n (steps.undone ++ steps_of steps.earlier) = currents_both n steps.undone (steps_of steps.earlier) (currents_right n (steps_of steps.earlier) steps.undone all) (currents_left n (steps_of steps.earlier) steps.undone all) in
      currents_both n (step ∷ (steps.undone ++ steps_of steps.earlier)) [] (has, others) tt;
  own = λ source within.
      let rest : List Entry = held source (steps_of steps.earlier ++ steps.undone) in
      let l : Listing = list_in new source in
      let before = owns source within rest (sound.own source (omega (arith, long, within))) in
      own_fewer l.next_id l.next_id (l.entries ++ (held source (step ∷ []) ++ rest)) (l.entries ++ held source ((step ∷ (steps.undone ++ steps_of steps.earlier)) ++ [])) (omega arith)
      (λ id.
      let a = many_both id l.entries (held source (step ∷ []) ++ rest) in
      let b = many_both id (held source (step ∷ [])) rest in
      let c = held_both id source (steps_of steps.earlier) steps.undone in
      let d = many_both id l.entries (held source ((step ∷ (steps.undone ++ steps_of steps.earlier)) ++ [])) in
      let e = held_both id source (step ∷ (steps.undone ++ steps_of steps.earlier)) [] in
      let f = held_more id source step (steps.undone ++ steps_of steps.earlier) in
      let g = held_both id source steps.undone (steps_of steps.earlier) in
      omega (arith, a, b, c, d, e, f, g))
      before;
}

begun_sound : (lists : List Listing) → ((source : ℕ) → source < length lists → HaveOwnIds (list_in lists source).next_id (list_in lists source).entries) → AreSound nothing lists
begun_sound lists own = record {
  earlier = tt;
  undone = tt;
  currents = tt;
  own = λ source within. own_fewer (list_in lists source).next_id (list_in lists source).next_id (list_in lists source).entries ((list_in lists source).entries ++ []) (omega arith)
      (λ id. let a = many_both id (list_in lists source).entries [] in omega (arith, a)) (own source within);
}

pub stay_sound : TrailsStaySound
stay_sound = record {
  begun = begun_sound;
  undone = λ n trail sound. outside (undo_steps n trail) (undo_all n trail.steps.earlier trail.steps.undone trail.now (inside trail sound));
  redone = λ n trail sound. outside (redo_steps n trail) (redo_all n trail.steps.earlier trail.steps.undone trail.now (inside trail sound));
  dropped = λ n trail sound. outside (drop_steps n trail) (drop_all n trail.steps.earlier trail.steps.undone trail.now (inside trail sound));
  changed = change_sound;
}

-- the history of a trail after one step
undo_past : (made : Made) (others : List Made) (undone : List Step) (now : Content) → IsPossibleIn made.step (past_of now).packets
    → history_by others (way_back made.step now ∷ undone) (past_of (after_step made.step now)) ≡ undo_from (earlier_by (made ∷ others) (past_of now)) (history_by (made ∷ others) undone (past_of now))
undo_past made others undone now fits =
    ap (λ (p : Past). history_by others (way_back made.step now ∷ undone) p) (steps_are_of_values.after made.step now)
    ∙ ap (λ (s : Step). history_by others (s ∷ undone) (past_after made.step (past_of now))) (steps_are_of_values.back made.step now)
    ∙ steps_keep_histories.undone made others undone (past_of now) fits

redo_past : (step : Step) (others : List Step) (earlier : List Made) (now : Content) → IsPossibleIn step (past_of now).packets
    → history_by (record { step = way_back step now; before = None } ∷ earlier) others (past_of (after_step step now)) ≡ redo_from (values_by (step ∷ others) (past_of now)) (history_by earlier (step ∷ others) (past_of now))
redo_past step others earlier now fits =
    ap (λ (p : Past). history_by (record { step = way_back step now; before = None } ∷ earlier) others p) (steps_are_of_values.after step now)
    ∙ ap (λ (s : Step). history_by (record { step = s; before = None } ∷ earlier) others (past_after step (past_of now))) (steps_are_of_values.back step now)
    ∙ steps_keep_histories.redone step earlier others (past_of now) fits

drop_past : (step : Step) (before : Option (List Step)) (others : List Made) (undone : List Step) (now : Content) → IsPossibleIn step (past_of now).packets
    → history_by others (unwrap_or before (way_back step now ∷ undone)) (past_of (after_step step now))
    ≡ drop_from (earlier_by (record { step = step; before = before } ∷ others) (past_of now)) (history_by (record { step = step; before = before } ∷ others) undone (past_of now))
drop_past step None others undone now fits = undo_past (record { step = step; before = None }) others undone now fits
drop_past step (Some before) others undone now fits =
    ap (λ (p : Past). history_by others before p) (steps_are_of_values.after step now) ∙ steps_keep_histories.dropped step before others undone (past_of now)

undo_history : (n : ℕ) (earlier : List Made) (undone : List Step) (now : Content) → Inner now earlier undone
    → history_of (undo_steps n (trail_of now (record { earlier = earlier; undone = undone }))) ≡ undo_times n (history_by earlier undone (past_of now))
undo_history zero earlier undone now inner = refl
undo_history (suc n) [] undone now inner = undo_history n [] undone now inner
undo_history (suc n) (made ∷ others) undone now inner =
    undo_history n others (way_back made.step now ∷ undone) (after_step made.step now) (undo_one made others undone now inner) ∙ ap (undo_times n) (undo_past made others undone now inner.earlier_fits.0)

redo_history : (n : ℕ) (earlier : List Made) (undone : List Step) (now : Content) → Inner now earlier undone
    → history_of (redo_steps n (trail_of now (record { earlier = earlier; undone = undone }))) ≡ redo_times n (history_by earlier undone (past_of now))
redo_history zero earlier undone now inner = refl
redo_history (suc n) earlier [] now inner = redo_history n earlier [] now inner
redo_history (suc n) earlier (step ∷ others) now inner =
    redo_history n (record { step = way_back step now; before = None } ∷ earlier) others (after_step step now) (redo_one step others earlier now inner) ∙ ap (redo_times n) (redo_past step others earlier now inner.undone_fits.0)

drop_history : (n : ℕ) (earlier : List Made) (undone : List Step) (now : Content) → Inner now earlier undone
    → history_of (drop_steps n (trail_of now (record { earlier = earlier; undone = undone }))) ≡ drop_times n (history_by earlier undone (past_of now))
drop_history zero earlier undone now inner = refl
drop_history (suc n) [] undone now inner = drop_history n [] undone now inner
drop_history (suc n) (made ∷ others) undone now inner =
    drop_history n others (unwrap_or made.before (way_back made.step now ∷ undone)) (after_step made.step now) (drop_one made.step made.before others undone now inner)
    ∙ ap (drop_times n) (drop_past made.step made.before others undone now inner.earlier_fits.0)

pub are_histories : TrailsAreHistories
are_histories = record {
  undone = λ n trail sound. undo_history n trail.steps.earlier trail.steps.undone trail.now (inside trail sound);
  redone = λ n trail sound. redo_history n trail.steps.earlier trail.steps.undone trail.now (inside trail sound);
  dropped = λ n trail sound. drop_history n trail.steps.earlier trail.steps.undone trail.now (inside trail sound);
  changed = λ step new trail is. steps_keep_histories.changed step trail.steps.earlier trail.steps.undone (past_of trail.now) (past_of new) is;
}

-- all of a list but its packets
abbrev bare : Listing → Listing
bare list = record list { entries = [] }

bare_after : (step : Step) (now : Content) → map bare (lists_of (after_step step now).stores) ≡ map bare (lists_of now.stores)
bare_after (Script script current) now = refl
bare_after (Packets source change current) now =
    let lists : List Listing = lists_of now.stores in
    let new : StoreValue = store_changed change (store_at now.stores source) in
    ap (map bare) (map-set (λ (store : StoreValue). store.list) now.stores source new)
    ∙ map-set bare lists source new.list
    ∙ ap (λ (l : Listing). slice_set (map bare lists) source (bare l)) (sym (list_there now.stores source))
    ∙ ap (λ (l : Listing). slice_set (map bare lists) source l) (sym (get_or-map bare lists source (starting 0 one_frame)))
    ∙ set-get_or (map bare lists) source (bare (starting 0 one_frame))

with_entries_of : (old new : List Listing) → map bare new ≡ map bare old → new ≡ lists_with (entries_of new) old
with_entries_of old [] is = by_old old is
  where
    by_old : (old : List Listing) → [] ≡ map bare old → [] ≡ lists_with [] old
    by_old [] is = refl
    by_old (l ∷ old) is = cc
with_entries_of [] (l ∷ new) is = cc
with_entries_of (k ∷ old) (l ∷ new) is =
    let first : bare l ≡ bare k = heads (bare l) (bare k) (map bare new) (map bare old) is in
    let rest = with_entries_of old new (tails (bare l) (bare k) (map bare new) (map bare old) is) in
    ap (λ (m : Listing). record m { entries = l.entries } ∷ new) first ∙ ap (λ (ls : List Listing). record k { entries = l.entries } ∷ ls) rest
  where
    heads : (a b : Listing) (us vs : List Listing) → a ∷ us ≡ b ∷ vs → a ≡ b
    heads a b us vs e = cc

    tails : (a b : Listing) (us vs : List Listing) → a ∷ us ≡ b ∷ vs → us ≡ vs
    tails a b us vs e = cc

bare_undo : (n : ℕ) (earlier : List Made) (undone : List Step) (now : Content) → map bare (lists_of (undo_steps n (trail_of now (record { earlier = earlier; undone = undone }))).now.stores) ≡ map bare (lists_of now.stores)
bare_undo zero earlier undone now = refl
bare_undo (suc n) [] undone now = bare_undo n [] undone now
bare_undo (suc n) (made ∷ others) undone now = bare_undo n others (way_back made.step now ∷ undone) (after_step made.step now) ∙ bare_after made.step now

bare_redo : (n : ℕ) (earlier : List Made) (undone : List Step) (now : Content) → map bare (lists_of (redo_steps n (trail_of now (record { earlier = earlier; undone = undone }))).now.stores) ≡ map bare (lists_of now.stores)
bare_redo zero earlier undone now = refl
bare_redo (suc n) earlier [] now = bare_redo n earlier [] now
bare_redo (suc n) earlier (step ∷ others) now = bare_redo n (record { step = way_back step now; before = None } ∷ earlier) others (after_step step now) ∙ bare_after step now

bare_drop : (n : ℕ) (earlier : List Made) (undone : List Step) (now : Content) → map bare (lists_of (drop_steps n (trail_of now (record { earlier = earlier; undone = undone }))).now.stores) ≡ map bare (lists_of now.stores)
bare_drop zero earlier undone now = refl
bare_drop (suc n) [] undone now = bare_drop n [] undone now
bare_drop (suc n) (made ∷ others) undone now = bare_drop n others (unwrap_or made.before (way_back made.step now ∷ undone)) (after_step made.step now) ∙ bare_after made.step now

pub keep_next_ids : StepsKeepNextIds
keep_next_ids = record {
  undone = λ n trail. with_entries_of (lists_of trail.now.stores) (lists_of (undo_steps n trail).now.stores) (bare_undo n trail.steps.earlier trail.steps.undone trail.now);
  redone = λ n trail. with_entries_of (lists_of trail.now.stores) (lists_of (redo_steps n trail).now.stores) (bare_redo n trail.steps.earlier trail.steps.undone trail.now);
  dropped = λ n trail. with_entries_of (lists_of trail.now.stores) (lists_of (drop_steps n trail).now.stores) (bare_drop n trail.steps.earlier trail.steps.undone trail.now);
}
