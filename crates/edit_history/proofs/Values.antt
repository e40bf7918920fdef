-- The values that steps lead to.
use Rattle.std.proofs.Common.{◌≡◌, ℕ, List, [], ◌∷◌, length, map, slice_set, Some, None, refl, sym, ap, subst, ◌∙◌, arith}
use Rattle.std.proofs.lemmas.List.{get_or-set_same, length-map, length-set, map-set, set-get_or, set-set}
use Rattle.std.proofs.Math.ListN.{get_or-map}
use Rattle.packet_edits.specs.declared.entry.Entry.{Entry}
use Rattle.packet_edits.specs.Marks.{StoreValue}
use Rattle.edit_history.specs.declared.step.Step.{Step}
use Rattle.edit_history.specs.declared.step.Step.TheVariants.{Packets, Script}
use Rattle.edit_history.specs.Changes.{IsPossible, back, changed, store_changed}
use Rattle.edit_history.specs.Histories.{Past, changed_to, redo_from, undo_from}
use Rattle.edit_history.specs.Steps.{Content, IsPossibleStep, after_step, store_at, way_back}
use Rattle.edit_history.specs.Values.{IsPossibleOf, Made, StepsAreOfValues, StepsKeepHistories, StepsLeadBack, earlier_by, history_by, packets_at, past_after, past_back, past_of, values_by}
use Rattle.edit_history.proofs.Changes.{all_lead_back}

abbrev with_packets : Past → ℕ → List (List Entry) → Past
with_packets past current packets = record past { packets = packets; current = current }

leads_back : (step : Step) (past : Past) → IsPossibleOf step past → past_after (past_back step past) (past_after step past) ≡ past
leads_back (Script script current) past possible = refl
leads_back (Packets source change current) past possible =
    let es : List Entry = packets_at past.packets source in
    let made : List (List Entry) = slice_set past.packets source (changed change es) in
    let here : packets_at made source ≡ changed change es = get_or-set_same past.packets source (changed change es) _ possible.0 in
    let again : changed (back change es) (packets_at made source) ≡ es = ap (changed (back change es)) here ∙ all_lead_back.leads_back change es possible.1 in
    ap (with_packets past past.current)
    (ap (slice_set made source) again ∙ set-set past.packets source (changed change es) es ∙ set-get_or past.packets source [])

possible_back : (step : Step) (past : Past) → IsPossibleOf step past → IsPossibleOf (past_back step past) (past_after step past)
possible_back (Script script current) past possible = tt
possible_back (Packets source change current) past possible =
    let es : List Entry = packets_at past.packets source in
    let made : List (List Entry) = slice_set past.packets source (changed change es) in
    let long : length made ≡ length past.packets = length-set past.packets source (changed change es) in
    let here : packets_at made source ≡ changed change es = get_or-set_same past.packets source (changed change es) _ possible.0 in
    (omega (arith, long, possible.0), subst (λ (xs : List Entry). IsPossible (back change es) xs) (sym here) (all_lead_back.possible change es possible.1))

pub steps_lead_back : StepsLeadBack
steps_lead_back = record { leads_back = leads_back; possible = possible_back }

read_same : (stores : List StoreValue) (source : ℕ) → packets_at (map (λ (store : StoreValue). store.list.entries) stores) source ≡ (store_at stores source).list.entries
read_same stores source = get_or-map (λ (store : StoreValue). store.list.entries) stores source _

after_of : (step : Step) (now : Content) → past_of (after_step step now) ≡ past_after step (past_of now)
after_of (Script script current) now = refl
after_of (Packets source change current) now =
    ap (with_packets (past_of now) current)
    (map-set (λ (store : StoreValue). store.list.entries) now.stores source (store_changed change (store_at now.stores source))
    ∙ ap (λ (es : List Entry). slice_set (map (λ (store : StoreValue). store.list.entries) now.stores) source (changed change es)) (sym (read_same now.stores source)))

back_of : (step : Step) (now : Content) → way_back step now ≡ past_back step (past_of now)
back_of (Script script current) now = refl
back_of (Packets source change current) now = ap (λ (es : List Entry). Packets source (back change es) now.current) (sym (read_same now.stores source))

possible_of : (step : Step) (now : Content) → IsPossibleOf step (past_of now) → IsPossibleStep step now
possible_of (Script script current) now possible = tt
possible_of (Packets source change current) now possible =
    let long : length (map (λ (store : StoreValue). store.list.entries) now.stores) ≡ length now.stores = length-map now.stores (λ (store : StoreValue). store.list.entries) in
    (omega (arith, long, possible.0), subst (λ (es : List Entry). IsPossible change es) (read_same now.stores source) possible.1)

pub steps_are_of_values : StepsAreOfValues
steps_are_of_values = record { after = after_of; back = back_of; possible = possible_of }

undone_one : (made : Made) (earlier : List Made) (undone : List Step) (past : Past) → IsPossibleOf made.step past
    → history_by earlier (past_back made.step past ∷ undone) (past_after made.step past) ≡ undo_from (earlier_by (made ∷ earlier) past) (history_by (made ∷ earlier) undone past)
undone_one made earlier undone past possible =
    let value : Past = past_after made.step past in
    let back : past_after (past_back made.step past) value ≡ past = leads_back made.step past possible in
    ap (λ (p : Past). record { now = value; earlier = earlier_by earlier value; undone = p ∷ values_by undone p }) back

redone_one : (step : Step) (earlier : List Made) (undone : List Step) (past : Past) → IsPossibleOf step past
    → history_by (record { step = past_back step past; before = None } ∷ earlier) undone (past_after step past) ≡ redo_from (values_by (step ∷ undone) past) (history_by earlier (step ∷ undone) past)
redone_one step earlier undone past possible =
    let value : Past = past_after step past in
    let back : past_after (past_back step past) value ≡ past = leads_back step past possible in
    ap (λ (p : Past). record { now = value; earlier = record { value = p; undone = None } ∷ earlier_by earlier p; undone = values_by undone value }) back

changed_one : (step : Step) (earlier : List Made) (undone : List Step) (past new : Past) → past_after step new ≡ past
    → history_by (record { step = step; before = Some undone } ∷ earlier) [] new ≡ changed_to new (history_by earlier undone past)
changed_one step earlier undone past new is = ap (λ (p : Past). record { now = new; earlier = record { value = p; undone = Some (values_by undone p) } ∷ earlier_by earlier p; undone = [] }) is

pub steps_keep_histories : StepsKeepHistories
steps_keep_histories = record { undone = undone_one; redone = redone_one; changed = changed_one; dropped = λ step before earlier undone past. refl }
