-- Places that are made and removed, step by step.
use Rattle.std.proofs.Common.{◌≡◌, ℕ, zero, suc, ◌+◌, ◌-◌, ◌<◌, ◌≤◌, Bool, true, false, List, [], ◌∷◌, length, take, slice_get, slice_index_or, slice_set, Some, refl, sym, ap, subst, ◌∙◌, arith}
use Rattle.std.specs.List.{insert, remove}
use Rattle.std.proofs.lemmas.List.{get_or-set_same, length-set, set-get_or, set-set}
use Rattle.std.proofs.lemmas.List.Edits.{length-insert}
use Rattle.packet_edits.specs.declared.entry.Entry.{Entry}
use Rattle.packet_edits.specs.Edits.{Listing, deleted}
use Rattle.packet_edits.specs.Marks.{StoreValue, marked_at, marks_deleted, marks_inserted}
use Rattle.packet_edits.specs.Returns.{vacant}
use Rattle.packet_edits.proofs.Mapped.{length_set, remove_inserted}
use Rattle.edit_history.specs.declared.change.Change.TheVariants.{Exchange, Move, Put, Take}
use Rattle.edit_history.specs.declared.step.Step.{Step}
use Rattle.edit_history.specs.declared.step.Step.TheVariants.{Packets, Script}
use Rattle.edit_history.specs.Places.{ArePlaceable, IsDroppable, IsPlaceable, placed, with_place, with_places, without_place}
use Rattle.edit_history.specs.Changes.{last_of}
use Rattle.edit_history.specs.Laws.{AreMarked}
use Rattle.edit_history.specs.Steps.{store_at}

-- a place more
pub places_more : (steps : List Step) (i : ℕ) (step : Step) (stores : List StoreValue) → slice_get steps i ≡ Some step → with_places (take (suc i) steps) stores ≡ with_place step (with_places (take i steps) stores)
places_more [] i step stores here = cc
places_more (s ∷ steps) zero step stores here = let is : s ≡ step = cc in ap (λ (t : Step). with_place t stores) is
places_more (s ∷ steps) (suc i) step stores here = places_more steps i step (with_place s stores) here

pub placeable_at : (steps : List Step) (i : ℕ) (step : Step) (stores : List StoreValue) → slice_get steps i ≡ Some step → ArePlaceable steps stores → IsPlaceable step (with_places (take i steps) stores)
placeable_at [] i step stores here may = cc
placeable_at (s ∷ steps) zero step stores here may = let is : s ≡ step = cc in subst (λ (t : Step). IsPlaceable t stores) is may.0
placeable_at (s ∷ steps) (suc i) step stores here may = placeable_at steps i step (with_place s stores) here may.1

pub front_placeable : (steps : List Step) (i : ℕ) (stores : List StoreValue) → ArePlaceable steps stores → ArePlaceable (take i steps) stores
front_placeable steps zero stores may = tt
front_placeable [] (suc i) stores may = tt
front_placeable (s ∷ steps) (suc i) stores may = (may.0, front_placeable steps i (with_place s stores) may.1)

past : (xs : List Bool) (at : ℕ) (x : Bool) → length xs ≤ at → slice_set xs at x ≡ xs
past [] at x beyond = refl
past (z ∷ xs) zero x beyond = absurd (omega (arith, beyond))
past (z ∷ xs) (suc at) x beyond = ap (λ (ys : List Bool). z ∷ ys) (past xs at x (omega (arith, beyond)))

-- the marks without the place
marks_back : (marks : List Bool) (n : ℕ) → n ≡ length marks → marks_deleted n (marks_inserted n marks) ≡ marks
marks_back marks n is =
    let long : length (insert marks n false) ≡ length marks + 1 = length-insert marks n false (omega (arith, is)) in
    ap (λ (ms : List Bool). marked_at n (remove ms n)) (past (insert marks n false) (n + 1) true (omega (arith, long, is)))
    ∙ ap (marked_at n) (remove_inserted marks n false (omega (arith, is)))
    ∙ past marks n true (omega (arith, is))

-- a list without its place
pub place_back : (e : Entry) (store made : StoreValue) (last : ℕ) → length (placed e store).marks ≡ length (placed e store).list.entries → last ≡ length (placed e store).list.entries - 1
    → made.list ≡ deleted last (placed e store).list → made.marks ≡ marks_deleted last (placed e store).marks → made ≡ store
place_back e store made last marked is list marks =
    let n : ℕ = length store.list.entries in
    let long : length (insert store.list.entries n (vacant e)) ≡ n + 1 = length-insert store.list.entries n (vacant e) (omega arith) in
    let at : last ≡ n = omega (arith, is, long) in
    let count : length (marked_at (n + 1) (insert store.marks n false)) ≡ length (insert store.marks n false) = length_set (insert store.marks n false) (n + 1) true in
    let same : n ≡ length store.marks = as_long store.marks n (omega (arith, marked, long, count)) in
    let list' : made.list ≡ store.list = list ∙ ap (λ (k : ℕ). deleted k (placed e store).list) at ∙ ap (λ (es : List Entry). record store.list { entries = es }) (remove_inserted store.list.entries n (vacant e) (omega arith)) in
    let marks' : made.marks ≡ store.marks = marks ∙ ap (λ (k : ℕ). marks_deleted k (placed e store).marks) at ∙ marks_back store.marks n same in
    subst (λ (m : List Bool). made ≡ record { list = store.list; marks = m }) marks' (subst (λ (l : Listing). made ≡ record { list = l; marks = made.marks }) list' refl)
  where
    as_long : (marks : List Bool) (n : ℕ) → length (insert marks n false) ≡ n + 1 → n ≡ length marks
    as_long [] zero long = refl
    as_long [] (suc n) long = absurd (omega (arith, long))
    as_long (m ∷ marks) zero long = absurd (omega (arith, long))
    as_long (m ∷ marks) (suc n) long = let rest = as_long marks n (omega (arith, long)) in omega (arith, rest)

-- sources without a place
pub stores_back : (stores : List StoreValue) (source : ℕ) (e : Entry) (made : StoreValue) → made ≡ store_at stores source → slice_set (slice_set stores source (placed e (store_at stores source))) source made ≡ stores
stores_back stores source e made is = set-set stores source (placed e (store_at stores source)) made ∙ ap (slice_set stores source) is ∙ set-get_or stores source _

pub placed_there : (stores : List StoreValue) (source : ℕ) (e : Entry) → source < length stores → store_at (slice_set stores source (placed e (store_at stores source))) source ≡ placed e (store_at stores source)
placed_there stores source e within = get_or-set_same stores source (placed e (store_at stores source)) _ within

-- a source that exists, however the list is read past its end
any_default : (stores : List StoreValue) (source : ℕ) (d e : StoreValue) → source < length stores → slice_index_or stores source d ≡ slice_index_or stores source e
any_default [] source d e within = absurd (omega (arith, within))
any_default (s ∷ stores) zero d e within = refl
any_default (s ∷ stores) (suc source) d e within = any_default stores source d e (omega (arith, within))

pub found : (stores : List StoreValue) (source : ℕ) (d : StoreValue) → source < length stores → slice_index_or stores source d ≡ store_at stores source
found stores source d within = any_default stores source d _ within

-- a place that is removed
pub droppable : (step : Step) (before : List StoreValue) → IsPlaceable step before → IsDroppable step (with_place step before)
droppable (Packets source (Put at e) current) before may =
    let s : StoreValue = store_at before source in
    let long : length (slice_set before source (placed e s)) ≡ length before = length-set before source (placed e s) in
    let some : length (insert s.list.entries (length s.list.entries) (vacant e)) ≡ length s.list.entries + 1 = length-insert s.list.entries (length s.list.entries) (vacant e) (omega arith) in
    let there : 0 < length (placed e s).list.entries = omega (arith, some) in
    (omega (arith, long, may.0), subst (λ (x : StoreValue). 0 < length x.list.entries) (sym (placed_there before source e may.0)) there)
droppable (Packets source (Take at) current) before may = tt
droppable (Packets source (Exchange at e cuts) current) before may = tt
droppable (Packets source (Move from to) current) before may = tt
droppable (Script script current) before may = tt

-- packets and marks without the last packet
abbrev dropped : StoreValue → StoreValue
dropped store = record { list = deleted (last_of store) store.list; marks = marks_deleted (last_of store) store.marks }

pub back_place : (step : Step) (before : List StoreValue) → IsPlaceable step before → AreMarked (with_place step before) → without_place step (with_place step before) ≡ before
back_place (Packets source (Put at e) current) before may marked =
    let s : StoreValue = store_at before source in
    let p : StoreValue = placed e s in
    let long : length (slice_set before source p) ≡ length before = length-set before source p in
    let there : store_at (slice_set before source p) source ≡ p = placed_there before source e may.0 in
    let here : length p.marks ≡ length p.list.entries = subst (λ (x : StoreValue). length x.marks ≡ length x.list.entries) there (marked source (omega (arith, long, may.0))) in
    let back : dropped p ≡ s = place_back e s (dropped p) (last_of p) here refl refl refl in
    ap (λ (x : StoreValue). slice_set (slice_set before source p) source (dropped x)) there ∙ stores_back before source e (dropped p) back
back_place (Packets source (Take at) current) before may marked = refl
back_place (Packets source (Exchange at e cuts) current) before may marked = refl
back_place (Packets source (Move from to) current) before may marked = refl
back_place (Script script current) before may marked = refl

-- the place of the last of some steps
pub last_place : (steps : List Step) (i : ℕ) (step : Step) (before : List StoreValue) → 0 < i → slice_get steps (i - 1) ≡ Some step → with_places (take i steps) before ≡ with_place step (with_places (take (i - 1) steps) before)
last_place steps zero step before some here = absurd (omega (arith, some))
last_place steps (suc i) step before some here =
    let less : suc i - 1 ≡ i = omega arith in
    let there : slice_get steps i ≡ Some step = ap (slice_get steps) (sym less) ∙ here in
    places_more steps i step before there ∙ ap (λ (n : ℕ). with_place step (with_places (take n steps) before)) (sym less)

pub next_place : (steps : List Step) (i : ℕ) (step : Step) (before : List StoreValue) → slice_get steps i ≡ Some step → with_place step (with_places (take i steps) before) ≡ with_places (take (i + 1) steps) before
next_place steps i step before here = sym (places_more steps i step before here) ∙ ap (λ (n : ℕ). with_places (take n steps) before) (one_more i)
  where
    one_more : (i : ℕ) → suc i ≡ i + 1
    one_more i = omega arith
