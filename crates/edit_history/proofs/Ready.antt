-- Changes that may be made.
use Rattle.std.proofs.Common.{◌≡◌, ℕ, zero, suc, ◌-◌, ◌<◌, Bool, true, false, List, [], ◌∷◌, ◌++◌, length, slice_get, slice_index_or, Some, sym, ap, subst, ◌∙◌, arith, append_assoc}
use Rattle.std.specs.List.{remove}
use Rattle.packet_edits.specs.declared.entry.Entry.{Entry}
use Rattle.packet_edits.specs.Laws.{HasOwnIds, IsNotAmong}
use Rattle.packet_edits.specs.Marks.{StoreValue}
use Rattle.packet_edits.specs.Returns.{MayReturn, vacant}
use Rattle.packet_edits.proofs.Ids.{taken_out}
use Rattle.edit_history.specs.declared.change.Change.{Change}
use Rattle.edit_history.specs.declared.change.Change.TheVariants.{Exchange, Put}
use Rattle.edit_history.specs.declared.step.Step.{Step}
use Rattle.edit_history.specs.Changes.{IsReady, last_of}
use Rattle.edit_history.specs.Steps.{last_first}
use Rattle.edit_history.proofs.Orders.{last_more, same_last}

-- an element that is read
pub got : {A : Type 0} (xs : List A) (i : ℕ) (x : A) → i < length xs → x ≡ slice_index_or xs i x → slice_get xs i ≡ Some x
got [] i x within is = absurd (omega (arith, within))
got (y ∷ xs) zero x within is = ap (λ z. Some z) (sym is)
got (y ∷ xs) (suc i) x within is = got xs i x (omega (arith, within)) is

got_within : {A : Type 0} (xs : List A) (i : ℕ) (x : A) → slice_get xs i ≡ Some x → i < length xs
got_within [] i x here = cc
got_within (y ∷ xs) zero x here = omega arith
got_within (y ∷ xs) (suc i) x here = let rest = got_within xs i x here in omega (arith, rest)

-- a packet that returns to its place
pub put_may : (change : Change) (at place : ℕ) (entry : Entry) (store : StoreValue) → change ≡ Put at entry → IsReady change store → HasOwnIds store.list → place ≡ length store.list.entries → MayReturn entry store.list.next_id (remove store.list.entries (place - 1))
put_may change at place entry store is ready own last =
    let so : IsReady (Put at entry) store = subst (λ (c : Change). IsReady c store) is ready in
    let out = taken_out store.list.next_id (last_of store) (vacant entry) store.list.entries own so.1 in
    let here : last_of store ≡ place - 1 = ap (λ (n : ℕ). n - 1) (sym last) in
    subst (λ (n : ℕ). MayReturn entry store.list.next_id (remove store.list.entries n)) here (record { below = out.below; away = out.away })

-- a packet that is exchanged
there_at : (cuts : Bool) (at : ℕ) (entry : Entry) (store : StoreValue) → IsReady (Exchange at entry cuts) store → at < length store.list.entries
there_at true at entry store ready = ready.0
there_at false at entry store ready = got_within store.list.entries at ready.0 ready.1

may_at : (cuts : Bool) (at : ℕ) (entry : Entry) (store : StoreValue) → HasOwnIds store.list → IsReady (Exchange at entry cuts) store → MayReturn entry store.list.next_id (remove store.list.entries at)
may_at true at entry store own ready = ready.1
may_at false at entry store own ready =
    let out = taken_out store.list.next_id at ready.0 store.list.entries own ready.1 in
    record {
      below = subst (λ (id : ℕ). id < store.list.next_id) (sym ready.2) out.below;
      away = subst (λ (id : ℕ). IsNotAmong id (remove store.list.entries at)) (sym ready.2) out.away;
    }

pub exchange_there : (change : Change) (at : ℕ) (entry : Entry) (cuts : Bool) (store : StoreValue) → change ≡ Exchange at entry cuts → IsReady change store → at < length store.list.entries
exchange_there change at entry cuts store is ready = there_at cuts at entry store (subst (λ (c : Change). IsReady c store) is ready)

pub exchange_may : (change : Change) (at : ℕ) (entry : Entry) (cuts : Bool) (store : StoreValue) → change ≡ Exchange at entry cuts → IsReady change store → HasOwnIds store.list → MayReturn entry store.list.next_id (remove store.list.entries at)
exchange_may change at entry cuts store is ready own = may_at cuts at entry store own (subst (λ (c : Change). IsReady c store) is ready)

-- the last step of a vector
pub record IsPopped (front left new : List Step) (step : Step) : Type 0 where
  pub rest : List Step
  pub first : left ≡ step ∷ rest
  pub others : new ≡ front ++ last_first rest

pub popped : (front left items new : List Step) (step : Step) → items ≡ front ++ last_first left → items ≡ new ++ step ∷ [] → 0 < length left → IsPopped front left new step
popped front [] items new step whole end some = absurd (omega (arith, some))
popped front (x ∷ rest) items new step whole end some =
    let both : (front ++ last_first rest) ++ x ∷ [] ≡ new ++ step ∷ [] = append_assoc front (last_first rest) (x ∷ []) ∙ ap (λ (zs : List Step). front ++ zs) (sym (last_more x rest)) ∙ sym whole ∙ end in
    let same = same_last (front ++ last_first rest) new x step both in
    record { rest = rest; first = ap (λ (s : Step). s ∷ rest) same.last; others = sym same.front }
