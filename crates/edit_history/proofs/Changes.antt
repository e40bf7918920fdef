-- A change leads back.
use Rattle.std.proofs.Common.{◌≡◌, ℕ, zero, suc, ◌<◌, ◌≤◌, ◌⊎◌, inl, inr, Bool, true, false, List, [], ◌∷◌, length, slice_get, slice_set, Option, Some, sym, subst, ◌∙◌, arith}
use Rattle.std.specs.List.{remove}
use Rattle.std.specs.Option.{option_map_or}
use Rattle.std.proofs.lemmas.List.Edits.{length-insert}
use Rattle.packet_edits.specs.declared.entry.Entry.{Entry}
use Rattle.packet_edits.specs.Edits.{showing}
use Rattle.packet_edits.specs.Returns.{AreAlikeButShown}
use Rattle.packet_edits.proofs.Mapped.{get_set, length_moved, length_removed, length_set, remove_inserted, set_again, set_same, stands}
use Rattle.packet_edits.proofs.Returns.{insert_removed, moved_back}
use Rattle.edit_history.specs.declared.change.Change.{Change}
use Rattle.edit_history.specs.declared.change.Change.TheVariants.{Exchange, Move, Put, Take}
use Rattle.edit_history.specs.Changes.{IsPossible, back, changed}
use Rattle.edit_history.specs.Laws.{ChangesLeadBack}

-- the packet at an index that is exchanged
pub exchanged_there : (cuts : Bool) (at : ℕ) (e : Entry) (es : List Entry) → IsPossible (Exchange at e cuts) es → at < length es
exchanged_there true at e es possible = possible
exchanged_there false at e es possible = within es at possible.0 possible.1
  where
    within : (es : List Entry) (at : ℕ) (x : Entry) → slice_get es at ≡ Some x → at < length es
    within [] at x here = cc
    within (y ∷ es) zero x here = omega arith
    within (y ∷ es) (suc at) x here = let rest = within es at x here in omega (arith, rest)

leads_back : (change : Change) (es : List Entry) → IsPossible change es → changed (back change es) (changed change es) ≡ es
leads_back (Put at e) es possible = remove_inserted es at e possible
leads_back (Take at) es possible =
    let s = stands es at possible in
    subst (λ (o : Option Entry). changed (option_map_or (λ entry. Put at entry) o (Take at)) (remove es at) ≡ es) (sym s.here) (insert_removed es at s.element s.here)
leads_back (Exchange at e cuts) es possible =
    let s = stands es at (exchanged_there cuts at e es possible) in
    subst (λ (o : Option Entry). changed (option_map_or (λ old. Exchange at old cuts) o (Exchange at e cuts)) (slice_set es at e) ≡ es) (sym s.here)
    (set_again es at e s.element ∙ set_same es at s.element s.here)
leads_back (Move from to) es possible = moved_back from to es possible.0 possible.1

alike_back : (one other : Entry) → AreAlikeButShown one other → AreAlikeButShown other one
alike_back one other alike = (alike.0, turned alike.1)
  where
    turned : (one ≡ showing alike.0 other) ⊎ (other ≡ showing alike.0 one) → (other ≡ showing alike.0 one) ⊎ (one ≡ showing alike.0 other)
    turned (inl is) = inr is
    turned (inr is) = inl is

exchange_back : (cuts : Bool) (at : ℕ) (e x : Entry) (es : List Entry) → slice_get es at ≡ Some x → at < length es → IsPossible (Exchange at e cuts) es → IsPossible (Exchange at x cuts) (slice_set es at e)
exchange_back true at e x es here within possible = let long = length_set es at e in omega (arith, long, within)
exchange_back false at e x es here within possible =
    let is : possible.0 ≡ x = same possible.0 (sym possible.1 ∙ here) in
    (e, get_set es at e within, alike_back x e (subst (λ (o : Entry). AreAlikeButShown o e) is possible.2))
  where
    same : (o : Entry) → Some o ≡ Some x → o ≡ x
    same o h = cc

is_possible : (change : Change) (es : List Entry) → IsPossible change es → IsPossible (back change es) (changed change es)
is_possible (Put at e) es possible = let long = length-insert es at e possible in omega (arith, long, possible)
is_possible (Take at) es possible =
    let s = stands es at possible in
    let left = length_removed es at possible in
    let fits : at ≤ length (remove es at) = omega (arith, left, possible) in
    subst (λ (o : Option Entry). IsPossible (option_map_or (λ entry. Put at entry) o (Take at)) (remove es at)) (sym s.here) fits
is_possible (Exchange at e cuts) es possible =
    let within = exchanged_there cuts at e es possible in
    let s = stands es at within in
    subst (λ (o : Option Entry). IsPossible (option_map_or (λ old. Exchange at old cuts) o (Exchange at e cuts)) (slice_set es at e)) (sym s.here) (exchange_back cuts at e s.element es s.here within possible)
is_possible (Move from to) es possible = let long = length_moved from to es possible.0 possible.1 in (omega (arith, long, possible.1), omega (arith, long, possible.0))

pub all_lead_back : ChangesLeadBack
all_lead_back = record { leads_back = leads_back; possible = is_possible }
