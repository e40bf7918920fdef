-- The ids of the packets of a list and of those that steps own.
use Rattle.std.proofs.Common.{◌≡◌, ℕ, zero, suc, ◌⊎◌, inl, inr, true, false, List, [], ◌∷◌, ◌++◌, slice_get, refl, sym, ap, subst, ◌∙◌}
use Rattle.std.specs.List.{remove}
use Rattle.packet_edits.specs.declared.entry.Entry.{Entry}
use Rattle.packet_edits.specs.Edits.{showing}
use Rattle.packet_edits.specs.Laws.{HaveOwnIds, IsNotAmong}
use Rattle.packet_edits.specs.Returns.{AreAlikeButShown, MayReturn}
use Rattle.packet_edits.proofs.Ids.{moved_own, own_inserted, own_removed, own_same}
use Rattle.packet_edits.proofs.Returns.{own_put}
use Rattle.edit_history.specs.declared.change.Change.{Change}
use Rattle.edit_history.specs.declared.change.Change.TheVariants.{Exchange, Move, Put, Take}
use Rattle.edit_history.specs.Changes.{IsPossible, changed}
use Rattle.edit_history.proofs.Changes.{exchanged_there}
use Rattle.edit_history.proofs.Lists.{get_front, insert_front, moved_front, remove_front, set_front}

-- the packets that a change owns and whose ids no packet has
abbrev pub owned_before : Change → List Entry → List Entry
owned_before (Put at e) owned = e ∷ owned
owned_before (Exchange at e true) owned = e ∷ owned
owned_before change owned = owned

away_left : (id : ℕ) (xs ys : List Entry) → IsNotAmong id (xs ++ ys) → IsNotAmong id xs
away_left id [] ys away = tt
away_left id (x ∷ xs) ys away = (away.0, away_left id xs ys away.1)

away_right : (id : ℕ) (xs ys : List Entry) → IsNotAmong id (xs ++ ys) → IsNotAmong id ys
away_right id [] ys away = away
away_right id (x ∷ xs) ys away = away_right id xs ys away.1

pub away_both : (id : ℕ) (xs ys : List Entry) → IsNotAmong id xs → IsNotAmong id ys → IsNotAmong id (xs ++ ys)
away_both id [] ys a b = b
away_both id (x ∷ xs) ys a b = (a.0, away_both id xs ys a.1 b)

-- a packet between others
pub middle_may : (next : ℕ) (e : Entry) (xs ys : List Entry) → HaveOwnIds next (xs ++ e ∷ ys) → MayReturn e next (xs ++ ys)
middle_may next e [] ys own = record { below = own.0; away = own.1 }
middle_may next e (x ∷ xs) ys own =
    let rest = middle_may next e xs ys own.2 in
    let other = away_right x.id xs (e ∷ ys) own.1 in
    record { below = rest.below; away = (λ same. other.0 (sym same), rest.away) }

without_middle : (id : ℕ) (e : Entry) (xs ys : List Entry) → IsNotAmong id (xs ++ e ∷ ys) → IsNotAmong id (xs ++ ys)
without_middle id e xs ys away = away_both id xs ys (away_left id xs (e ∷ ys) away) (away_right id xs (e ∷ ys) away).1

pub middle_left : (next : ℕ) (e : Entry) (xs ys : List Entry) → HaveOwnIds next (xs ++ e ∷ ys) → HaveOwnIds next (xs ++ ys)
middle_left next e [] ys own = own.2
middle_left next e (x ∷ xs) ys own = (own.0, without_middle x.id e xs ys own.1, middle_left next e xs ys own.2)

-- a change leaves different ids
pub own_changed : (change : Change) (next : ℕ) (es owned : List Entry) → IsPossible change es → HaveOwnIds next (es ++ owned_before change owned) → HaveOwnIds next (changed change es ++ owned)
own_changed (Put at e) next es owned possible own =
    let may = middle_may next e es owned own in
    subst (HaveOwnIds next) (insert_front es owned at e possible) (own_inserted next at e (es ++ owned) may.below may.away (middle_left next e es owned own))
own_changed (Take at) next es owned possible own = subst (HaveOwnIds next) (remove_front es owned at possible) (own_removed next at (es ++ owned) own)
own_changed (Exchange at e true) next es owned possible own =
    let may = middle_may next e es owned own in
    subst (HaveOwnIds next) (set_front es owned at e possible)
    (own_put next at e (es ++ owned) may.below (gone e.id (es ++ owned) at may.away) (middle_left next e es owned own))
  where
    none_gone : (id i : ℕ) → IsNotAmong id (remove [] i)
    none_gone id zero = tt
    none_gone id (suc i) = tt

    gone : (id : ℕ) (xs : List Entry) (i : ℕ) → IsNotAmong id xs → IsNotAmong id (remove xs i)
    gone id [] i away = none_gone id i
    gone id (x ∷ xs) zero away = away.1
    gone id (x ∷ xs) (suc i) away = (away.0, gone id xs i away.1)
own_changed (Exchange at e false) next es owned possible own =
    let within = exchanged_there false at e es possible in
    subst (HaveOwnIds next) (set_front es owned at e within)
    (own_same next at e possible.0 (es ++ owned) (get_front es owned at within ∙ possible.1) (same_id possible.0 e possible.2) own)
  where
    same_id : (one other : Entry) → AreAlikeButShown one other → other.id ≡ one.id
    same_id one other alike = by_side alike.1
      where
        by_side : (one ≡ showing alike.0 other) ⊎ (other ≡ showing alike.0 one) → other.id ≡ one.id
        by_side (inl is) = sym (ap (λ (x : Entry). x.id) is)
        by_side (inr is) = ap (λ (x : Entry). x.id) is
own_changed (Move from to) next es owned possible own =
    subst (HaveOwnIds next) (moved_front es owned from to possible.0 possible.1) (moved_own next from to (es ++ owned) (slice_get (es ++ owned) from) refl own)
