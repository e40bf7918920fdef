-- Undo, redo and drop.
use Rattle.std.proofs.Common.{◌≡◌, ℕ, zero, suc, List, [], ◌∷◌, length, refl, ap, ◌∙◌}
use Rattle.edit_history.specs.Histories.{DropTakesChangesBack, Earlier, History, Past, RedoTakesUndoBack, changed_by, changed_to, drop_from, drop_times, redo_from, undo_from, values_of}

pub redo_back : RedoTakesUndoBack
redo_back history newest others is = by_earlier history.earlier is refl
  where
    by_earlier : (earlier : List (Earlier Past)) → earlier ≡ newest ∷ others → history.earlier ≡ earlier
        → let back = redo_from (undo_from earlier history).undone (undo_from earlier history) in (back.now ≡ history.now) × (values_of back.earlier ≡ values_of earlier) × (back.undone ≡ history.undone)
    by_earlier [] h e = cc
    by_earlier (entry ∷ rest) h e = (refl, refl, refl)

-- one drop more
abbrev drop_once : {V : Type 0} → History V → History V
drop_once history = drop_from history.earlier history

dropped_last : {V : Type 0} (n : ℕ) (history : History V) → drop_times (suc n) history ≡ drop_once (drop_times n history)
dropped_last zero history = refl
dropped_last (suc n) history = dropped_last n (drop_from history.earlier history)

pub drop_back : DropTakesChangesBack
drop_back history [] = refl
drop_back history (value ∷ values) =
    dropped_last (length values) (changed_by values (changed_to value history))
    ∙ ap (λ (h : History Past). drop_from h.earlier h) (drop_back (changed_to value history) values)
