-- The results that forging a packet may have.
use Rattle.std.proofs.Common.{◌≡◌, ℕ, List, [], Bool, true, false, cond, Option, Some, None, Result, Ok, Err, length, option_map, refl, sym, ap, ◌∙◌, subst}
use Rattle.std.specs.Result.{result_unwrap_or}
use Rattle.vp8_tables.specs.declared.tables.Tables.{Tables}
use Rattle.packet_edits.specs.declared.fault.EditFault.{EditFault}
use Rattle.packet_edits.specs.declared.fault.EditFault.TheVariants as faults
use Rattle.packet_edits.specs.Edits.{Listing, inserted, refused_insertion}
use Rattle.packet_edits.specs.Faults.{unless_refused as told_unless}
use Rattle.packet_forge.specs.declared.faults.ForgeFault.{ForgeFault}
use Rattle.packet_forge.specs.declared.faults.ForgeFault.TheVariants as forging
use Rattle.packet_forge.specs.Faults.{ForgeRefuses}
use Rattle.packet_forge.specs.Packets.{blank_of}
use Rattle.request_lines.specs.declared.edit.Edit.{Edit}
use Rattle.request_lines.specs.declared.edit.Edit.TheVariants.{Insert}
use Rattle.frame_session.specs.declared.refusal.Refusal.{Refusal}
use Rattle.frame_session.specs.Edits.{after_edit, edit_of, edited, hold_bytes, inserted_forged, refusal_by, refusal_by_forging, refused_forged, stamp_before, count_unless}
use Rattle.frame_session.specs.IsOrNoMemory.{IsOrNoMemory}

-- no packet that is wanted is NoMemory
chosen_lacks_none : (outside large : Bool) (packet : List ℕ) → cond outside (Err forging.Size) (cond large (Err forging.TooLarge) (Ok packet)) ≡ Err forging.NoMemory → ⊥
chosen_lacks_none true large packet e = cc
chosen_lacks_none false true packet e = cc
chosen_lacks_none false false packet e = cc

pub blank_lacks_none : (tables : Tables) (width height : ℕ) → blank_of tables width height ≡ Err forging.NoMemory → ⊥
blank_lacks_none tables width height e = chosen_lacks_none _ _ _ e

pub held_lacks_none : (tables : Tables) (size : Option (ℕ × ℕ)) → hold_bytes tables size ≡ Err forging.NoMemory → ⊥
held_lacks_none tables None e = cc
held_lacks_none tables (Some size) e = chosen_lacks_none _ _ _ e

-- no insertion is refused as out of memory before it is made
insertion_lacks_none : (outside full spent : Bool) → cond outside (Some faults.Place) (cond full (Some faults.Full) (cond spent (Some faults.Spent) None)) ≡ Some faults.NoMemory → ⊥
insertion_lacks_none true full spent e = cc
insertion_lacks_none false true spent e = cc
insertion_lacks_none false false true e = cc
insertion_lacks_none false false false e = cc

-- the error that is reported is the first one
first_fault : (insertion : Option EditFault) (fault : EditFault) → told_unless insertion ≡ Err fault → insertion ≡ Some fault
first_fault None fault e = cc
first_fault (Some first) fault e = let same : first ≡ fault = cc in ap (λ (x : EditFault). Some x) same

-- no error is reported if there is none
no_fault : (insertion : Option EditFault) → told_unless insertion ≡ Ok tt → insertion ≡ None
no_fault None e = refl
no_fault (Some first) e = cc

told_first : (fault : EditFault) (forged : Result (List ℕ) ForgeFault) (count : ℕ) → (fault ≡ faults.NoMemory → ⊥) → IsOrNoMemory (count_unless (refused_forged (Some fault) forged) count) (Err (refusal_by fault))
told_first faults.Place forged count some = refl
told_first faults.Full forged count some = refl
told_first faults.Spent forged count some = refl
told_first faults.NoBit forged count some = refl
told_first faults.NoMemory forged count some = absurd (some refl)

-- an error of the insertion is reported first
pub insertion_refused : (list : Listing) (at : ℕ) (fault : EditFault) (forged : Result (List ℕ) ForgeFault) (count : ℕ) → told_unless (refused_insertion list at) ≡ Err fault → IsOrNoMemory (count_unless (refused_forged (refused_insertion list at) forged) count) (Err (refusal_by fault))
insertion_refused list at fault forged count e =
    let first : refused_insertion list at ≡ Some fault = first_fault (refused_insertion list at) fault e in
    let some : fault ≡ faults.NoMemory → ⊥ = λ lacks. insertion_lacks_none _ _ _ (first ∙ ap (λ (x : EditFault). Some x) lacks) in
    let P : Option EditFault → Type 0 = λ insertion. IsOrNoMemory (count_unless (refused_forged insertion forged) count) (Err (refusal_by fault)) in
    subst P (sym first) (told_first fault forged count some)

forging_given : (want : Result (List ℕ) ForgeFault) (count : ℕ) (fault : ForgeFault) → (want ≡ Err forging.NoMemory → ⊥) → ForgeRefuses want fault → IsOrNoMemory (count_unless (refused_forged None want) count) (Err (refusal_by_forging fault))
forging_given want count forging.Size some refused = rw refused refl
forging_given want count forging.TooLarge some refused = rw refused refl
forging_given (Ok packet) count forging.NoMemory some refused = tt
forging_given (Err forging.Size) count forging.NoMemory some refused = absurd (refused refl)
forging_given (Err forging.TooLarge) count forging.NoMemory some refused = tt
forging_given (Err forging.NoMemory) count forging.NoMemory some refused = absurd (some refl)

-- if the insertion has no error, the error of forging is reported
pub forging_refused : (list : Listing) (at : ℕ) (want : Result (List ℕ) ForgeFault) (count : ℕ) (fault : ForgeFault) → told_unless (refused_insertion list at) ≡ Ok tt → (want ≡ Err forging.NoMemory → ⊥) → ForgeRefuses want fault → IsOrNoMemory (count_unless (refused_forged (refused_insertion list at) want) count) (Err (refusal_by_forging fault))
forging_refused list at want count fault none some refused =
    let P : Option EditFault → Type 0 = λ insertion. IsOrNoMemory (count_unless (refused_forged insertion want) count) (Err (refusal_by_forging fault)) in
    subst P (sym (no_fault (refused_insertion list at) none)) (forging_given want count fault some refused)

same_refusal : (insertion : Option EditFault) (bytes : List ℕ) → option_map refusal_by insertion ≡ refused_forged insertion (Ok bytes)
same_refusal None bytes = refl
same_refusal (Some fault) bytes = refl

inserted_same : (at stamp : ℕ) (bytes : List ℕ) (forged : Result (List ℕ) ForgeFault) (list : Listing) → forged ≡ Ok bytes → stamp ≡ stamp_before at list → inserted at stamp bytes list ≡ inserted_forged at forged list
inserted_same at stamp bytes forged list made is =
    ap (λ (s : ℕ). inserted at s bytes list) is
    ∙ ap (λ (b : List ℕ). inserted at (stamp_before at list) b list) (sym (ap (λ (f : Result (List ℕ) ForgeFault). result_unwrap_or f []) made))

-- the result of inserting the forged bytes
pub insertion_gives : (tables : Tables) (lists : List Listing) (list : Listing) (at stamp : ℕ) (bytes : List ℕ) (forged : Result (List ℕ) ForgeFault) (answer : Result ℕ Refusal) → forged ≡ Ok bytes → stamp ≡ stamp_before at list → IsOrNoMemory (edit_of tables lists list (Insert at stamp bytes)) answer → IsOrNoMemory (count_unless (refused_forged (refused_insertion list at) forged) (length (inserted_forged at forged list).entries)) answer
insertion_gives tables lists list at stamp bytes forged answer made is returned =
    let first : option_map refusal_by (refused_insertion list at) ≡ refused_forged (refused_insertion list at) forged =
    same_refusal (refused_insertion list at) bytes ∙ ap (λ (f : Result (List ℕ) ForgeFault). refused_forged (refused_insertion list at) f) (sym made) in
    let P : Option Refusal → Type 0 = λ refusal. IsOrNoMemory (count_unless refusal (length (inserted at stamp bytes list).entries)) answer in
    let Q : Listing → Type 0 = λ after. IsOrNoMemory (count_unless (refused_forged (refused_insertion list at) forged) (length after.entries)) answer in
    subst Q (inserted_same at stamp bytes forged list made is) (subst P first returned)

after_same : (tables : Tables) (lists : List Listing) (edit edit' : Edit (List ℕ)) (list : Listing) (answer : Result ℕ Refusal) → edited tables lists edit list ≡ edited tables lists edit' list → after_edit tables lists edit list answer ≡ after_edit tables lists edit' list answer
after_same tables lists edit edit' list (Ok count) same = same
after_same tables lists edit edit' list (Err refusal) same = refl

-- and the list after it
pub insertion_leaves : (tables : Tables) (lists : List Listing) (list new : Listing) (at stamp : ℕ) (bytes : List ℕ) (forged : Result (List ℕ) ForgeFault) (edit : Edit (List ℕ)) (answer : Result ℕ Refusal) → forged ≡ Ok bytes → stamp ≡ stamp_before at list → edited tables lists edit list ≡ inserted_forged at forged list → new ≡ after_edit tables lists (Insert at stamp bytes) list answer → new ≡ after_edit tables lists edit list answer
insertion_leaves tables lists list new at stamp bytes forged edit answer made is forges after =
    after ∙ after_same tables lists (Insert at stamp bytes) edit list answer (inserted_same at stamp bytes forged list made is ∙ sym forges)
