-- What saves leave.
use Rattle.std.proofs.Common.{◌≡◌, ◌⊎◌, ℕ, zero, suc, Bool, true, false, not, List, [], ◌∷◌, ◌++◌, Option, Some, None, inl, inr, length, take, refl, sym, subst, ap, ◌∙◌}
use Rattle.std.specs.Io.KnownBytes.{Appends}
use Rattle.output_files.specs.Disks.{Disk, IsNeverLost, after, after_all}
use Rattle.output_files.specs.Both.{AreGivenUp, IsFirst, IsLeft, SaveCalls, is_first_kept}
use Rattle.output_files.specs.Steps.{IsAbandoned, IsGivenUp, IsRemoval, IsSaved, IsWritten, Step, failed_steps, is_unreplaced}
use Rattle.output_files.specs.Steps.Step.{Made, Synced, Renamed, Removed, Failed}
use Rattle.output_files.specs.declared.saving.OneUnsaved.{OneUnsaved}
use Rattle.output_files.specs.declared.saving.OneUnsaved.TheVariants.{First, Second}
use Rattle.output_files.specs.declared.saving.Unsaved.{Unsaved}
use Rattle.output_files.specs.declared.saving.Unsaved.TheVariants as unsaved

after_none : (disk : Disk) (n : ℕ) → after_all disk (take n []) ≡ disk
after_none disk zero = refl
after_none disk (suc n) = refl

steps_never_lost : (disk : Disk) (text : List ℕ) → IsNeverLost disk text (Made ∷ Synced (Some text) ∷ Renamed ∷ [])
steps_never_lost disk text zero = inl refl
steps_never_lost disk text (suc zero) = inl refl
steps_never_lost disk text (suc (suc zero)) = inl refl
steps_never_lost disk text (suc (suc (suc n))) = inr (ap (λ (disk : Disk). disk.file) (after_none (record { file = Some text; fresh = None }) n))

-- the steps of a save whose new file was empty
saved_steps : (text : List ℕ) (steps : List Step) → IsSaved (Some []) text steps → steps ≡ Made ∷ Synced (Some text) ∷ Renamed ∷ []
saved_steps text steps saved = by saved.known saved.whole saved.are
  where
    by : (known : Option (List ℕ)) → Appends (Some []) known text → steps ≡ Made ∷ Synced known ∷ Renamed ∷ [] → steps ≡ Made ∷ Synced (Some text) ∷ Renamed ∷ []
    by None whole are = absurd whole
    by (Some bytes) whole are = are ∙ ap (λ (b : List ℕ). Made ∷ Synced (Some b) ∷ Renamed ∷ []) whole

pub saved_never_lost : (disk : Disk) (text : List ℕ) (steps : List Step) → IsSaved (Some []) text steps → IsNeverLost disk text steps
saved_never_lost disk text steps saved = subst (IsNeverLost disk text) (sym (saved_steps text steps saved)) (steps_never_lost disk text)

pub saved_end : (disk : Disk) (text : List ℕ) (steps : List Step) → IsSaved (Some []) text steps → after_all disk steps ≡ record { file = Some text; fresh = None }
saved_end disk text steps saved = subst (λ (steps : List Step). after_all disk steps ≡ record { file = Some text; fresh = None }) (sym (saved_steps text steps saved)) refl

removal_keeps : (disk : Disk) (last : Step) → IsRemoval last → (after disk last).file ≡ disk.file
removal_keeps disk Made is = absurd is
removal_keeps disk (Synced known) is = absurd is
removal_keeps disk Renamed is = absurd is
removal_keeps disk Removed is = refl
removal_keeps disk (Failed call kind) is = refl

-- the last call of an abandoned save
kept_then : (disk : Disk) (n : ℕ) (last : Step) → IsRemoval last → (after_all (after disk last) (take n [])).file ≡ disk.file
kept_then disk n last is = ap (λ (disk : Disk). disk.file) (after_none (after disk last) n) ∙ removal_keeps disk last is

abandoned_keeps : (known : Option (List ℕ)) (why : Unsaved) (last : Step) → IsRemoval last → (disk : Disk) (n : ℕ) → (after_all disk (take n (failed_steps known why ++ last ∷ []))).file ≡ disk.file
abandoned_keeps known why last is disk n = cases why n
  where
    cases : (why : Unsaved) (n : ℕ) → (after_all disk (take n (failed_steps known why ++ last ∷ []))).file ≡ disk.file
    cases why zero = refl
    cases unsaved.NoMemory (suc zero) = refl
    cases unsaved.NoMemory (suc (suc n)) = kept_then (after disk Made) n last is
    cases (unsaved.Make error) (suc zero) = refl
    cases (unsaved.Make error) (suc (suc n)) = kept_then disk n last is
    cases unsaved.Write (suc zero) = refl
    cases unsaved.Write (suc (suc n)) = kept_then (after disk Made) n last is
    cases (unsaved.Sync error) (suc zero) = refl
    cases (unsaved.Sync error) (suc (suc zero)) = refl
    cases (unsaved.Sync error) (suc (suc (suc n))) = kept_then (after disk Made) n last is
    cases (unsaved.Rename error) (suc zero) = refl
    cases (unsaved.Rename error) (suc (suc zero)) = refl
    cases (unsaved.Rename error) (suc (suc (suc zero))) = refl
    cases (unsaved.Rename error) (suc (suc (suc (suc n)))) = kept_then (after (after disk Made) (Synced known)) n last is

pub given_up_keeps : (disk : Disk) (text : List ℕ) (steps : List Step) (why : Unsaved) → IsGivenUp (Some []) text steps why → (n : ℕ) → (after_all disk (take n steps)).file ≡ disk.file
given_up_keeps disk text steps why given n =
    subst (λ (steps : List Step). (after_all disk (take n steps)).file ≡ disk.file) (sym given.abandoned.2) (abandoned_keeps given.known why given.abandoned.0 given.abandoned.1 disk n)

-- a new file that was written, and then removed
written_keeps : (known : Option (List ℕ)) (last : Step) → IsRemoval last → (disk : Disk) (n : ℕ) → (after_all disk (take n (Made ∷ Synced known ∷ last ∷ []))).file ≡ disk.file
written_keeps known last is disk zero = refl
written_keeps known last is disk (suc zero) = refl
written_keeps known last is disk (suc (suc zero)) = refl
written_keeps known last is disk (suc (suc (suc n))) = kept_then (after (after disk Made) (Synced known)) n last is

left_by : (save : SaveCalls) (before : List Step) → (before ≡ Made ∷ []) ⊎ IsWritten save.made save.text before → IsAbandoned before save.steps → (disk : Disk) (n : ℕ) → (after_all disk (take n save.steps)).file ≡ disk.file
left_by save before (inl is) left disk n =
    let are : save.steps ≡ Made ∷ left.0 ∷ [] = left.2 ∙ ap (λ (steps : List Step). steps ++ left.0 ∷ []) is in
    subst (λ (steps : List Step). (after_all disk (take n steps)).file ≡ disk.file) (sym are) (abandoned_keeps None unsaved.Write left.0 left.1 disk n)
left_by save before (inr is) left disk n =
    let are : save.steps ≡ Made ∷ Synced is.known ∷ left.0 ∷ [] = left.2 ∙ ap (λ (steps : List Step). steps ++ left.0 ∷ []) is.are in
    subst (λ (steps : List Step). (after_all disk (take n steps)).file ≡ disk.file) (sym are) (written_keeps is.known left.0 left.1 disk n)

left_keeps : (save : SaveCalls) → IsLeft save → (disk : Disk) (n : ℕ) → (after_all disk (take n save.steps)).file ≡ disk.file
left_keeps save left disk n = left_by save left.0 left.1 left.2 disk n

empty_given_up : (save : SaveCalls) (why : Unsaved) → save.made ≡ Some [] → IsGivenUp save.made save.text save.steps why → IsGivenUp (Some []) save.text save.steps why
empty_given_up save why empty is = subst (λ (made : Option (List ℕ)). IsGivenUp made save.text save.steps why) empty is

-- two saves of which one was given up
pub second_kept : (disk : Disk) (first second : SaveCalls) (why : OneUnsaved) → second.made ≡ Some [] → AreGivenUp first second why → (n : ℕ) → (after_all disk (take n second.steps)).file ≡ disk.file
second_kept disk first second (First why) empty are n = left_keeps second are.1 disk n
second_kept disk first second (Second why) empty are n = given_up_keeps disk second.text second.steps why (empty_given_up second why empty are.0) n

first_by : (disk : Disk) (first : SaveCalls) (unreplaced : Bool) → not unreplaced ≡ true → IsFirst unreplaced first → (n : ℕ) → (after_all disk (take n first.steps)).file ≡ disk.file
first_by disk first true kept is n = cc
first_by disk first false kept is n = left_keeps first is disk n

pub first_kept : (disk : Disk) (first second : SaveCalls) (why : OneUnsaved) → first.made ≡ Some [] → is_first_kept why ≡ true → AreGivenUp first second why → (n : ℕ) → (after_all disk (take n first.steps)).file ≡ disk.file
first_kept disk first second (First why) empty kept are n = given_up_keeps disk first.text first.steps why (empty_given_up first why empty are.0) n
first_kept disk first second (Second why) empty kept are n = first_by disk first (is_unreplaced why) kept are.1 n
