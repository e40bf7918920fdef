-- Two saves, of which both replace their files or neither does.
use Rattle.std.specs.Prelude.{◌≡◌, ◌⊎◌, ℕ, Bool, true, false, not, List, [], ◌∷◌, Option}
use Rattle.output_files.specs.Steps.{IsAbandoned, IsGivenUp, IsSaved, IsWritten, Step, is_unreplaced}
use Rattle.output_files.specs.Steps.Step.{Made}
use Rattle.output_files.specs.declared.saving.OneUnsaved.{OneUnsaved}
use Rattle.output_files.specs.declared.saving.OneUnsaved.TheVariants.{First, Second}

-- a save: the bytes of its new file when that was made, its text, and its calls
pub record SaveCalls : Type 0 where
  pub made : Option (List ℕ)
  pub text : List ℕ
  pub steps : List Step

-- it was given up before its new file replaced the file: the new file was made, or it was also written, and then it was removed, or that failed
abbrev pub IsLeft : SaveCalls → Type 0
IsLeft save = (before : List Step) × ((before ≡ Made ∷ []) ⊎ IsWritten save.made save.text before) × IsAbandoned before save.steps

-- the first of two saves, when the second one was given up: saved if the second new file could not replace its file, and else given up too
abbrev pub IsFirst : Bool → SaveCalls → Type 0
IsFirst true save = IsSaved save.made save.text save.steps
IsFirst false save = IsLeft save

-- why two saves were given up, and the calls of both: neither new file replaced its file, unless the second one could not be renamed
abbrev pub AreGivenUp : SaveCalls → SaveCalls → OneUnsaved → Type 0
AreGivenUp first second (First why) = IsGivenUp first.made first.text first.steps why × IsLeft second
AreGivenUp first second (Second why) = IsGivenUp second.made second.text second.steps why × IsFirst (is_unreplaced why) first

-- whether the first file is as it was: unless the second new file could not replace its file
abbrev pub is_first_kept : OneUnsaved → Bool
is_first_kept (First why) = true
is_first_kept (Second why) = not (is_unreplaced why)
