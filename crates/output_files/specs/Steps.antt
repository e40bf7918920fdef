-- The calls of a save, in order: which ones a save makes, and which ones it made when one of them failed.
use Rattle.std.specs.Prelude.{◌≡◌, ℕ, Bool, true, false, List, [], ◌∷◌, ◌++◌, Option}
use Rattle.std.specs.Io.KnownBytes.{Appends}
use Rattle.std.specs.IoError.{error_kind}
use Rattle.std.specs.declared.io.ErrorKind.{ErrorKind}
use Rattle.output_files.specs.declared.saving.Call.{Call}
use Rattle.output_files.specs.declared.saving.Call.TheVariants.{Make, Sync, Rename, Remove}
use Rattle.output_files.specs.declared.saving.Unsaved.{Unsaved}
use Rattle.output_files.specs.declared.saving.Unsaved.TheVariants as unsaved

-- a call, and how it ended
pub data Step : Type 0 where
  -- a new file was made, and is empty
  Made : Step
  -- the new file is on the disk; these are its bytes, if they are known
  Synced : Option (List ℕ) → Step
  -- the new file replaced the file
  Renamed : Step
  -- the new file was removed
  Removed : Step
  -- the call failed, for this reason, and changed nothing
  Failed : Call → ErrorKind → Step

-- no save makes more calls
abbrev pub most_steps : ℕ
most_steps = 4

-- a text was saved: the new file, whose bytes were `made` when it was made, took the text, was brought to the disk, and then replaced the file
pub record IsSaved (made : Option (List ℕ)) (text : List ℕ) (steps : List Step) : Type 0 where
  pub known : Option (List ℕ)
  pub whole : Appends made known text
  pub are : steps ≡ Made ∷ Synced known ∷ Renamed ∷ []

-- the calls of a save up to the one that failed
abbrev pub failed_steps : (known : Option (List ℕ)) → Unsaved → List Step
failed_steps known unsaved.NoMemory = Made ∷ []
failed_steps known (unsaved.Make error) = Failed Make (error_kind error) ∷ []
failed_steps known unsaved.Write = Made ∷ []
failed_steps known (unsaved.Sync error) = Made ∷ Failed Sync (error_kind error) ∷ []
failed_steps known (unsaved.Rename error) = Made ∷ Synced known ∷ Failed Rename (error_kind error) ∷ []

-- whether the new file could not replace the file
abbrev pub is_unreplaced : Unsaved → Bool
is_unreplaced unsaved.NoMemory = false
is_unreplaced (unsaved.Make error) = false
is_unreplaced unsaved.Write = false
is_unreplaced (unsaved.Sync error) = false
is_unreplaced (unsaved.Rename error) = true

-- the new file, whose bytes were `made` when it was made, took the text, and was brought to the disk
pub record IsWritten (made : Option (List ℕ)) (text : List ℕ) (steps : List Step) : Type 0 where
  pub known : Option (List ℕ)
  pub whole : Appends made known text
  pub are : steps ≡ Made ∷ Synced known ∷ []

-- it did not take the text, or was not brought to the disk, for this reason, and nothing was removed yet
pub record IsUnwritten (made : Option (List ℕ)) (text : List ℕ) (steps : List Step) (why : Unsaved) : Type 0 where
  pub known : Option (List ℕ)
  pub whole : Appends made known text
  pub early : is_unreplaced why ≡ false
  pub are : steps ≡ failed_steps known why

-- the new file was removed, or that failed
abbrev pub IsRemoval : Step → Type 0
IsRemoval Removed = Unit {0}
IsRemoval (Failed call kind) = call ≡ Remove
IsRemoval step = ⊥

-- after these calls the new file was removed, or that failed
abbrev pub IsAbandoned : List Step → List Step → Type 0
IsAbandoned steps steps' = (last : Step) × IsRemoval last × (steps' ≡ steps ++ last ∷ [])

-- a save failed for this reason, and then the new file was removed, or that failed too
pub record IsGivenUp (made : Option (List ℕ)) (text : List ℕ) (steps : List Step) (why : Unsaved) : Type 0 where
  pub known : Option (List ℕ)
  pub whole : Appends made known text
  pub abandoned : IsAbandoned (failed_steps known why) steps

-- after these calls the new file could not replace the file, for this reason, and was removed, or that failed too
abbrev pub IsUnrenamed : List Step → List Step → Unsaved → Type 0
IsUnrenamed steps steps' (unsaved.Rename error) = IsAbandoned (steps ++ Failed Rename (error_kind error) ∷ []) steps'
IsUnrenamed steps steps' _ = ⊥
