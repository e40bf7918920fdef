-- A save whose text was not written, or whose new file did not replace the file.
use Rattle.std.proofs.Common.{◌≡◌, ◌⊎◌, ℕ, false, List, [], ◌∷◌, ◌++◌, Option, Some, None, inl, inr, refl, subst}
use Rattle.std.specs.Io.KnownBytes.{Appends, append_known}
use Rattle.std.specs.IoError.{error_kind}
use Rattle.output_files.specs.Steps.{IsAbandoned, IsGivenUp, IsUnrenamed, IsUnwritten, IsWritten, Step}
use Rattle.output_files.specs.Steps.Step.{Made, Failed}
use Rattle.output_files.specs.declared.saving.Call.TheVariants.{Rename}
use Rattle.output_files.specs.declared.saving.Unsaved.{Unsaved}
use Rattle.output_files.specs.declared.saving.Unsaved.TheVariants as unsaved

appended : (made : Option (List ℕ)) (text : List ℕ) → Appends made (append_known made text) text
appended None text = tt
appended (Some bytes) text = refl

pub unwritten : (made : Option (List ℕ)) (text : List ℕ) (steps : List Step) (why : Unsaved) → (why ≡ unsaved.NoMemory) ⊎ (why ≡ unsaved.Write) → steps ≡ Made ∷ [] → IsUnwritten made text steps why
unwritten made text steps why (inl is) are = rw is (record { known = append_known made text; whole = appended made text; early = refl; are = are })
unwritten made text steps why (inr is) are = rw is (record { known = append_known made text; whole = appended made text; early = refl; are = are })

-- a new file that was written did not replace the file
pub unrenamed : (made : Option (List ℕ)) (text : List ℕ) (written steps : List Step) (why : Unsaved) → IsWritten made text written → IsUnrenamed written steps why → IsGivenUp made text steps why
unrenamed made text written steps (unsaved.Rename error) is left = record {
  known = is.known;
  whole = is.whole;
  abandoned = subst (λ (before : List Step). IsAbandoned (before ++ Failed Rename (error_kind error) ∷ []) steps) is.are left;
}
unrenamed made text written steps unsaved.NoMemory is left = absurd left
unrenamed made text written steps (unsaved.Make error) is left = absurd left
unrenamed made text written steps unsaved.Write is left = absurd left
unrenamed made text written steps (unsaved.Sync error) is left = absurd left
