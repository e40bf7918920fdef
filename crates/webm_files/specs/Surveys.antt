-- What is known of a file before memory is taken for it.
use Rattle.std.specs.Prelude.{◌≡◌, ℕ, List, length}
use Rattle.webm_files.specs.declared.ids.TheConstants.{INFO, TRACKS}
use Rattle.webm_files.specs.declared.surveys.Survey.{Survey}
use Rattle.webm_files.specs.Walks.{Walk, IsWalk, first_of}

-- the first Tracks and Info of a file, and the number of its elements
pub record IsSurvey (file : List ℕ) (found : Survey) : Type 0 where
  pub walk : Walk
  pub is : IsWalk file walk
  pub tracks : found.tracks ≡ first_of TRACKS walk.elements
  pub info : found.info ≡ first_of INFO walk.elements
  pub count : found.elements ≡ length walk.elements
