-- What is known of a file before memory is taken for it.
use Rattle.std.specs.Prelude.{◌≡◌, ℕ, ◌≤◌, List, length}
use Rattle.stream_files.specs.declared.streams.Head.{Head}
use Rattle.webm_files.specs.declared.files.TheConstants.{MAX_ELEMENTS, MAX_TRACKS}
use Rattle.webm_files.specs.declared.files.Webm.{Webm}
use Rattle.webm_files.specs.Walks.{Walk, IsWalk}
use Rattle.webm_files.specs.Tracks.{IsHead, entries_of}
use Rattle.webm_files.specs.Files.{HasContents, HasStream, scale_of}

-- the video of a file is a stream with this head, and there are no more elements and tracks than a file may have
pub record IsStart (bytes tracks entry : List ℕ) (head : Head) : Type 0 where
  pub walk : Walk
  pub stream : HasStream bytes walk tracks entry
  pub head_is : IsHead entry (scale_of bytes walk) head
  pub elements : length walk.elements ≤ MAX_ELEMENTS
  pub entries : length (entries_of tracks) ≤ MAX_TRACKS

-- the rest of a file with this head
pub record IsRead (bytes tracks entry : List ℕ) (head : Head) (file : Webm) : Type 0 where
  pub walk : Walk
  pub is : IsWalk bytes walk
  pub same : file.head ≡ head
  pub contents : HasContents bytes walk tracks entry file
