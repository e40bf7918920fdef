-- Whether a request for a frame was refused, and the exit status after that. `seen` is whether one was before, and `seen'` after the requests.
use Rattle.std.specs.Prelude.{ℕ, Bool, ◌&&◌, List, Option, MatchBool, if◌then◌else◌}
use Rattle.vp8_tables.specs.Tables.{TableEntries}
use Rattle.frame_session.specs.Noted.{LiveMeansNoted, MeansNoted}
use Rattle.frame_session.specs.Sessions.{SessionState}
use Rattle.serve_arguments.specs.Readings.{AreRequests}
use Rattle.serve_arguments.specs.declared.words.Accepted.{Accepted}
use Rattle.serve_program.specs.Endings.{IsInput, OverSources, RunFiles}

-- the requests were answered over the files of these bytes; it is not known where the frames went
pub record IsNoted (tables : TableEntries) (sources : List (List ℕ)) (requests : List ℕ) (replies replies' : Option (List ℕ)) (seen seen' : Bool) : Type 0 where
  pub frames : Option (List ℕ)
  pub frames' : Option (List ℕ)
  pub end : SessionState
  pub means : MeansNoted tables sources requests frames frames' replies replies' end seen seen'

-- the requests of a command line were
pub record AreNoted (files : RunFiles) (line : Accepted) (left replies replies' : Option (List ℕ)) (seen seen' : Bool) (tables : TableEntries) (sources : List (List ℕ)) : Type 0 where
  pub lines : List ℕ
  pub are : AreRequests files.contents line.words.requests.now left lines
  pub noted : IsNoted tables sources lines replies replies' seen seen'

-- all lines that the reader gave were answered over the files of these bytes
pub record IsLiveNoted (tables : TableEntries) (sources : List (List ℕ)) (given replies replies' : Option (List ℕ)) (seen seen' : Bool) : Type 0 where
  pub given' : Option (List ℕ)
  pub frames : Option (List ℕ)
  pub frames' : Option (List ℕ)
  pub end : SessionState
  pub means : LiveMeansNoted tables sources given given' frames frames' replies replies' end seen seen'

-- the lines of the requests of a command line were
pub record AreLiveNoted (files : RunFiles) (line : Accepted) (left replies replies' : Option (List ℕ)) (seen seen' : Bool) (tables : TableEntries) (sources : List (List ℕ)) : Type 0 where
  pub given : Option (List ℕ)
  pub input : IsInput files.contents line.words.requests.now left given
  pub noted : IsLiveNoted tables sources given replies replies' seen seen'

-- the requests of a command line were, over its sources and tables, as they came or after all of them were read
abbrev pub IsNotedAs : RunFiles → Accepted → (left replies replies' : Option (List ℕ)) → (seen seen' : Bool) → Type 0
IsNotedAs files line left replies replies' seen seen' =
    MatchBool line.words.is_live (OverSources files line (AreLiveNoted files line left replies replies' seen seen')) (OverSources files line (AreNoted files line left replies replies' seen seen'))

-- the exit status after all requests were answered
abbrev pub status_after : (fails_refused has_refused : Bool) → ℕ
status_after fails_refused has_refused = if fails_refused && has_refused then 3 else 0
