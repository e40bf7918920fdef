-- Whether a request for a frame was refused, as the observer of a run notes it.
use Rattle.std.specs.Prelude.{◌≡◌, ℕ, Bool, true, false, ◌&&◌, ◌||◌, is_some, List, ◌∷◌, Option}
use Rattle.vp8_tables.specs.declared.tables.Tables.{Tables}
use Rattle.request_lines.specs.declared.lines.Line.{Line}
use Rattle.request_lines.specs.declared.lines.Line.TheVariants as requests
use Rattle.frame_session.specs.declared.refusal.Refusal.{Refusal}
use Rattle.frame_session.specs.Answers.{Answer, Means, WritesAnswers, requests_of}
use Rattle.frame_session.specs.Live.{LiveMeans}
use Rattle.frame_session.specs.Sessions.{SessionState}
use Rattle.frame_session.specs.Told.{is_refusal}

-- whether a line is a request for a frame
abbrev pub is_frame : Line → Bool
is_frame (requests.Frame n) = true
is_frame line = false

-- whether a line is a request for a frame, and its reply a refusal
abbrev pub refuses_frame : Line → Answer → Bool
refuses_frame line answer = is_frame line && is_refusal answer.reply

-- whether one of these lines is a request for a frame, and its reply a refusal
abbrev pub refuses_some : List Line → List Answer → Bool
refuses_some (line ∷ lines) (answer ∷ answers) = refuses_frame line answer || refuses_some lines answers
refuses_some lines answers = false

-- what an observer has seen: `seen` before a line and `seen'` after it, which has this refusal or none
abbrev pub Notes : (seen seen' : Bool) → (asks_frame : Bool) → Option Refusal → Type 0
Notes seen seen' asks_frame refusal = seen' ≡ (seen || asks_frame && is_some refusal)

-- the observer of these lines has seen afterwards, if not before, whether a request for a frame was refused
pub record RunsNoted (old : SessionState) (lines : List Line) (frames frames' replies replies' : Option (List ℕ)) (new : SessionState) (seen seen' : Bool) : Type 0 where
  pub runs : WritesAnswers old lines frames frames' replies replies' new
  pub noted : seen' ≡ (seen || refuses_some lines runs.answers)

-- the requests of this text were answered over the files of these bytes, and the observer has seen whether a request for a frame was refused
pub record MeansNoted (tables : Tables) (sources : List (List ℕ)) (requests : List ℕ) (frames frames' replies replies' : Option (List ℕ)) (end : SessionState) (seen seen' : Bool) : Type 0 where
  pub means : Means tables sources requests frames frames' replies replies' end
  pub noted : seen' ≡ (seen || refuses_some (requests_of requests) means.runs.answers)

-- the lines that the reader gave were answered, and the observer has seen whether a request for a frame was refused
pub record LiveMeansNoted (tables : Tables) (sources : List (List ℕ)) (left left' frames frames' replies replies' : Option (List ℕ)) (end : SessionState) (seen seen' : Bool) : Type 0 where
  pub means : LiveMeans tables sources left left' frames frames' replies replies' end
  pub noted : seen' ≡ (seen || refuses_some means.answers.requests means.answers.runs.answers)
