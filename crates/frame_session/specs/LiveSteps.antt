-- The steps of a live run: a part of a line, a line, and its answer.
use Rattle.std.specs.Prelude.{◌≡◌, ℕ, ◌≤◌, Bool, true, false, ◌||◌, List, [], ◌∷◌, ◌++◌, length, Option, OnSome, Result, Ok, Err}
use Rattle.std.specs.Io.{IsEmptyOrEndsWith}
use Rattle.std.specs.Io.KnownBytes.{Consumes, IsAtEnd}
use Rattle.std.specs.Str.Lines.{lines}
use Rattle.request_lines.specs.Lost.{beginning_of}
use Rattle.frame_session.specs.declared.live.LiveFault.{LiveFault}
use Rattle.frame_session.specs.declared.live.LineRead.{LineRead}
use Rattle.frame_session.specs.declared.live.Reached.{Reached}
use Rattle.frame_session.specs.declared.live.Reached.TheVariants.{Within, Newline, End}
use Rattle.frame_session.specs.Cached.{SessionValue}
use Rattle.frame_session.specs.LineCosts.{RunCosts}
use Rattle.frame_session.specs.Live.{AnswersText, HasNoNewline, IsCutOff, longest_line}
use Rattle.frame_session.specs.Noted.{refuses_some}

-- a line without a newline that is not too long
pub record IsShort (line : List ℕ) : Type 0 where
  pub none : HasNoNewline line
  pub few : length line ≤ longest_line

-- these bytes of a line were read
pub record IsRead (read : LineRead) (line : List ℕ) : Type 0 where
  pub beginning : read.beginning ≡ beginning_of line
  pub length : read.length ≡ length line
  pub held : read.is_held ≡ true → read.held.items ≡ line

-- `part` was read after the bytes `line`, without the newline that follows them
abbrev pub ReadsPart : (left left' : Option (List ℕ)) → (read : LineRead) → (line part : List ℕ) → Result Reached LiveFault → Type 0
ReadsPart left left' read line part (Ok Within) = IsRead read (line ++ part) × IsShort (line ++ part)
ReadsPart left left' read line part (Ok Newline) = (more : List ℕ) × (part ≡ more ++ 10 ∷ []) × IsRead read (line ++ more) × IsShort (line ++ more)
ReadsPart left left' read line part (Ok End) = (part ≡ []) × IsRead read line × OnSome left (IsAtEnd left')
ReadsPart left left' read line part (Err fault) = IsCutOff [] (line ++ part) fault

-- a line was read with the newline that follows it (true), or the last line, after which no bytes are left; or its rest was not read
abbrev pub ReadsLine : (left left' : Option (List ℕ)) → LineRead → Result Bool LiveFault → Type 0
ReadsLine left left' read (Ok true) = (line : List ℕ) × IsRead read line × IsShort line × Consumes left left' (line ++ 10 ∷ [])
ReadsLine left left' read (Ok false) = (line : List ℕ) × IsRead read line × IsShort line × Consumes left left' line × OnSome left (IsAtEnd left')
ReadsLine left left' read (Err fault) = (part : List ℕ) × Consumes left left' part × IsCutOff [] part fault

-- after a text another line may follow, or the reader is at its end
abbrev pub MayFollow : Bool → (left left' : Option (List ℕ)) → List ℕ → Type 0
MayFollow true left left' text = IsEmptyOrEndsWith text 10
MayFollow false left left' text = OnSome left (IsAtEnd left')

-- a text of at least this many lines was read, its lines were answered, each at its cost, and the observer has seen whether a request for a
-- frame was refused
pub record RunsText (least : ℕ) (old new : SessionValue) (left left' frames frames' replies replies' : Option (List ℕ)) (more : Bool) (seen seen' : Bool) : Type 0 where
  pub text : List ℕ
  pub taken : Consumes left left' text
  pub follows : MayFollow more left left' text
  pub many : least ≤ length (lines text)
  pub answers : AnswersText old.state text frames frames' replies replies' new.state
  pub costs : RunCosts old answers.requests answers.runs.answers new
  pub noted : seen' ≡ (seen || refuses_some answers.requests answers.runs.answers)
