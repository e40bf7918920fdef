-- The meaning of requests that are answered as they come. `left` and `left'` are the bytes that the reader has left before and after, if they
-- are known.
use Rattle.std.specs.Prelude.{◌≡◌, ◌≢◌, ◌⊎◌, ℕ, ◌<◌, ◌≤◌, ◌-◌, ◌^◌, List, [], ◌++◌, length, All, Option, IfSome}
use Rattle.std.specs.List.{AllZip}
use Rattle.std.specs.Io.{IsEmptyOrEndsWith}
use Rattle.std.specs.Io.KnownBytes.{Consumes, Keeps}
use Rattle.std.specs.Str.Lines.{lines}
use Rattle.vp8_tables.specs.declared.tables.Tables.{Tables}
use Rattle.stream_files.specs.declared.streams.Stream.{Stream}
use Rattle.request_lines.specs.declared.lines.Line.{Line}
use Rattle.request_lines.specs.Lost.{lost_by}
use Rattle.request_lines.specs.Requests.{asked_by}
use Rattle.frame_session.specs.declared.live.LiveFault.{LiveFault}
use Rattle.frame_session.specs.declared.live.LiveFault.TheVariants as faults
use Rattle.frame_session.specs.declared.serving.RunFault.{RunFault}
use Rattle.frame_session.specs.declared.serving.RunFault.TheVariants as runs
use Rattle.frame_session.specs.Answers.{AreStreams, WritesAnswers, SourceRefuses, WritesUntilError}
use Rattle.frame_session.specs.Sessions.{SessionState, start}

-- the most bytes of a line, its newline not counted
abbrev pub longest_line : ℕ
longest_line = 1073741824

-- no line of a text is too long
abbrev pub HasShortLines : List ℕ → Type 0
HasShortLines text = All (λ line. length line ≤ longest_line) (lines text)

-- no byte is a newline
abbrev pub HasNoNewline : List ℕ → Type 0
HasNoNewline bytes = All (λ byte. byte ≢ 10) bytes

-- the request of a line; if memory runs out while the line is read, the line is lost
abbrev pub IsAsked : List ℕ → Line → Type 0
IsAsked line request = (request ≡ asked_by line) ⊎ (request ≡ lost_by line)

-- the requests of lines, one for each
abbrev pub AreAsked : List (List ℕ) → List Line → Type 0
AreAsked lines requests = AllZip IsAsked lines requests

-- the lines of a text were answered, none of which is too long
pub record AnswersText (old : SessionState) (text : List ℕ) (frames frames' replies replies' : Option (List ℕ)) (new : SessionState) : Type 0 where
  pub short : HasShortLines text
  pub requests : List Line
  pub asked : AreAsked (lines text) requests
  pub runs : WritesAnswers old requests frames frames' replies replies' new

-- the reader gave a text, which is all that it had left, and the lines of the text were answered
pub record LiveMeans (tables : Tables) (sources : List (List ℕ)) (left left' frames frames' replies replies' : Option (List ℕ)) (end : SessionState) : Type 0 where
  pub text : List ℕ
  pub taken : Consumes left left' text
  pub all : IfSome left (λ bytes. text ≡ bytes)
  pub files : List Stream
  pub are : AreStreams sources files
  pub answers : AnswersText (start tables files) text frames frames' replies replies' end

-- why reading ended after the lines of `text`, within a line or before one: `part` is its begin, in which there is no newline
abbrev pub IsCutOff : (text part : List ℕ) → LiveFault → Type 0
IsCutOff text part faults.Read = HasNoNewline part
IsCutOff text part faults.TooLong = HasNoNewline part × (longest_line < length part)
IsCutOff text part faults.Endless = (part ≡ []) × (2 ^ 64 - 1 ≤ length (lines text))
IsCutOff text part fault = ⊥

-- all lines that have a newline in the bytes that the reader gave were answered, and the next line was cut off
pub record CutsOff (old : SessionState) (left left' frames frames' replies replies' : Option (List ℕ)) (fault : LiveFault) : Type 0 where
  pub text : List ℕ
  pub part : List ℕ
  pub taken : Consumes left left' (text ++ part)
  pub whole : IsEmptyOrEndsWith text 10
  pub cut_off : IsCutOff text part fault
  pub new : SessionState
  pub answers : AnswersText old text frames frames' replies replies' new

-- a writer returned an error: no line was read after the one whose answer it refused
pub record LiveRefuses (old : SessionState) (left left' frames frames' replies replies' : Option (List ℕ)) : Type 0 where
  pub text : List ℕ
  pub taken : Consumes left left' text
  pub requests : List Line
  pub asked : AreAsked (lines text) requests
  pub stops : WritesUntilError old requests frames frames' replies replies'
  pub last : stops.rest ≡ []

-- why the lines of a reader were not all answered
abbrev pub LiveEnds : SessionState → (left left' frames frames' replies replies' : Option (List ℕ)) → LiveFault → Type 0
LiveEnds old left left' frames frames' replies replies' faults.Write = LiveRefuses old left left' frames frames' replies replies'
LiveEnds old left left' frames frames' replies replies' fault = CutsOff old left left' frames frames' replies replies' fault

-- nothing was read or written
abbrev pub LeavesAll : (left left' frames frames' replies replies' : Option (List ℕ)) → Type 0
LeavesAll left left' frames frames' replies replies' = (left' ≡ left) × Keeps frames frames' × Keeps replies replies'

-- why a live run returns no session: an error of a source is the first one; otherwise all sources are files, and either there was no memory
-- at the start, or lines were not answered
abbrev pub LiveStops : Tables → (sources : List (List ℕ)) → (left left' frames frames' replies replies' : Option (List ℕ)) → LiveFault → Type 0
LiveStops tables sources left left' frames frames' replies replies' (faults.Source source fault) = SourceRefuses sources source fault × LeavesAll left left' frames frames' replies replies'
LiveStops tables sources left left' frames frames' replies replies' faults.NoMemory = (files : List Stream) × AreStreams sources files × LeavesAll left left' frames frames' replies replies'
LiveStops tables sources left left' frames frames' replies replies' fault =
    (files : List Stream) × AreStreams sources files × LiveEnds (start tables files) left left' frames frames' replies replies' fault

-- a run's error as that of a live run
abbrev pub live_fault_by : RunFault → LiveFault
live_fault_by (runs.Source source fault) = faults.Source source fault
live_fault_by runs.Write = faults.Write
live_fault_by runs.NoMemory = faults.NoMemory
