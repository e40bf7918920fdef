-- The meaning of a request list: the replies and frames that may answer its lines, and the state after them.
use Rattle.std.specs.Prelude.{◌≡◌, ◌⊎◌, ℕ, slice_get, take, List, [], ◌∷◌, ◌++◌, map, Option, Some, None, Result, Ok, Err}
use Rattle.std.specs.List.{flat_map}
use Rattle.std.specs.Borrow.{Bor}
use Rattle.std.specs.Io.KnownBytes.{Appends, Keeps}
use Rattle.std.specs.Str.Lines.{lines}
use Rattle.vp8_tables.specs.declared.tables.Tables.{Tables}
use Rattle.script_nodes.specs.Shown.{Shown}
use Rattle.stream_files.specs.declared.streams.FrameRate.{FrameRate}
use Rattle.stream_files.specs.declared.streams.Stream.{Stream}
use Rattle.stream_sources.specs.declared.faults.StreamFault.{StreamFault}
use Rattle.stream_sources.specs.Sources.{IsStream}
use Rattle.stream_sources.specs.Faults.{StreamRefuses}
use Rattle.stream_files.specs.Y4m.{y4m_line}
use Rattle.request_lines.specs.declared.lines.Line.{Line}
use Rattle.request_lines.specs.declared.lines.Line.TheVariants as requests
use Rattle.request_lines.specs.declared.edit.Edit.{Edit}
use Rattle.frame_session.specs.declared.refusal.Refusal.{Refusal}
use Rattle.frame_session.specs.declared.refusal.Refusal.TheVariants as refusals
use Rattle.frame_session.specs.declared.serving.RunFault.{RunFault}
use Rattle.frame_session.specs.declared.serving.RunFault.TheVariants as faults
use Rattle.request_lines.specs.Requests.{asked_by}
use Rattle.frame_session.specs.IsOrNoMemory.{IsOrNoMemory}
use Rattle.frame_session.specs.Edits.{WrittenAnswers}
use Rattle.frame_session.specs.Frames.{shown_text}
use Rattle.frame_session.specs.Questions.{AnswersQuestion}
use Rattle.frame_session.specs.Replies.{refused_line, served_line, edit_line, count_line, stats_line}
use Rattle.frame_session.specs.Sessions.{IsAfterFrame, SessionState, choice_answer, current_list, now_after_choice, now_after_edit, now_after_script, frame_count, frame_of, rate_due, packet_count, script_answer, size_served, start}

-- the requests of a text, line by line
abbrev pub requests_of : List ℕ → List Line
requests_of text = map asked_by (lines text)

-- a line's reply, and the bytes that it writes of frames
pub record Answer : Type 0 where
  pub reply : List ℕ
  pub frames : List ℕ

-- only a reply
abbrev pub reply_only : List ℕ → Answer
reply_only reply = record { reply = reply; frames = [] }

-- the line that opens the frames, if it is still to be written with a frame rate
abbrev pub opening : Option FrameRate → ℕ → ℕ → List ℕ
opening None width height = []
opening (Some frames) width height = y4m_line width height frames.rate frames.scale

-- the answer to a request for frame n
abbrev pub answer_to_frame : SessionState → ℕ → Result Shown Refusal → Answer
answer_to_frame now n (Ok shown) = record { reply = served_line n; frames = opening (rate_due now) shown.width shown.height ++ shown_text shown }
answer_to_frame now n (Err refusal) = reply_only (refused_line refusal)

-- an edit and its result, with the answer and the new state
abbrev pub AnswersEdit : SessionState → Edit (List ℕ) → Result ℕ Refusal → Answer → SessionState → Type 0
AnswersEdit old edit edited answer new = (answer ≡ reply_only (edit_line edited)) × (new ≡ now_after_edit edit old edited)

-- a script and its result, with the answer and the new state
abbrev pub AnswersScript : SessionState → List ℕ → Result ℕ Refusal → Answer → SessionState → Type 0
AnswersScript old text set answer new = (answer ≡ reply_only (edit_line set)) × (new ≡ now_after_script text old set)

-- a line, an answer that it may have, and the state after it; a frame, a script, an edit other than a deletion and a move, and a question about
-- macroblocks, a header or findings may be out of memory.
-- A question leaves the state as it is
abbrev pub Answers : SessionState → Line → Answer → SessionState → Type 0
Answers old requests.Silent answer new = (answer ≡ reply_only []) × (new ≡ old)
Answers old requests.Unknown answer new = (answer ≡ reply_only (refused_line refusals.Line)) × (new ≡ old)
Answers old (requests.Frame n) answer new =
    (frame : Result Shown Refusal) × IsOrNoMemory (frame_of old n) frame × (answer ≡ answer_to_frame old n frame) × IsAfterFrame old (size_served frame) new
Answers old (requests.Use source) answer new = (answer ≡ reply_only (edit_line (choice_answer old source))) × (new ≡ now_after_choice source old)
Answers old (requests.Edit edit) answer new =
    (edited : Result ℕ Refusal) × WrittenAnswers old.tables old.lists (current_list old) edit edited × AnswersEdit old edit edited answer new
Answers old (requests.Script text) answer new =
    (set : Result ℕ Refusal) × IsOrNoMemory (script_answer old text) set × AnswersScript old text set answer new
Answers old requests.Count answer new = (answer ≡ reply_only (count_line (packet_count old) (frame_count old))) × (new ≡ old)
Answers old requests.Stats answer new = (answer ≡ reply_only (stats_line old.decoded)) × (new ≡ old)
Answers old (requests.Ask question) answer new = (reply : List ℕ) × AnswersQuestion old question reply × (answer ≡ reply_only reply) × (new ≡ old)
Answers old requests.Lost answer new = (answer ≡ reply_only (refused_line refusals.NoMemory)) × (new ≡ old)

-- lines in sequence, answers that they may have, and the state after them
abbrev pub AnswersEach : SessionState → List Line → List Answer → SessionState → Type 0
AnswersEach old [] [] new = new ≡ old
AnswersEach old (line ∷ lines) (answer ∷ answers) new = (mid : SessionState) × Answers old line answer mid × AnswersEach mid lines answers new
AnswersEach old [] (answer ∷ answers) new = ⊥
AnswersEach old (line ∷ lines) [] new = ⊥

-- all replies, and all bytes of frames
abbrev pub replies_of : List Answer → List ℕ
replies_of answers = flat_map (λ answer. answer.reply) answers

abbrev pub frames_of : List Answer → List ℕ
frames_of answers = flat_map (λ answer. answer.frames) answers

-- between two moments a line was answered, and the two writers gained the answer
pub record WritesAnswer (old : SessionState) (line : Line) (frames frames' replies replies' : Option (List ℕ)) (new : SessionState) : Type 0 where
  pub answer : Answer
  pub means : Answers old line answer new
  pub shown : Appends frames frames' answer.frames
  pub said : Appends replies replies' answer.reply

-- between two moments these lines were answered, and the two writers gained the answers
pub record WritesAnswers (old : SessionState) (lines : List Line) (frames frames' replies replies' : Option (List ℕ)) (new : SessionState) : Type 0 where
  pub answers : List Answer
  pub means : AnswersEach old lines answers new
  pub shown : Appends frames frames' (frames_of answers)
  pub said : Appends replies replies' (replies_of answers)

-- between two moments a line was answered, at least up to its reply: no byte of the reply was written, or all bytes of its frame
-- were (the reply is left open: `None`)
abbrev pub WritesFrameFirst : (old : SessionState) → (line : Line) → (frames frames' replies replies' : Option (List ℕ)) → (new : SessionState) → Type 0
WritesFrameFirst old line frames frames' replies replies' new = Keeps replies replies' ⊎ WritesAnswer old line frames frames' None None new

-- between two moments these lines were answered up to a writer's error: the lines before one in whole, and that one at least up to its reply
pub record WritesUntilError (old : SessionState) (lines : List Line) (frames frames' replies replies' : Option (List ℕ)) : Type 0 where
  pub done : List Line
  pub line : Line
  pub rest : List Line
  pub whole : done ++ line ∷ rest ≡ lines
  pub mid : SessionState
  pub frames_mid : Option (List ℕ)
  pub replies_mid : Option (List ℕ)
  pub ran : WritesAnswers old done frames frames_mid replies replies_mid mid
  pub new : SessionState
  pub frame_first : WritesFrameFirst mid line frames_mid frames' replies_mid replies' new

-- the bytes of the sources
abbrev pub texts_of : List (Bor (List ℕ)) → List (List ℕ)
texts_of sources = map (λ bytes. bytes.now) sources

-- files are read from these bytes, one for each
abbrev pub AreStreams : List (List ℕ) → List Stream → Type 0
AreStreams [] [] = Unit {0}
AreStreams (bytes ∷ more) (file ∷ files) = IsStream bytes file × AreStreams more files
AreStreams [] (file ∷ files) = ⊥
AreStreams (bytes ∷ more) [] = ⊥

-- the requests of this text were answered over the files of these bytes
pub record Means (tables : Tables) (sources : List (List ℕ)) (requests : List ℕ) (frames frames' replies replies' : Option (List ℕ)) (end : SessionState) : Type 0 where
  pub files : List Stream
  pub are : AreStreams sources files
  pub runs : WritesAnswers (start tables files) (requests_of requests) frames frames' replies replies' end

-- the error of reading a source is exactly the error of reading its bytes, and each source before it is a file
pub record SourceRefuses (sources : List (List ℕ)) (source : ℕ) (fault : StreamFault) : Type 0 where
  pub bytes : List ℕ
  pub is_its : slice_get sources source ≡ Some bytes
  pub refuses : StreamRefuses bytes fault
  pub files : List Stream
  pub earlier : AreStreams (take source sources) files

-- reading the sources ends at an error of one of them, and at no other
abbrev pub IsSourceRefused : List (List ℕ) → RunFault → Type 0
IsSourceRefused sources (faults.Source source fault) = SourceRefuses sources source fault
IsSourceRefused sources other = ⊥

-- how a run ends without a session. If a source is not a file, the error is the first one's; otherwise all are files. Nothing is
-- written before the first line, and a writer's error stops the run within its request list: no reply begins before its whole
-- frame is written
abbrev pub RunStops : Tables → (sources : List (List ℕ)) → (requests : List ℕ) → (frames frames' replies replies' : Option (List ℕ)) → RunFault → Type 0
RunStops tables sources requests frames frames' replies replies' (faults.Source source fault) = SourceRefuses sources source fault × Keeps frames frames' × Keeps replies replies'
RunStops tables sources requests frames frames' replies replies' faults.NoMemory = (files : List Stream) × AreStreams sources files × Keeps frames frames' × Keeps replies replies'
RunStops tables sources requests frames frames' replies replies' faults.Write =
    (files : List Stream) × AreStreams sources files × WritesUntilError (start tables files) (requests_of requests) frames frames' replies replies'
