-- What answering lines costs a session: its packets, marks and cached outcomes after each line.
use Rattle.std.specs.Prelude.{◌≡◌, ℕ, ◌&&◌, is_some, List, [], ◌∷◌, Option, IfOk, OnOk, Result}
use Rattle.std.specs.Io.KnownBytes.{Appends}
use Rattle.vp8_tables.specs.declared.tables.Tables.{Tables}
use Rattle.script_nodes.specs.Shown.{Shown}
use Rattle.state_cache.specs.declared.capacity.Capacity.{Capacity}
use Rattle.request_lines.specs.declared.edit.Edit.{Edit}
use Rattle.request_lines.specs.declared.lines.Line.{Line}
use Rattle.request_lines.specs.declared.lines.Line.TheVariants as requests
use Rattle.frame_session.specs.declared.refusal.Refusal.{Refusal}
use Rattle.frame_session.specs.Answers.{Answer, Answers, Means, WritesAnswers, answer_to_frame, reply_only, requests_of}
use Rattle.frame_session.specs.Cached.{CacheWithout, FrameCosts, SessionValue, begun, id_removed, packet_of_frame, stores_after}
use Rattle.frame_session.specs.Live.{LiveMeans}
use Rattle.frame_session.specs.Noted.{is_frame, refuses_frame}
use Rattle.frame_session.specs.Replies.{edit_line}
use Rattle.frame_session.specs.Sessions.{current_list}

-- packets, marks, cached outcomes and the number of steps are unchanged
pub record LeavesCache (old new : SessionValue) : Type 0 where
  pub stores : new.stores ≡ old.stores
  pub cache : new.cache ≡ old.cache

-- an edit with this result makes no step, and drops only what is cached of a packet that it removes
pub record EditCosts (edit : Edit (List ℕ)) (edited : Result ℕ Refusal) (old new : SessionValue) : Type 0 where
  pub stores : new.stores ≡ stores_after old.state.tables old.state.current edit old.stores edited
  pub cache : CacheWithout old.state.current (id_removed edit (current_list old.state) edited) old.cache new.cache

-- what a line with this answer costs: a frame what reaching its packet costs, an edit what it drops, and any other line nothing
abbrev pub LineCosts : SessionValue → Line → Answer → SessionValue → Type 0
LineCosts old (requests.Frame n) answer new =
    (frame : Result Shown Refusal) × (answer ≡ answer_to_frame old.state n frame) × FrameCosts (packet_of_frame old.state n) old frame new
LineCosts old (requests.Edit edit) answer new = (edited : Result ℕ Refusal) × (answer ≡ reply_only (edit_line edited)) × EditCosts edit edited old new
LineCosts old line answer new = LeavesCache old new

-- a line was answered at its cost; unless a writer failed, the writers gained the answer, and for a frame the result is a refusal exactly if
-- the reply is one
pub record AnswersAtCost {E : Type 0} (old : SessionValue) (line : Line) (frames frames' replies replies' : Option (List ℕ)) (result : Result (Option Refusal) E) (new : SessionValue) : Type 0 where
  pub answer : Answer
  pub means : Answers old.state line answer new.state
  pub costs : LineCosts old line answer new
  pub shown : OnOk result (Appends frames frames' answer.frames)
  pub said : OnOk result (Appends replies replies' answer.reply)
  pub told : IfOk result (λ refusal. refuses_frame line answer ≡ (is_frame line && is_some refusal))

-- lines in sequence, answers that they may have, what each costs, and the session after them
abbrev pub RunCosts : SessionValue → List Line → List Answer → SessionValue → Type 0
RunCosts old [] [] new = new ≡ old
RunCosts old (line ∷ lines) (answer ∷ answers) new =
    (mid : SessionValue) × Answers old.state line answer mid.state × LineCosts old line answer mid × RunCosts mid lines answers new
RunCosts old [] (answer ∷ answers) new = ⊥
RunCosts old (line ∷ lines) [] new = ⊥

-- lines were answered, each at its cost, and the writers gained the answers
pub record RunsAtCost (old : SessionValue) (lines : List Line) (frames frames' replies replies' : Option (List ℕ)) (new : SessionValue) : Type 0 where
  pub runs : WritesAnswers old.state lines frames frames' replies replies' new.state
  pub costs : RunCosts old lines runs.answers new

-- the requests of this text were answered over the files of these bytes, each at its cost
pub record MeansAtCost (tables : Tables) (capacity : Capacity) (sources : List (List ℕ)) (requests : List ℕ) (frames frames' replies replies' : Option (List ℕ)) (end : SessionValue) : Type 0 where
  pub means : Means tables sources requests frames frames' replies replies' end.state
  pub costs : RunCosts (begun tables capacity means.files) (requests_of requests) means.runs.answers end

-- the lines that the reader gave were answered, each at its cost
pub record LiveMeansAtCost (tables : Tables) (capacity : Capacity) (sources : List (List ℕ)) (left left' frames frames' replies replies' : Option (List ℕ)) (end : SessionValue) : Type 0 where
  pub means : LiveMeans tables sources left left' frames frames' replies replies' end.state
  pub costs : RunCosts (begun tables capacity means.files) means.answers.requests means.answers.runs.answers end
