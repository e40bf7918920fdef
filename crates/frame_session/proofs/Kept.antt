-- Parts of the state that answers leave unchanged.
use Rattle.std.proofs.Common.{◌≡◌, ℕ, ◌≤◌, Bool, true, false, cond, List, [], ◌∷◌, Result, Ok, Err, sym, ap, ◌∙◌, arith}
use Rattle.script_nodes.specs.Shown.{Shown}
use Rattle.request_lines.specs.declared.lines.Line.{Line}
use Rattle.request_lines.specs.declared.lines.Line.TheVariants as requests
use Rattle.request_lines.specs.declared.edit.Edit.{Edit}
use Rattle.frame_session.specs.declared.refusal.Refusal.{Refusal}
use Rattle.frame_session.specs.declared.refusal.Refusal.TheVariants as refusals
use Rattle.frame_session.specs.Replies.{refused_line, edit_line, ok_line, served_line}
use Rattle.frame_session.specs.Sessions.{IsAfterFrame, SessionState, now_after_edit, now_after_script, size_served}
use Rattle.frame_session.specs.Answers.{Answer, Answers, AnswersEach, answer_to_frame}
use Rattle.frame_session.specs.Laws.{QuestionsChangeNothing}
use Rattle.frame_session.proofs.Answered.{begins_otherwise}

-- the state after a script has the same number of steps
script_counts : (old new : SessionState) (text : List ℕ) (set : Result ℕ Refusal) → new ≡ now_after_script text old set → old.decoded ≤ new.decoded
script_counts old new text (Ok count) is = rw is (omega arith)
script_counts old new text (Err refusal) is = rw is (omega arith)

-- the state after an edit has the same number of steps
edit_counts : (old new : SessionState) (edit : Edit (List ℕ)) (edited : Result ℕ Refusal) → new ≡ now_after_edit edit old edited → old.decoded ≤ new.decoded
edit_counts old new edit (Ok count) is = rw is (omega arith)
edit_counts old new edit (Err refusal) is = rw is (omega arith)

-- the state after a source was chosen has the same number of steps
choice_counts : (old new : SessionState) (source : ℕ) (exists : Bool) → new ≡ cond exists (record old { current = source }) old → old.decoded ≤ new.decoded
choice_counts old new source true is = rw is (omega arith)
choice_counts old new source false is = rw is (omega arith)

-- one more line leaves the number of steps or raises it
line_counts : (old new : SessionState) (line : Line) (answer : Answer) → Answers old line answer new → old.decoded ≤ new.decoded
line_counts old new (requests.Frame n) answer means = means.3.steps
line_counts old new (requests.Use source) answer means = choice_counts old new source _ means.1
line_counts old new (requests.Edit edit) answer means = edit_counts old new edit means.0 means.2.1
line_counts old new (requests.Script text) answer means = script_counts old new text means.0 means.2.1
line_counts old new (requests.Ask question) answer means = rw means.3 (omega arith)
line_counts old new line answer means = rw means.1 (omega arith)

pub lines_count : (old new : SessionState) (lines : List Line) (answers : List Answer) → AnswersEach old lines answers new → old.decoded ≤ new.decoded
lines_count old new [] [] ran = rw ran (omega arith)
lines_count old new [] (answer ∷ answers) ran = absurd ran
lines_count old new (line ∷ lines) [] ran = absurd ran
lines_count old new (line ∷ lines) (answer ∷ answers) ran =
    let first : old.decoded ≤ ran.0.decoded = line_counts old ran.0 line answer ran.1 in
    let rest : ran.0.decoded ≤ new.decoded = lines_count ran.0 new lines answers ran.2 in
    omega (arith, first, rest)

-- an unchanged state
same : (old new : SessionState) → new ≡ old → new ≡ record old { decoded = new.decoded }
same old new is = is ∙ ap (λ (s : SessionState). record old { decoded = s.decoded }) (sym is)

-- a frame that is refused
frame_kept : (old new : SessionState) (n : ℕ) (frame : Result Shown Refusal) (refusal : Refusal) → IsAfterFrame old (size_served frame) new → (answer_to_frame old n frame).reply ≡ refused_line refusal → new ≡ record old { decoded = new.decoded }
frame_kept old new n (Ok shown) refusal after e = absurd (begins_otherwise (served_line n) refusal (λ h. omega (arith, h)) e)
frame_kept old new n (Err other) refusal after e = after.rest

-- an edit that is refused
edit_cached : (old new : SessionState) (edit : Edit (List ℕ)) (edited : Result ℕ Refusal) (refusal : Refusal) → new ≡ now_after_edit edit old edited → edit_line edited ≡ refused_line refusal → new ≡ record old { decoded = new.decoded }
edit_cached old new edit (Ok count) refusal after e = absurd (begins_otherwise (ok_line count) refusal (λ h. omega (arith, h)) e)
edit_cached old new edit (Err other) refusal after e = same old new after

-- a source that does not exist
choice_kept : (old new : SessionState) (source count : ℕ) (refusal : Refusal) (exists : Bool) → new ≡ cond exists (record old { current = source }) old → edit_line (cond exists (Ok count) (Err refusals.Source)) ≡ refused_line refusal → new ≡ record old { decoded = new.decoded }
choice_kept old new source count refusal true after e = absurd (begins_otherwise (ok_line count) refusal (λ h. omega (arith, h)) e)
choice_kept old new source count refusal false after e = same old new after

-- a script that is refused
script_kept : (old new : SessionState) (text : List ℕ) (set : Result ℕ Refusal) (refusal : Refusal) → new ≡ now_after_script text old set → edit_line set ≡ refused_line refusal → new ≡ record old { decoded = new.decoded }
script_kept old new text (Ok count) refusal after e = absurd (begins_otherwise (ok_line count) refusal (λ h. omega (arith, h)) e)
script_kept old new text (Err other) refusal after e = same old new after

reply_of : (answer reply_only : Answer) (reply : List ℕ) → answer ≡ reply_only → answer.reply ≡ reply → reply_only.reply ≡ reply
reply_of answer reply_only reply is e = sym (ap (λ (a : Answer). a.reply) is) ∙ e

pub refused_kept : (old new : SessionState) (line : Line) (answer : Answer) (refusal : Refusal) → Answers old line answer new → answer.reply ≡ refused_line refusal → new ≡ record old { decoded = new.decoded }
refused_kept old new (requests.Frame n) answer refusal means e = frame_kept old new n means.0 refusal means.3 (reply_of answer _ _ means.2 e)
refused_kept old new (requests.Use source) answer refusal means e = choice_kept old new source _ refusal _ means.1 (reply_of answer _ _ means.0 e)
refused_kept old new (requests.Edit edit) answer refusal means e = edit_cached old new edit means.0 refusal means.2.1 (reply_of answer _ _ means.2.0 e)
refused_kept old new (requests.Script text) answer refusal means e = script_kept old new text means.0 refusal means.2.1 (reply_of answer _ _ means.2.0 e)
refused_kept old new (requests.Ask question) answer refusal means e = same old new means.3
refused_kept old new line answer refusal means e = same old new means.1

-- a question leaves all of the state unchanged
pub questions_kept : QuestionsChangeNothing
questions_kept old new (requests.Ask question) answer is means = means.3
questions_kept old new requests.Count answer is means = means.1
questions_kept old new requests.Stats answer is means = means.1
questions_kept old new line answer is means = cc
