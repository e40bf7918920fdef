-- If nothing is out of memory, a request list has one meaning, except for the number of steps.
use Rattle.std.proofs.Common.{◌≡◌, inl, inr, ℕ, Bool, true, false, cond, List, [], ◌∷◌, Option, Some, None, Result, Ok, Err, refl, sym, ap, ◌∙◌, subst}
use Rattle.script_nodes.specs.Shown.{Shown}
use Rattle.request_lines.specs.declared.lines.Line.{Line}
use Rattle.request_lines.specs.declared.lines.Line.TheVariants as requests
use Rattle.request_lines.specs.declared.question.Question.{Question}
use Rattle.request_lines.specs.declared.question.Question.TheVariants as questions
use Rattle.request_lines.specs.declared.edit.Edit.{Edit}
use Rattle.request_lines.specs.declared.edit.Edit.TheVariants as edits
use Rattle.frame_session.specs.declared.refusal.Refusal.{Refusal}
use Rattle.frame_session.specs.declared.refusal.Refusal.TheVariants as refusals
use Rattle.frame_session.specs.declared.size.Size.{Size}
use Rattle.frame_session.specs.Edits.{WrittenAnswers}
use Rattle.frame_session.specs.IsOrNoMemory.{IsOrNoMemory}
use Rattle.frame_session.specs.Questions.{AnswersQuestion, answer_to}
use Rattle.frame_session.specs.Replies.{refused_line, edit_line}
use Rattle.frame_session.specs.Sessions.{SessionState, after_frame, choice_answer, current_list, edit_answer, now_after_choice, now_after_edit, now_after_script, frame_of, script_answer, size_served}
use Rattle.frame_session.specs.Answers.{Answer, Answers, AnswersEdit, AnswersEach, answer_to_frame, reply_only}
use Rattle.frame_session.specs.Laws.{AllAlike, AreAlike, HaveMemory}

-- another number of steps
abbrev counted : SessionState → ℕ → SessionState
counted now steps = record now { decoded = steps }

-- the result is the wanted one, unless it is NoMemory
given : {A : Type 0} (want answer : Result A Refusal) → (answer ≡ Err refusals.NoMemory → ⊥) → IsOrNoMemory want answer → want ≡ answer
given want (Ok value) enough returned = returned
given want (Err refusals.NoMemory) enough returned = absurd (enough refl)
given want (Err refusals.Line) enough returned = returned
given want (Err refusals.Source) enough returned = returned
given want (Err refusals.Place) enough returned = returned
given want (Err refusals.Full) enough returned = returned
given want (Err refusals.Spent) enough returned = returned
given want (Err refusals.NoBit) enough returned = returned
given want (Err refusals.Size) enough returned = returned
given want (Err refusals.TooLarge) enough returned = returned
given want (Err refusals.NoSuchFrame) enough returned = returned
given want (Err refusals.CropOutside) enough returned = returned
given want (Err refusals.SizeDiffers) enough returned = returned
given want (Err refusals.Syntax) enough returned = returned
given want (Err refusals.Nodes) enough returned = returned
given want (Err refusals.Reference) enough returned = returned
given want (Err refusals.Number) enough returned = returned
given want (Err (refusals.Packet source place cause)) enough returned = returned

-- a reply other than `refused NoMemory` comes from a frame other than NoMemory
enough_for : (old : SessionState) (n : ℕ) (answer : Answer) (frame : Result Shown Refusal) → answer ≡ answer_to_frame old n frame → (answer.reply ≡ refused_line refusals.NoMemory → ⊥) → frame ≡ Err refusals.NoMemory → ⊥
enough_for old n answer frame is enough lacks =
    enough (ap (λ (a : Answer). a.reply) (is ∙ ap (λ (f : Result Shown Refusal). answer_to_frame old n f) lacks))

-- the state after a frame, except for the number of steps, does not depend on that number
after_counted : (old : SessionState) (steps d : ℕ) (size : Option Size) → counted (after_frame (counted old steps) size) d ≡ counted (after_frame old size) d
after_counted old steps d (Some size) = refl
after_counted old steps d None = refl

-- an answer that leaves everything unchanged
same_answer : (old : SessionState) (steps : ℕ) (answer answer' wanted : Answer) (new new' : SessionState) → (answer ≡ wanted) × (new ≡ old) → (answer' ≡ wanted) × (new' ≡ counted old steps) → (answer' ≡ answer) × (new' ≡ counted new new'.decoded)
same_answer old steps answer answer' wanted new new' first second =
    (second.0 ∙ sym first.0, second.1 ∙ ap (λ (s : SessionState). counted s steps) (sym first.1) ∙ ap (λ (d : ℕ). counted new d) (sym (ap (λ (s : SessionState). s.decoded) second.1)))

-- the state after an edit, except for the number of steps, does not depend on that number
edit_counted : (old : SessionState) (steps : ℕ) (edit : Edit (List ℕ)) (edited : Result ℕ Refusal) → now_after_edit edit (counted old steps) edited ≡ counted (now_after_edit edit old edited) steps
edit_counted old steps edit (Ok count) = refl
edit_counted old steps edit (Err refusal) = refl

choice_counted : (old : SessionState) (steps source : ℕ) (exists : Bool) → cond exists (record (counted old steps) { current = source }) (counted old steps) ≡ counted (cond exists (record old { current = source }) old) steps
choice_counted old steps source true = refl
choice_counted old steps source false = refl

-- two answers to a choice of a source
one_choice : (old : SessionState) (steps source : ℕ) (answer answer' : Answer) (new new' : SessionState) → (answer ≡ reply_only (edit_line (choice_answer old source))) × (new ≡ now_after_choice source old) → (answer' ≡ reply_only (edit_line (choice_answer old source))) × (new' ≡ now_after_choice source (counted old steps)) → (answer' ≡ answer) × (new' ≡ counted new new'.decoded)
one_choice old steps source answer answer' new new' first second =
    let again : new' ≡ counted (now_after_choice source old) steps = second.1 ∙ choice_counted old steps source _ in (
      second.0 ∙ sym first.0,
      again ∙ ap (λ (s : SessionState). counted s steps) (sym first.1) ∙ ap (λ (d : ℕ). counted new d) (sym (ap (λ (s : SessionState). s.decoded) again)),
    )

-- two answers to an edit with the same result
same_edit : (old : SessionState) (steps : ℕ) (edit : Edit (List ℕ)) (edited edited' : Result ℕ Refusal) (answer answer' : Answer) (new new' : SessionState) → edited' ≡ edited → AnswersEdit old edit edited answer new → AnswersEdit (counted old steps) edit edited' answer' new' → (answer' ≡ answer) × (new' ≡ counted new new'.decoded)
same_edit old steps edit edited edited' answer answer' new new' same first second =
    let again : new' ≡ counted (now_after_edit edit old edited) steps = second.1 ∙ ap (λ (e : Result ℕ Refusal). now_after_edit edit (counted old steps) e) same ∙ edit_counted old steps edit edited in (
      second.0 ∙ ap (λ (e : Result ℕ Refusal). reply_only (edit_line e)) same ∙ sym first.0,
      again ∙ ap (λ (s : SessionState). counted s steps) (sym first.1) ∙ ap (λ (d : ℕ). counted new d) (sym (ap (λ (s : SessionState). s.decoded) again)),
    )

-- and two that are not `refused NoMemory`
told_edit : (edited : Result ℕ Refusal) (answer : Answer) → answer ≡ reply_only (edit_line edited) → (answer.reply ≡ refused_line refusals.NoMemory → ⊥) → edited ≡ Err refusals.NoMemory → ⊥
told_edit edited answer is enough lacks = enough (ap (λ (a : Answer). a.reply) is ∙ ap edit_line lacks)

-- the result of an edit is the wanted one, unless it is NoMemory
written_given : (old : SessionState) (edit : Edit (List ℕ)) (answer : Result ℕ Refusal) → (answer ≡ Err refusals.NoMemory → ⊥) → WrittenAnswers old.tables old.lists (current_list old) edit answer → edit_answer old edit ≡ answer
written_given old (edits.Insert at stamp bytes) answer enough returned = given _ answer enough returned
written_given old (edits.Replace at bytes) answer enough returned = given _ answer enough returned
written_given old (edits.Delete at) answer enough returned = sym returned
written_given old (edits.Move from to) answer enough returned = sym returned
written_given old (edits.Copy source from at) answer enough returned = given _ answer enough returned
written_given old (edits.Blank at width height) answer enough returned = given _ answer enough returned
written_given old (edits.Hold at) answer enough returned = given _ answer enough returned
written_given old (edits.ShowBit at shown) answer enough returned = given _ answer enough returned

one_edit : (old : SessionState) (steps : ℕ) (edit : Edit (List ℕ)) (edited edited' : Result ℕ Refusal) (answer answer' : Answer) (new new' : SessionState) → WrittenAnswers old.tables old.lists (current_list old) edit edited → WrittenAnswers old.tables old.lists (current_list old) edit edited' → AnswersEdit old edit edited answer new → AnswersEdit (counted old steps) edit edited' answer' new' → (answer.reply ≡ refused_line refusals.NoMemory → ⊥) → (answer'.reply ≡ refused_line refusals.NoMemory → ⊥) → (answer' ≡ answer) × (new' ≡ counted new new'.decoded)
one_edit old steps edit edited edited' answer answer' new new' returned gives' first second enough enough' =
    let wanted : edit_answer old edit ≡ edited = written_given old edit edited (told_edit edited answer first.0 enough) returned in
    let wanted' : edit_answer old edit ≡ edited' = written_given old edit edited' (told_edit edited' answer' second.0 enough') gives' in
    same_edit old steps edit edited edited' answer answer' new new' (sym wanted' ∙ wanted) first second

-- the same for a script
script_counted : (old : SessionState) (steps : ℕ) (text : List ℕ) (set : Result ℕ Refusal) → now_after_script text (counted old steps) set ≡ counted (now_after_script text old set) steps
script_counted old steps text (Ok count) = refl
script_counted old steps text (Err refusal) = refl

one_script : (old : SessionState) (steps : ℕ) (text : List ℕ) (set set' : Result ℕ Refusal) (answer answer' : Answer) (new new' : SessionState) → IsOrNoMemory (script_answer old text) set → IsOrNoMemory (script_answer old text) set' → (answer ≡ reply_only (edit_line set)) × (new ≡ now_after_script text old set) → (answer' ≡ reply_only (edit_line set')) × (new' ≡ now_after_script text (counted old steps) set') → (answer.reply ≡ refused_line refusals.NoMemory → ⊥) → (answer'.reply ≡ refused_line refusals.NoMemory → ⊥) → (answer' ≡ answer) × (new' ≡ counted new new'.decoded)
one_script old steps text set set' answer answer' new new' returned gives' first second enough enough' =
    let wanted : script_answer old text ≡ set = given (script_answer old text) set (told_edit set answer first.0 enough) returned in
    let wanted' : script_answer old text ≡ set' = given (script_answer old text) set' (told_edit set' answer' second.0 enough') gives' in
    let same : set' ≡ set = sym wanted' ∙ wanted in
    let again : new' ≡ counted (now_after_script text old set) steps = second.1 ∙ ap (λ (e : Result ℕ Refusal). now_after_script text (counted old steps) e) same ∙ script_counted old steps text set in
    let steps_are : new'.decoded ≡ steps = ap (λ (s : SessionState). s.decoded) again in (
      second.0 ∙ ap (λ (e : Result ℕ Refusal). reply_only (edit_line e)) same ∙ sym first.0,
      again ∙ ap (λ (s : SessionState). counted s steps) (sym first.1) ∙ ap (λ (d : ℕ). counted new d) (sym steps_are),
    )

-- the answer to a question does not depend on the number of steps
asked_counted : (old : SessionState) (steps : ℕ) (question : Question) → answer_to (counted old steps) question ≡ answer_to old question
asked_counted old steps (questions.Packet at) = refl
asked_counted old steps (questions.Macroblocks at) = refl
asked_counted old steps (questions.Header at) = refl
asked_counted old steps questions.Script = refl
asked_counted old steps (questions.Origins first count) = refl
asked_counted old steps (questions.List first count) = refl
asked_counted old steps (questions.Check first count) = refl

-- a reply to a question other than `refused NoMemory` is the one to it
asked_given : (now : SessionState) (question : Question) (reply : List ℕ) → (reply ≡ refused_line refusals.NoMemory → ⊥) → AnswersQuestion now question reply → reply ≡ answer_to now question
asked_given now question reply enough (inl is) = is
asked_given now question reply enough (inr (takes, lacks)) = absurd (enough lacks)

-- two answers to one line, the second after another number of steps
one_answer : (old : SessionState) (steps : ℕ) (line : Line) (answer answer' : Answer) (new new' : SessionState) → Answers old line answer new → Answers (counted old steps) line answer' new' → (answer.reply ≡ refused_line refusals.NoMemory → ⊥) → (answer'.reply ≡ refused_line refusals.NoMemory → ⊥) → AreAlike line answer answer' × (new' ≡ counted new new'.decoded)
one_answer old steps requests.Stats answer answer' new new' first second enough enough' =
    ((old.decoded, steps, first.0, second.0), second.1 ∙ ap (λ (s : SessionState). counted s steps) (sym first.1) ∙ ap (λ (d : ℕ). counted new d) (sym (ap (λ (s : SessionState). s.decoded) second.1)))
one_answer old steps (requests.Frame n) answer answer' new new' first second enough enough' =
    let frame : Result Shown Refusal = first.0 in
    let frame' : Result Shown Refusal = second.0 in
    let wanted : frame_of old n ≡ frame = given (frame_of old n) frame (enough_for old n answer frame first.2 enough) first.1 in
    let wanted' : frame_of old n ≡ frame' = given (frame_of old n) frame' (enough_for (counted old steps) n answer' frame' second.2 enough') second.1 in
    let same : frame' ≡ frame = sym wanted' ∙ wanted in (
      second.2 ∙ ap (λ (f : Result Shown Refusal). answer_to_frame old n f) same ∙ sym first.2,
      second.3.rest ∙ after_counted old steps new'.decoded (size_served frame')
          ∙ ap (λ (f : Result Shown Refusal). counted (after_frame old (size_served f)) new'.decoded) same
          ∙ sym (ap (λ (s : SessionState). counted s new'.decoded) first.3.rest),
    )
one_answer old steps (requests.Use source) answer answer' new new' first second enough enough' = one_choice old steps source answer answer' new new' first second
one_answer old steps (requests.Edit edit) answer answer' new new' first second enough enough' =
    one_edit old steps edit first.0 second.0 answer answer' new new' first.1 second.1 first.2 second.2 enough enough'
one_answer old steps (requests.Script text) answer answer' new new' first second enough enough' =
    one_script old steps text first.0 second.0 answer answer' new new' first.1 second.1 first.2 second.2 enough enough'
one_answer old steps (requests.Ask question) answer answer' new new' first second enough enough' =
    let is = asked_given old question first.0 (λ lacks. enough (ap (λ (a : Answer). a.reply) first.2 ∙ lacks)) first.1 in
    let is' = asked_given (counted old steps) question second.0 (λ lacks. enough' (ap (λ (a : Answer). a.reply) second.2 ∙ lacks)) second.1 in
    same_answer old steps answer answer' (reply_only (answer_to old question)) new new' (first.2 ∙ ap reply_only is, first.3) (second.2 ∙ ap reply_only (is' ∙ asked_counted old steps question), second.3)
one_answer old steps line answer answer' new new' first second enough enough' = same_answer old steps answer answer' _ new new' first second

one_run : (old : SessionState) (steps : ℕ) (lines : List Line) (answers answers' : List Answer) (new new' : SessionState) → AnswersEach old lines answers new → AnswersEach (counted old steps) lines answers' new' → HaveMemory answers → HaveMemory answers' → AllAlike lines answers answers' × (new' ≡ counted new new'.decoded)
one_run old steps [] [] [] new new' first second enough enough' =
    (tt, second ∙ ap (λ (s : SessionState). counted s steps) (sym first) ∙ ap (λ (d : ℕ). counted new d) (sym (ap (λ (s : SessionState). s.decoded) second)))
one_run old steps [] [] (x' ∷ answers') new new' first second enough enough' = absurd second
one_run old steps [] (x ∷ answers) answers' new new' first second enough enough' = absurd first
one_run old steps (line ∷ lines) [] answers' new new' first second enough enough' = absurd first
one_run old steps (line ∷ lines) (x ∷ answers) [] new new' first second enough enough' = absurd second
one_run old steps (line ∷ lines) (x ∷ answers) (x' ∷ answers') new new' first second enough enough' =
    let here = one_answer old steps line x x' first.0 second.0 first.1 second.1 enough.0 enough'.0 in
    let P : SessionState → Type 0 = λ s. AnswersEach s lines answers' new' in
    let rest = one_run first.0 second.0.decoded lines answers answers' new new' first.2 (subst P here.1 second.2) enough.1 enough'.1 in
    ((here.0, rest.0), rest.1)

pub runs_one : (old new new' : SessionState) (lines : List Line) (answers answers' : List Answer) → AnswersEach old lines answers new → AnswersEach old lines answers' new' → HaveMemory answers → HaveMemory answers' → AllAlike lines answers answers' × (new' ≡ record new { decoded = new'.decoded })
runs_one old new new' lines answers answers' first second enough enough' = one_run old old.decoded lines answers answers' new new' first second enough enough'
