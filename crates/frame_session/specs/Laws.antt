-- Laws that follow from the definition of a request list's meaning.
use Rattle.std.specs.Prelude.{◌≡◌, ◌≢◌, All, ℕ, ◌≤◌, true, List, [], ◌∷◌}
use Rattle.request_lines.specs.declared.lines.Line.{Line}
use Rattle.request_lines.specs.declared.lines.Line.TheVariants.{Lost, Stats}
use Rattle.frame_session.specs.declared.refusal.Refusal.{Refusal}
use Rattle.frame_session.specs.declared.refusal.Refusal.TheVariants as refusals
use Rattle.frame_session.specs.Questions.{is_question}
use Rattle.frame_session.specs.Replies.{refused_line, stats_line}
use Rattle.frame_session.specs.Sessions.{SessionState}
use Rattle.frame_session.specs.Answers.{Answer, Answers, AnswersEach, reply_only}

-- no reply is `refused NoMemory`
abbrev pub HaveMemory : List Answer → Type 0
HaveMemory [] = Unit {0}
HaveMemory (answer ∷ answers) = (answer.reply ≡ refused_line refusals.NoMemory → ⊥) × HaveMemory answers

-- two answers to a line are the same, except for the number that `stats` reports
abbrev pub AreAlike : Line → Answer → Answer → Type 0
AreAlike Stats answer answer' = (steps : ℕ) × (steps' : ℕ) × (answer ≡ reply_only (stats_line steps)) × (answer' ≡ reply_only (stats_line steps'))
AreAlike line answer answer' = answer' ≡ answer

abbrev pub AllAlike : List Line → List Answer → List Answer → Type 0
AllAlike [] [] [] = Unit {0}
AllAlike (line ∷ lines) (answer ∷ answers) (answer' ∷ answers') = AreAlike line answer answer' × AllAlike lines answers answers'
AllAlike lines answers answers' = ⊥

-- if no reply is `refused NoMemory`, the requests have one answer each except for the numbers that `stats` reports, and
-- the states after them differ only in the number of steps
abbrev pub AnswersAreOne : Type 0
AnswersAreOne = (old new new' : SessionState) (lines : List Line) (answers answers' : List Answer) → AnswersEach old lines answers new → AnswersEach old lines answers' new'
    → HaveMemory answers → HaveMemory answers' → AllAlike lines answers answers' × (new' ≡ record new { decoded = new'.decoded })

-- the number that `stats` reports never falls
abbrev pub StepsNeverFall : Type 0
StepsNeverFall = (old new : SessionState) (lines : List Line) (answers : List Answer) → AnswersEach old lines answers new → old.decoded ≤ new.decoded

-- a refused line changes only the number of steps: neither packets nor ids nor the script nor the fixed size
abbrev pub RefusedLinesChangeNothing : Type 0
RefusedLinesChangeNothing = (old new : SessionState) (line : Line) (answer : Answer) (refusal : Refusal) → Answers old line answer new → answer.reply ≡ refused_line refusal
    → new ≡ record old { decoded = new.decoded }

-- in every session, each list of requests of which no line was lost has answers of which none is `refused NoMemory`
abbrev pub AnswersExist : Type 0
AnswersExist = (old : SessionState) (lines : List Line) → All (λ line. line ≢ Lost) lines → (answers : List Answer) × (new : SessionState) × AnswersEach old lines answers new × HaveMemory answers

-- a question changes nothing, whatever its reply
abbrev pub QuestionsChangeNothing : Type 0
QuestionsChangeNothing = (old new : SessionState) (line : Line) (answer : Answer) → is_question line ≡ true → Answers old line answer new → new ≡ old
