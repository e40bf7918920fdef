-- The answers to questions.
use Rattle.std.specs.Prelude.{◌≡◌, ◌⊎◌, ℕ, Bool, true, false, if◌then◌else◌, length, List, nat_lt, Option, slice_get}
use Rattle.std.specs.Io.KnownBytes.{Appends}
use Rattle.std.specs.Option.{option_map_or}
use Rattle.packet_edits.specs.Edits.{Listing}
use Rattle.vp8_tables.specs.Tables.{TableEntries}
use Rattle.macroblock_lists.specs.declared.layouts.What.{What}
use Rattle.macroblock_lists.specs.declared.layouts.What.TheVariants as what
use Rattle.session_questions.specs.Details.{detail_text}
use Rattle.session_questions.specs.Findings.{check_lines}
use Rattle.session_questions.specs.Lines.{lines_from}
use Rattle.request_lines.specs.declared.lines.Line.{Line}
use Rattle.request_lines.specs.declared.lines.Line.TheVariants as requests
use Rattle.request_lines.specs.declared.question.Question.{Question}
use Rattle.request_lines.specs.declared.question.Question.TheVariants as questions
use Rattle.frame_session.specs.declared.refusal.Refusal.TheVariants as refusals
use Rattle.frame_session.specs.Origins.{origins_answer}
use Rattle.frame_session.specs.Replies.{lines_reply, packet_line, refused_line, script_line, text_reply}
use Rattle.frame_session.specs.Sessions.{SessionState, current_list}

-- the packet at an index of a list, if there is one
abbrev pub packet_answer : Listing → ℕ → List ℕ
packet_answer list at = option_map_or (λ entry. packet_line entry.stamp entry.bytes) (slice_get list.entries at) (refused_line refusals.Place)

-- the lines of at most this many packets of a list, starting at an index
abbrev pub list_answer : Listing → ℕ → ℕ → List ℕ
list_answer list first count = if nat_lt (length list.entries) first then refused_line refusals.Place else lines_reply (lines_from list first count)

-- the findings at at most this many packets of a list, starting at an index, and how many they are
abbrev pub check_answer : TableEntries → Listing → ℕ → ℕ → List ℕ
check_answer tables list first count = if nat_lt (length list.entries) first then refused_line refusals.Place else lines_reply (check_lines tables list first count)

-- the macroblocks or the header of the packet at an index of a list
abbrev pub detail_answer : What → TableEntries → Listing → ℕ → List ℕ
detail_answer what tables list at = if nat_lt at (length list.entries) then text_reply (detail_text what tables list at) else refused_line refusals.Place

-- the reply to a question
abbrev pub answer_to : SessionState → Question → List ℕ
answer_to now (questions.Packet at) = packet_answer (current_list now) at
answer_to now (questions.Macroblocks at) = detail_answer what.Macroblocks now.tables (current_list now) at
answer_to now (questions.Header at) = detail_answer what.Header now.tables (current_list now) at
answer_to now questions.Script = script_line now.script
answer_to now (questions.Origins first count) = origins_answer now first count
answer_to now (questions.List first count) = list_answer (current_list now) first count
answer_to now (questions.Check first count) = check_answer now.tables (current_list now) first count

-- whether memory may run out for the reply: macroblocks, headers and findings are read with the modes of the packets before them
abbrev pub takes_memory : Question → Bool
takes_memory (questions.Macroblocks at) = true
takes_memory (questions.Header at) = true
takes_memory (questions.Check first count) = true
takes_memory question = false

-- a reply that a question may have: the one to it, or that memory ran out for it
abbrev pub AnswersQuestion : SessionState → Question → List ℕ → Type 0
AnswersQuestion now question reply = (reply ≡ answer_to now question) ⊎ ((takes_memory question ≡ true) × (reply ≡ refused_line refusals.NoMemory))

-- the replies gained a reply that a question may have
pub record GainsAnswer (now : SessionState) (question : Question) (replies replies' : Option (List ℕ)) : Type 0 where
  pub reply : List ℕ
  pub means : AnswersQuestion now question reply
  pub said : Appends replies replies' reply

-- whether a line only asks: nothing of a session changes, neither packets and marks, nor the script, nor cached outcomes, nor the
-- number of steps
abbrev pub is_question : Line → Bool
is_question (requests.Ask question) = true
is_question requests.Count = true
is_question requests.Stats = true
is_question line = false
