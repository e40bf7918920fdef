-- The forms of request lines. From this one table follow the request of a line, and why a line is not a request. The lines of a text are
-- std's `lines`.
use Rattle.std.specs.Prelude.{ℕ, ◌%◌, ◌==◌, Bool, true, false, List, [], ◌∷◌, drop, length, nat_eq, Option, Some, None, Result, Ok, Err, if◌then◌else◌, codes}
use Rattle.std.specs.List.{starts_with}
use Rattle.std.specs.Option.{option_map_or}
use Rattle.std.specs.Result.{result_err, result_unwrap_or}
use Rattle.std.specs.Str.{bytes_eq}
use Rattle.text_words.specs.Words.{words_of, number_of, after_word}
use Rattle.request_lines.specs.HexWords.{bytes_of}
use Rattle.request_lines.specs.declared.edit.Edit.TheVariants.{Insert, Replace, Delete, Move, Copy, Blank, Hold, ShowBit}
use Rattle.request_lines.specs.declared.lines.Line.{Line}
use Rattle.request_lines.specs.declared.lines.Line.TheVariants.{Silent, Unknown, Frame, Use, Edit, Script, Count, Stats, Ask}
use Rattle.request_lines.specs.declared.question.Question.TheVariants as questions
use Rattle.request_lines.specs.declared.misfit.Misfit.{Misfit}
use Rattle.request_lines.specs.declared.misfit.Misfit.TheVariants.{NoRequest, Missing, TooMany, NoNumber, OddDigits, NoBytes}

-- what a word after a command is: a number, or bytes
pub data Kind : Type 0 where
  Number : Kind
  Bytes : Kind

-- a request that still takes the values of words of these kinds
abbrev pub Taking : List Kind → Type 0
Taking [] = Line
Taking (Number ∷ kinds) = ℕ → Taking kinds
Taking (Bytes ∷ kinds) = List ℕ → Taking kinds

-- what follows a command: words of these kinds and no others, or a text; without a word it makes the first request
pub data Form : Type 0 where
  Words : (kinds : List Kind) → Taking kinds → Form
  Text : Line → (List ℕ → Line) → Form

-- a command, what follows it, and the request that they make
pub record Command : Type 0 where
  pub name : List ℕ
  pub form : Form

abbrev pub command : List ℕ → Form → Command
command name form = record { name = name; form = form }

-- the edits
abbrev pub edit_commands : List Command
edit_commands =
    command (codes "insert") (Words (Number ∷ Number ∷ Bytes ∷ []) (λ at stamp bytes. Edit (Insert at stamp bytes)))
    ∷ command (codes "replace") (Words (Number ∷ Bytes ∷ []) (λ at bytes. Edit (Replace at bytes)))
    ∷ command (codes "delete") (Words (Number ∷ []) (λ at. Edit (Delete at)))
    ∷ command (codes "move") (Words (Number ∷ Number ∷ []) (λ from to. Edit (Move from to)))
    ∷ command (codes "copy") (Words (Number ∷ Number ∷ Number ∷ []) (λ source from at. Edit (Copy source from at)))
    ∷ command (codes "blank") (Words (Number ∷ Number ∷ Number ∷ []) (λ at width height. Edit (Blank at width height)))
    ∷ command (codes "hold") (Words (Number ∷ []) (λ at. Edit (Hold at)))
    ∷ command (codes "hide") (Words (Number ∷ []) (λ at. Edit (ShowBit at false)))
    ∷ command (codes "show") (Words (Number ∷ []) (λ at. Edit (ShowBit at true)))
    ∷ []

-- the questions, and the edits
abbrev pub question_commands : List Command
question_commands =
    command (codes "packet") (Words (Number ∷ []) (λ at. Ask (questions.Packet at)))
    ∷ command (codes "macroblocks") (Words (Number ∷ []) (λ at. Ask (questions.Macroblocks at)))
    ∷ command (codes "header") (Words (Number ∷ []) (λ at. Ask (questions.Header at)))
    ∷ command (codes "list") (Words (Number ∷ Number ∷ []) (λ first count. Ask (questions.List first count)))
    ∷ command (codes "check") (Words (Number ∷ Number ∷ []) (λ first count. Ask (questions.Check first count)))
    ∷ command (codes "origins") (Words (Number ∷ Number ∷ []) (λ first count. Ask (questions.Origins first count)))
    ∷ edit_commands

abbrev pub commands : List Command
commands =
    command (codes "frame") (Words (Number ∷ []) Frame)
    ∷ command (codes "use") (Words (Number ∷ []) Use)
    ∷ command (codes "script") (Text (Ask questions.Script) Script)
    ∷ command (codes "count") (Words [] Count)
    ∷ command (codes "stats") (Words [] Stats)
    ∷ question_commands

-- the form of the first command with this name, if there is one
abbrev pub form_in : List Command → List ℕ → Option Form
form_in [] name = None
form_in (first ∷ others) name = if bytes_eq name first.name then Some first.form else form_in others name

-- why a word does not write bytes
abbrev pub no_bytes : List ℕ → Misfit
no_bytes word = if length word % 2 == 1 then OddDigits word else NoBytes word

-- the number that the first word writes, or why there is none
abbrev pub first_number : List (List ℕ) → Result ℕ Misfit
first_number [] = Err Missing
first_number (word ∷ words) = option_map_or Ok (number_of word) (Err (NoNumber word))

-- the bytes that the first word writes, or why there are none
abbrev pub first_bytes : List (List ℕ) → Result (List ℕ) Misfit
first_bytes [] = Err Missing
first_bytes (word ∷ words) = option_map_or Ok (bytes_of word) (Err (no_bytes word))

-- a line that continues with a value, if there is one
abbrev pub with_value : {A : Type 0} → Result A Misfit → (A → Result Line Misfit) → Result Line Misfit
with_value (Ok value) next = next value
with_value (Err misfit) next = Err misfit

-- the request that words of these kinds make, or the first of them that does not fit
abbrev pub read_words : (kinds : List Kind) → Taking kinds → List (List ℕ) → Result Line Misfit
read_words [] request [] = Ok request
read_words [] request (word ∷ words) = Err (TooMany word)
read_words (Number ∷ kinds) request words = with_value (first_number words) (λ n. read_words kinds (request n) (drop 1 words))
read_words (Bytes ∷ kinds) request words = with_value (first_bytes words) (λ bytes. read_words kinds (request bytes) (drop 1 words))

-- the request of a text, which has these words
abbrev pub read_text : Line → (List ℕ → Line) → List ℕ → List (List ℕ) → Result Line Misfit
read_text alone request text [] = Ok alone
read_text alone request text (word ∷ words) = Ok (request text)

-- the request of what follows a command, if it has its form
abbrev pub read_form : Option Form → List ℕ → List (List ℕ) → Result Line Misfit
read_form None text words = Err NoRequest
read_form (Some (Words kinds request)) text words = read_words kinds request words
read_form (Some (Text alone request)) text words = read_text alone request text words

-- the request of a text after the command with this name
abbrev pub read_after : List ℕ → List ℕ → Result Line Misfit
read_after name text = read_form (form_in commands name) text (words_of text)

-- a line with these words, and this text after the first: silent if there are no words, or if the first begins with `#`
abbrev pub read_by_words : List (List ℕ) → List ℕ → Result Line Misfit
read_by_words [] text = Ok Silent
read_by_words (name ∷ words) text = if starts_with nat_eq name (codes "#") then Ok Silent else read_after name text

-- the request of a line, or why it is not one
abbrev pub read_of : List ℕ → Result Line Misfit
read_of line = read_by_words (words_of line) (after_word line)

-- the request of a line
abbrev pub asked_by : List ℕ → Line
asked_by line = result_unwrap_or (read_of line) Unknown

-- why a line is not a request, if it is not one
abbrev pub misfit_of : List ℕ → Option Misfit
misfit_of line = result_err (read_of line)

-- whether a line is not a request
abbrev pub is_unknown : Line → Bool
is_unknown Unknown = true
is_unknown line = false
