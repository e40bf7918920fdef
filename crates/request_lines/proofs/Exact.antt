-- A line has a reason exactly if it is not a request.
use Rattle.std.proofs.Common.{rules, ◌≡◌, ℕ, Bool, true, false, cond, List, [], ◌∷◌, Option, Some, None, Result, Ok, Err, drop, is_some, refl, sym, ap, ◌∙◌}
use Rattle.std.specs.Prelude.{nat_eq, codes}
use Rattle.std.specs.List.{starts_with}
use Rattle.std.specs.Result.{result_err, result_unwrap_or}
use Rattle.std.specs.Str.{bytes_eq}
use Rattle.text_words.specs.Words.{words_of, after_word}
use Rattle.request_lines.specs.declared.lines.Line.{Line}
use Rattle.request_lines.specs.declared.lines.Line.TheVariants.{Silent, Unknown}
use Rattle.request_lines.specs.declared.misfit.Misfit.{Misfit}
use Rattle.request_lines.specs.Requests.{Bytes, Command, Form, Kind, Number, Taking, Text, Words, asked_by, commands, first_bytes, first_number, form_in, is_unknown, misfit_of, read_after, read_by_words, read_form, read_of, read_text, read_words, with_value}

-- a result has an error exactly if its line is not a request
abbrev IsExact : Result Line Misfit → Type 0
IsExact read = is_some (result_err read) ≡ is_unknown (result_unwrap_or read Unknown)

-- whatever the words are, they make a request
abbrev Asks : (kinds : List Kind) → Taking kinds → Type 0
Asks [] request = is_unknown request ≡ false
Asks (Number ∷ kinds) request = (n : ℕ) → Asks kinds (request n)
Asks (Bytes ∷ kinds) request = (bytes : List ℕ) → Asks kinds (request bytes)

abbrev FormAsks : Form → Type 0
FormAsks (Words kinds request) = Asks kinds request
FormAsks (Text alone request) = (is_unknown alone ≡ false) × ((text : List ℕ) → is_unknown (request text) ≡ false)

abbrev AllAsk : List Command → Type 0
AllAsk [] = Unit {0}
AllAsk (first ∷ others) = FormAsks first.form × AllAsk others

-- each command of the table makes a request
commands_ask : AllAsk commands
commands_ask = search rules

value_exact : {A : Type 0} (value : Result A Misfit) (next : A → Result Line Misfit) → ((a : A) → IsExact (next a)) → IsExact (with_value value next)
value_exact (Ok a) next exact = exact a
value_exact (Err misfit) next exact = refl

words_exact : (kinds : List Kind) (request : Taking kinds) (words : List (List ℕ)) → Asks kinds request → IsExact (read_words kinds request words)
words_exact [] request [] asks = sym asks
words_exact [] request (word ∷ words) asks = refl
words_exact (Number ∷ kinds) request words asks =
    value_exact (first_number words) (λ n. read_words kinds (request n) (drop 1 words)) (λ n. words_exact kinds (request n) (drop 1 words) (asks n))
words_exact (Bytes ∷ kinds) request words asks =
    value_exact (first_bytes words) (λ bytes. read_words kinds (request bytes) (drop 1 words)) (λ bytes. words_exact kinds (request bytes) (drop 1 words) (asks bytes))

text_exact : (alone : Line) (request : List ℕ → Line) (text : List ℕ) (words : List (List ℕ)) → is_unknown alone ≡ false → is_unknown (request text) ≡ false → IsExact (read_text alone request text words)
text_exact alone request text [] asks_alone asks = sym asks_alone
text_exact alone request text (word ∷ words) asks_alone asks = sym asks

form_exact : (form : Form) (text : List ℕ) (words : List (List ℕ)) → FormAsks form → IsExact (read_form (Some form) text words)
form_exact (Words kinds request) text words asks = words_exact kinds request words asks
form_exact (Text alone request) text words asks = text_exact alone request text words asks.0 (asks.1 text)

named_exact : (all : List Command) (name text : List ℕ) (words : List (List ℕ)) → AllAsk all → IsExact (read_form (form_in all name) text words)
named_exact [] name text words asks = refl
named_exact (first ∷ others) name text words asks = by_name (bytes_eq name first.name) (named_exact others name text words asks.1)
  where
    by_name : (is_its : Bool) → IsExact (read_form (form_in others name) text words) → IsExact (read_form (cond is_its (Some first.form) (form_in others name)) text words)
    by_name true other = form_exact first.form text words asks.0
    by_name false other = other

line_exact : (line : List ℕ) → is_some (misfit_of line) ≡ is_unknown (asked_by line)
line_exact line = by_words (words_of line)
  where
    by_comment : (is_comment : Bool) (read : Result Line Misfit) → IsExact read → IsExact (cond is_comment (Ok Silent) read)
    by_comment true read exact = refl
    by_comment false read exact = exact

    by_words : (words : List (List ℕ)) → IsExact (read_by_words words (after_word line))
    by_words [] = refl
    by_words (name ∷ words) = by_comment (starts_with nat_eq name (codes "#")) (read_after name (after_word line)) (named_exact commands name (after_word line) (words_of (after_word line)) commands_ask)

pub read_exact : (line : List ℕ) (read : Result Line Misfit) → read ≡ read_of line → is_some (result_err read) ≡ is_unknown (asked_by line)
read_exact line read is = ap (λ (r : Result Line Misfit). is_some (result_err r)) is ∙ line_exact line
