-- Why a line is refused as `Line`: what it has that no text has, or the first of its words that does not fit.
use Rattle.std.specs.Prelude.{ℕ, Bool, false, ◌==◌, ◌&&◌, ◌||◌, not, nat_eq, nat_le, nat_lt, if◌then◌else◌, List, [], ◌∷◌, ◌++◌, Option, Some, None, option_map, codes, unwrap_or}
use Rattle.std.specs.List.{list_any, starts_with}
use Rattle.request_lines.specs.Requests.{misfit_of}
use Rattle.request_lines.specs.declared.misfit.Misfit.{Misfit}
use Rattle.request_lines.specs.declared.misfit.Misfit.TheVariants.{NoRequest, Missing, TooMany, NoNumber, OddDigits, NoBytes}
use Rattle.explanations.specs.Words.{shown_word}
use Rattle.explanations.specs.declared.lines.Reason.{Reason}
use Rattle.explanations.specs.declared.lines.Reason.TheVariants.{NoText, OrderMark, Tab, NoBreakSpace, Word, NoShortNumber}

-- whether no text has a byte: a control character other than tab and carriage return, or a byte that UTF-8 never has
abbrev pub is_binary : ℕ → Bool
is_binary byte = (nat_lt byte 32 && not (byte == 9) && not (byte == 13)) || byte == 127 || byte == 0xC0 || byte == 0xC1 || nat_le 0xF5 byte

-- a byte order mark and a no-break space, in UTF-8
abbrev pub order_mark : List ℕ
order_mark = 0xEF ∷ 0xBB ∷ 0xBF ∷ []

abbrev pub no_break_space : List ℕ
no_break_space = 0xC2 ∷ 0xA0 ∷ []

-- whether a no-break space is in a text
abbrev pub has_no_break_space : List ℕ → Bool
has_no_break_space [] = false
has_no_break_space (byte ∷ rest) = starts_with nat_eq (byte ∷ rest) no_break_space || has_no_break_space rest

-- each reason as a text
abbrev pub no_text : List ℕ
no_text = codes "the line is not text"

abbrev pub begins_with_mark : List ℕ
begins_with_mark = codes "the line begins with a byte order mark, EF BB BF: leave it out"

abbrev pub has_tab : List ℕ
has_tab = codes "the line has a tab: use spaces"

abbrev pub has_hard_space : List ℕ
has_hard_space = codes "the line has a no-break space, C2 A0: use spaces"

abbrev pub no_request : List ℕ
no_request = codes "there is no such request"

abbrev pub missing : List ℕ
missing = codes "a word is missing"

abbrev pub too_many : List ℕ → List ℕ
too_many word = shown_word word ++ codes " is one word too many"

abbrev pub no_number : List ℕ → List ℕ
no_number word = shown_word word ++ codes " is not a number below 2^64"

abbrev pub no_short_number : List ℕ → List ℕ
no_short_number word = shown_word word ++ codes " is not a number of 1 to 10 digits"

abbrev pub odd_digits : List ℕ → List ℕ
odd_digits word = shown_word word ++ codes " has an odd number of digits"

abbrev pub no_bytes : List ℕ → List ℕ
no_bytes word = shown_word word ++ codes " is not hexadecimal"

abbrev pub misfit_text : Misfit → List ℕ
misfit_text NoRequest = no_request
misfit_text Missing = missing
misfit_text (TooMany word) = too_many word
misfit_text (NoNumber word) = no_number word
misfit_text (OddDigits word) = odd_digits word
misfit_text (NoBytes word) = no_bytes word

abbrev pub reason_text : Reason → List ℕ
reason_text NoText = no_text
reason_text OrderMark = begins_with_mark
reason_text Tab = has_tab
reason_text NoBreakSpace = has_hard_space
reason_text (Word misfit) = misfit_text misfit
reason_text (NoShortNumber word) = no_short_number word

-- what a line has that an editor may not show, if it has such a thing
abbrev pub hidden_reason : List ℕ → Option (List ℕ)
hidden_reason line =
    if list_any is_binary line then Some no_text
    else if starts_with nat_eq line order_mark then Some begins_with_mark
    else if list_any (λ byte. byte == 9) line then Some has_tab
    else if has_no_break_space line then Some has_hard_space
    else None

-- why a line is not a request, if it is not one: what an editor may not show comes before the words
abbrev pub reason_of : List ℕ → Option (List ℕ)
reason_of line = option_map (λ misfit. unwrap_or (hidden_reason line) (misfit_text misfit)) (misfit_of line)
