-- The words of a text, and the numbers that they write.
use Rattle.std.specs.Prelude.{ℕ, drop, ◌^◌, Bool, List, [], ◌∷◌, Option, None, Some, ◌&&◌, ◌==◌, not, nat_lt, nat_le, if◌then◌else◌, filter, length}
use Rattle.std.specs.Char.{is_ascii_digit}
use Rattle.std.specs.List.{list_all, position_or_len, prefix_len, slice_split}
use Rattle.std.specs.Option.{option_map_or}
use Rattle.std.specs.Str.Parse.{digits_value}

-- the words of a text: the parts between spaces, except empty ones
abbrev pub words_of : List ℕ → List (List ℕ)
words_of text = filter (λ word. not (length word == 0)) (slice_split (λ b. b == 32) text)

-- the text from its first word, without leading spaces
abbrev pub from_word : List ℕ → List ℕ
from_word text = drop (prefix_len (λ b. b == 32) text) text

-- the text after the first word, with its spaces
abbrev pub after_word : List ℕ → List ℕ
after_word text = drop (position_or_len (λ b. b == 32) (from_word text)) (from_word text)

-- 1 to 20 decimal digits, and nothing else
abbrev pub is_numeral : List ℕ → Bool
is_numeral word = nat_lt 0 (length word) && nat_le (length word) 20 && list_all is_ascii_digit word

-- the number that a word writes: a numeral of at most 18,446,744,073,709,551,615
abbrev pub number_of : List ℕ → Option ℕ
number_of word = if is_numeral word && nat_lt (digits_value 10 word) (2 ^ 64) then Some (digits_value 10 word) else None

-- what a text continues with, from the value of its first word and the words after it; `other` if there is no such word
abbrev pub with_word : {A B : Type 0} → A → (List ℕ → Option B) → (B → List (List ℕ) → A) → List (List ℕ) → A
with_word other value_of next [] = other
with_word other value_of next (word ∷ words) = option_map_or (λ value. next value words) (value_of word) other

-- what a text is if its words end here; `other` if there are more
abbrev pub at_end : {A : Type 0} → A → A → List (List ℕ) → A
at_end other whole [] = whole
at_end other whole (word ∷ words) = other
