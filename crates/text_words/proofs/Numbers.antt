-- The number that a word writes.
use Rattle.std.proofs.Common.{rules, ◌≡◌, ℕ, ◌<◌, ◌≤◌, ◌^◌, true, Result, Ok, Err, List, length, arith, inl, inr}
use Rattle.std.proofs.lemmas.Bool.{cases_lt}
use Rattle.std.proofs.lemmas.Bool.Decides.{nat_tests}
use Rattle.std.proofs.lemmas.List.{get_or_past}
use Rattle.std.proofs.lemmas.Str.{IsUtf8-from_ascii}
use Rattle.std.proofs.lemmas.Str.Parse.{IsNumeralModel, numerals_by_value, parse_digits, digit_at}
use Rattle.std.specs.Char.{is_ascii_digit}
use Rattle.std.specs.List.{list_all}
use Rattle.std.specs.Str.{IsUtf8}
use Rattle.std.specs.Result.{OkIff, result_ok}
use Rattle.std.specs.Str.Parse.{AllDigits, ParsesUnsigned, digits_value}
use Rattle.text_words.specs.Words.{number_of}

digits : IsNumeralModel (λ word. list_all is_ascii_digit word ≡ true) (digits_value 10)
digits = numerals_by_value _ (search rules)

-- digits are text
pub digits_utf8 : (word : List ℕ) → list_all is_ascii_digit word ≡ true → IsUtf8 word
digits_utf8 word h =
    let all : AllDigits 10 word = digits.to word h in
    IsUtf8-from_ascii word (λ i. elim (cases_lt i (length word)) [ inl lt ↦ omega (arith, digit_at word i all lt) | inr ge ↦ omega (arith, get_or_past word i 0 ge) ])

number_from : {E : Type 0} (word : List ℕ) (r : Result ℕ E) → length word ≤ 20 → list_all is_ascii_digit word ≡ true → OkIff r ((0 < length word) × (digits_value 10 word < 2 ^ 64)) (digits_value 10 word) → result_ok r ≡ number_of word
number_from word (Ok n) short h is = grind (arith, nat_tests)
number_from word (Err e) short h is = grind (arith, nat_tests)

-- `parse` reads digits as the number
pub number_parsed : {E : Type 0} (word : List ℕ) (r : Result ℕ E) → length word ≤ 20 → list_all is_ascii_digit word ≡ true → ParsesUnsigned 64 10 word r → result_ok r ≡ number_of word
number_parsed word r short h is = number_from word r short h (parse_digits digits 64 word r is h)
