-- The bytes of words of hexadecimal digits.
use Rattle.std.proofs.Common.{◌≡◌, ℕ, ◌/◌, ◌%◌, ◌==◌, ◌&&◌, Bool, true, false, List, [], ◌∷◌, ◌++◌, length, Some, None, Result, Ok, Err, refl, ap, ◌∙◌}
use Rattle.std.specs.Prelude.{codes, slice_index}
use Rattle.std.specs.List.{AllPass}
use Rattle.std.specs.Result.{result_ok}
use Rattle.std.specs.Str.{bytes_eq}
use Rattle.hex.specs.Hex.{decode_of, decode_pairs, encode_lower, encode_with, is_hex_digit, lower_digits}
use Rattle.hex.specs.declared.error.FromHexError.{FromHexError}
use Rattle.hex.proofs.HexLemmas.{decode_of-encode_lower, decode_of-even, decode_of-odd, decode_of-ok, decode_pairs-digits}
use Rattle.request_lines.specs.HexWords.{WordsAreReadBack, bytes_of, digits_bytes, hex_word}

-- no digits write no bytes
pub nothing_decoded : decode_of [] ≡ Ok []
unfolding decode_pairs
nothing_decoded = refl

pub nothing_written : digits_bytes [] ≡ []
unfolding decode_pairs
nothing_written = refl

-- an even number of digits writes bytes
pub digits_decoded : (word : List ℕ) → length word % 2 ≡ 0 → AllPass is_hex_digit word → decode_of word ≡ Ok (digits_bytes word)
digits_decoded word even digits =
    let some = decode_pairs-digits 0 word even digits in
    let whole : decode_of word ≡ Ok some.0 = decode_of-even word even ∙ some.1 in
    rw whole refl

-- a dash writes none
pub dash_bytes : (word : List ℕ) → bytes_eq word (codes "-") ≡ true → bytes_of word ≡ Some (digits_bytes [])
dash_bytes word dash = rw (dash, nothing_written) refl

pub digits_bytes_of : (word : List ℕ) → bytes_eq word (codes "-") ≡ false → length word % 2 ≡ 0 → AllPass is_hex_digit word → bytes_of word ≡ Some (digits_bytes word)
digits_bytes_of word no_dash even digits =
    let whole : decode_of word ≡ Ok (digits_bytes word) = digits_decoded word even digits in
    rw no_dash (ap result_ok whole)

-- another word writes no bytes
pub odd_none : (word : List ℕ) → bytes_eq word (codes "-") ≡ false → length word % 2 ≡ 1 → bytes_of word ≡ None
odd_none word no_dash odd = rw no_dash (ap result_ok (decode_of-odd word odd))

fails : (word : List ℕ) (r : Result (List ℕ) FromHexError) → decode_of word ≡ r → (AllPass is_hex_digit word → ⊥) → result_ok r ≡ None
fails word (Ok bytes) is other = absurd (other (decode_of-ok word bytes is).1)
fails word (Err e) is other = refl

pub other_none : (word : List ℕ) → bytes_eq word (codes "-") ≡ false → (AllPass is_hex_digit word → ⊥) → bytes_of word ≡ None
other_none word no_dash other = rw no_dash (fails word (decode_of word) refl other)

-- the digits of one byte more
pub digits_more : (byte : ℕ) (bytes : List ℕ) → encode_lower (byte ∷ bytes) ≡ encode_lower (byte ∷ []) ++ encode_lower bytes
unfolding encode_with
digits_more byte bytes = refl

-- two digits are no dash
no_dash : (x y : ℕ) (rest : List ℕ) → bytes_eq (x ∷ y ∷ rest) (codes "-") ≡ false
no_dash x y rest = by_first (x == 45)
  where
    by_first : (b : Bool) → (b && false) ≡ false
    by_first true = refl
    by_first false = refl

digits_no_dash : (byte : ℕ) (bytes : List ℕ) → bytes_eq (encode_lower (byte ∷ bytes)) (codes "-") ≡ false
unfolding encode_with
digits_no_dash byte bytes = no_dash (slice_index lower_digits (byte / 16)) (slice_index lower_digits (byte % 16)) (encode_lower bytes)

pub read_back : WordsAreReadBack
read_back [] are = refl
read_back (byte ∷ bytes) are = rw (digits_no_dash byte bytes) (ap result_ok (decode_of-encode_lower (byte ∷ bytes) are))
