-- The bytes that the words of a request write.
use Rattle.std.specs.Prelude.{◌≡◌, ℕ, List, [], ◌∷◌, Option, Some, if◌then◌else◌, codes}
use Rattle.std.specs.Result.{result_ok, result_unwrap_or}
use Rattle.std.specs.Str.{bytes_eq}
use Rattle.hex.specs.Hex.{IsBytes, decode_of, encode_lower}

-- the bytes that hexadecimal digits of either case write, two digits for each byte
abbrev pub digits_bytes : List ℕ → List ℕ
digits_bytes digits = result_unwrap_or (decode_of digits) []

-- the bytes that a word writes: none for `-`, otherwise an even number of hexadecimal digits
abbrev pub bytes_of : List ℕ → Option (List ℕ)
bytes_of word = if bytes_eq word (codes "-") then Some [] else result_ok (decode_of word)

-- bytes as a word: `-` for none, otherwise two hexadecimal digits for each
abbrev pub hex_word : List ℕ → List ℕ
hex_word [] = codes "-"
hex_word (byte ∷ bytes) = encode_lower (byte ∷ bytes)

-- the word of bytes writes these bytes
abbrev pub WordsAreReadBack : Type 0
WordsAreReadBack = (bytes : List ℕ) → IsBytes bytes → bytes_of (hex_word bytes) ≡ Some bytes
