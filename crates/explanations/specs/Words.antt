-- A word of a request line as a message shows it.
use Rattle.std.specs.Prelude.{ℕ, Bool, ◌&&◌, ◌==◌, ◌+◌, ◌-◌, ◌/◌, ◌%◌, nat_le, nat_lt, if◌then◌else◌, List, [], ◌∷◌, ◌++◌, length, codes}

-- a printable ASCII character other than the space
abbrev pub is_shown : ℕ → Bool
is_shown byte = nat_le 33 byte && nat_le byte 126

-- 0 to 9 and A to F
abbrev pub hex_digit : ℕ → ℕ
hex_digit n = if nat_lt n 10 then 48 + n else 55 + n

-- every other byte is shown as `\x` and its two hexadecimal digits
abbrev pub shown_byte : ℕ → List ℕ
shown_byte byte = if is_shown byte then byte ∷ [] else codes "\\x" ++ hex_digit (byte / 16) ∷ hex_digit (byte % 16) ∷ []

-- the bytes of a text that fit into this many characters, and dots if it has more; the last byte may take three characters more
abbrev pub shown_within : ℕ → List ℕ → List ℕ
shown_within room [] = []
shown_within room (byte ∷ bytes) = if room == 0 then codes "..." else shown_byte byte ++ shown_within (room - length (shown_byte byte)) bytes

-- a word: 200 characters of it are shown
abbrev pub shown_word : List ℕ → List ℕ
shown_word word = shown_within 200 word
