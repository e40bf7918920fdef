-- A text within a line of a message.
use Rattle.std.specs.Prelude.{ℕ, suc, ◌==◌, if◌then◌else◌, List, [], ◌∷◌, map}

-- a newline is shown as `?`
abbrev pub shown_byte : ℕ → ℕ
shown_byte byte = if byte == 10 then 63 else byte

abbrev pub in_line : List ℕ → List ℕ
in_line text = map shown_byte text

-- the number of bytes before the first newline
abbrev pub line_length : List ℕ → ℕ
line_length [] = 0
line_length (byte ∷ rest) = if byte == 10 then 0 else suc (line_length rest)
