-- Control characters, which a terminal acts on.
use Rattle.std.specs.Prelude.{ℕ, Bool, ◌+◌, ◌==◌, ◌&&◌, ◌||◌, not, nat_lt, nat_le, if◌then◌else◌, List, [], ◌∷◌}

-- a control character of one byte; a newline ends a message
abbrev pub is_control : ℕ → Bool
is_control byte = (nat_lt byte 32 && not (byte == 10)) || byte == 127

-- the second byte of a control character of two: UTF-8 writes U+0080 to U+009F as C2 and this byte
abbrev pub is_control_end : ℕ → Bool
is_control_end byte = nat_le 0x80 byte && nat_le byte 0x9F

-- the number of bytes of the control character at the front of a text, and 0 if another character is there
abbrev pub control_length : List ℕ → ℕ
control_length [] = 0
control_length (byte ∷ []) = if is_control byte then 1 else 0
control_length (byte ∷ next ∷ rest) = if is_control byte then 1 else if byte == 0xC2 && is_control_end next then 2 else 0

-- the number of bytes before the first control character
abbrev pub plain_length : List ℕ → ℕ
plain_length [] = 0
plain_length (byte ∷ rest) = if control_length (byte ∷ rest) == 0 then 1 + plain_length rest else 0
