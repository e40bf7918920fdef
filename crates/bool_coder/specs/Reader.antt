use Rattle.std.specs.Prelude.{ℕ, ◌+◌, ◌-◌, ◌*◌, ◌/◌, ◌%◌, ◌^◌, min, zero, suc, Bool, true, false, List, [], ◌∷◌, ◌++◌, nat_le, nat_lt, if◌then◌else◌}

-- the low `count` bits of a number, most significant first
abbrev pub bits_of : ℕ → ℕ → List ℕ
bits_of zero n = []
bits_of (suc count) n = n / 2 ^ count % 2 ∷ bits_of count n

-- the bit string of a byte list; after its end, zeros follow without end (RFC 6386, section 7)
abbrev pub bit_string : List ℕ → List ℕ
bit_string [] = []
bit_string (byte ∷ bytes) = bits_of 8 byte ++ bit_string bytes

-- the next bit of a bit string, and the bits after it
abbrev pub next_bit : List ℕ → ℕ
next_bit [] = 0
next_bit (bit ∷ rest) = bit

abbrev pub after_bit : List ℕ → List ℕ
after_bit [] = []
after_bit (bit ∷ rest) = rest

-- a reader of a partition: the bits after its window, the window's number d (`value` in RFC 6386, section 7.3) and the range
pub record Reader : Type 0 where
  pub rest : List ℕ
  pub d : ℕ
  pub range : ℕ

-- a reader at the start of a partition has its first eight bits in the window
abbrev pub text_start : List ℕ → Reader
text_start [] = record { rest = []; d = 0; range = 255 }
text_start (byte ∷ bytes) = record { rest = bit_string bytes; d = byte; range = 255 }

-- a bit string without the zeros at its end, which are read past its end as well
abbrev pub before : ℕ → List ℕ → List ℕ
before zero [] = []
before zero (bit ∷ rest) = zero ∷ bit ∷ rest
before (suc more) rest = suc more ∷ rest

unfoldable pub trimmed : List ℕ → List ℕ
trimmed [] = []
trimmed (bit ∷ rest) = before bit (trimmed rest)

-- readers that return the same bits forever are equal
abbrev pub level : Reader → Reader
level r = record r { rest = trimmed r.rest }

-- the reader at the start of a decoder
abbrev pub started : List ℕ → Reader
started bytes = level (text_start bytes)

-- one bit moves into the window; a window above the range reads the same bits forever, so it is clamped to the range
abbrev pub doubled : Reader → Reader
doubled r = record { rest = after_bit r.rest; d = min (2 * r.d + next_bit r.rest) (2 * r.range); range = 2 * r.range }

-- a range under 128 is doubled until it is not; seven times are enough
unfoldable pub renewed : ℕ → Reader → Reader
renewed zero r = r
renewed (suc more) r = if nat_lt r.range 128 then renewed more (doubled r) else r

-- the split of a range for a probability (`split` in RFC 6386, section 7.3)
abbrev pub split_of : ℕ → ℕ → ℕ
split_of prob range = 1 + (range - 1) * prob / 256

-- one bit read with a probability, and the reader after it (`read_bool` in RFC 6386, section 7.3)
unfoldable pub read : ℕ → Reader → Bool × Reader
read prob r =
    let split = split_of prob r.range in
    if nat_le split r.d
    then (true, renewed 7 (record r { d = r.d - split; range = r.range - split }))
    else (false, renewed 7 (record r { range = split }))
