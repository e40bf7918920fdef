-- The code that an encoder writes, as plain numbers, and its text
use Rattle.std.specs.Prelude.{ℕ, ◌+◌, ◌-◌, ◌*◌, ◌/◌, ◌%◌, ◌^◌, zero, suc, Bool, true, false, List, [], ◌∷◌, nat_lt, if◌then◌else◌}
use Rattle.bool_coder.specs.Reader.{split_of}

-- the state after the bits written so far: the number low (`bottom`), the range above it, and how often both were doubled
-- (RFC 6386, section 7.3)
pub record Code : Type 0 where
  pub low : ℕ
  pub range : ℕ
  pub shifts : ℕ

-- nothing is written
abbrev pub no_code : Code
no_code = record { low = 0; range = 255; shifts = 0 }

abbrev pub code_doubled : Code → Code
code_doubled c = record { low = 2 * c.low; range = 2 * c.range; shifts = c.shifts + 1 }

-- a range under 128 is doubled until it is not; seven times are enough
unfoldable pub code_renewed : ℕ → Code → Code
code_renewed zero c = c
code_renewed (suc more) c = if nat_lt c.range 128 then code_renewed more (code_doubled c) else c

-- the part of the range that represents a bit: 0 is the part below the split, 1 the part above it
abbrev pub narrowed : Bool → ℕ → Code → Code
narrowed false prob c = record c { range = split_of prob c.range }
narrowed true prob c = record c { low = c.low + split_of prob c.range; range = c.range - split_of prob c.range }

-- one bit written with a probability (`write_bool` in RFC 6386, section 7.3)
unfoldable pub written : Bool → ℕ → Code → Code
written bit prob c = code_renewed 7 (narrowed bit prob c)

-- pairs of a bit and its probability, written after a code
abbrev pub all_written : List (Bool × ℕ) → Code → Code
all_written [] c = c
all_written (pair ∷ pairs) c = all_written pairs (written pair.0 pair.1 c)

-- the low `count` bytes of a number, most significant first
abbrev pub bytes_of : ℕ → ℕ → List ℕ
bytes_of zero n = []
bytes_of (suc count) n = n / 2 ^ (8 * count) % 256 ∷ bytes_of count n

-- the number of zero bits that fill the last byte after so many bits
abbrev pub padding : ℕ → ℕ
padding bits = (8 - bits % 8) % 8

-- a code's text is low in shifts + 8 bits, most significant first, and zero bits up to a whole byte; a reader that
-- continues past its end reads zeros (RFC 6386, section 7.3)
abbrev pub text_of : Code → List ℕ
text_of c = bytes_of ((c.shifts + 8 + padding c.shifts) / 8) (c.low * 2 ^ padding c.shifts)

-- the text of a list of pairs, the first of them written first
abbrev pub code_text : List (Bool × ℕ) → List ℕ
code_text pairs = text_of (all_written pairs no_code)
