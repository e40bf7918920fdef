use Rattle.std.specs.Prelude.{ℕ, ◌/◌, ◌^◌, min, zero, suc, List, ◌++◌}
use Rattle.bool_coder.specs.Reader.{Reader, bits_of, bit_string, doubled}

-- the reader that a window represents: the low `left` bits of its value are the next bits of the partition, the bytes
-- follow them, and the bits above them are d, which is clamped to the range
abbrev pub reader_of : ℕ → ℕ → List ℕ → ℕ → Reader
reader_of value left bytes range = record { rest = bits_of left value ++ bit_string bytes; d = min (value / 2 ^ left) range; range = range }

-- a whole shift moves so many bits into the window
unfoldable pub doublings : ℕ → Reader → Reader
doublings zero r = r
doublings (suc count) r = doublings count (doubled r)
