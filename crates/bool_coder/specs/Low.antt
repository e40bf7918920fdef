-- The number low of an encoder, as it is stored: whole bytes, followed by a tail of 8 + shifts bits
use Rattle.std.specs.Prelude.{ℕ, ◌+◌, ◌*◌, ◌^◌, ◌<◌, ◌≤◌, List, [], ◌∷◌, length}
use Rattle.bool_coder.specs.declared.encoder.Low.{Low}
use Rattle.bool_coder.specs.CodeText.{Code}

-- the number that bytes represent, most significant first
abbrev pub number_of : List ℕ → ℕ
number_of [] = 0
number_of (byte ∷ bytes) = byte * 2 ^ (8 * length bytes) + number_of bytes

abbrev pub value_of : Low → ℕ
value_of low = number_of low.bytes.items * 2 ^ (8 + low.shifts) + low.tail

-- how often it was doubled: it has eight bits, and one more for each doubling
abbrev pub doublings_of : Low → ℕ
doublings_of low = 8 * length low.bytes.items + low.shifts

-- the tail has no bit above its own, and no whole byte besides its first eight bits
abbrev pub HasTail : Low → Type 0
HasTail low = (low.shifts ≤ 7) × (low.tail < 2 ^ (8 + low.shifts))

-- the code of an encoder with this low
abbrev pub code_of : Low → ℕ → Code
code_of low range = record { low = value_of low; range = range; shifts = doublings_of low }

-- the end of the range stays inside the text, so no carry leaves its front
abbrev pub StaysInside : Code → Type 0
StaysInside c = c.low + c.range ≤ 255 * 2 ^ c.shifts
