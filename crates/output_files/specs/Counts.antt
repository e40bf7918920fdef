-- How many bytes a writer took, and how many whole pieces they are.
use Rattle.std.specs.Prelude.{ℕ, ◌+◌, ◌-◌, ◌/◌, ◌^◌, ◌==◌, ◌≡◌, List, length, min, Option, Some, None, option_map, if◌then◌else◌}
use Rattle.memchr.specs.Find.{IsFirstByte, is_byte}
use Rattle.output_files.specs.declared.counted.Taken.{Taken}

-- a count stops at the greatest number
abbrev pub counted : ℕ → ℕ
counted n = min n (2 ^ 64 - 1)

-- the number of bytes up to the first newline, with it, after some more bytes: the one that is known, or that of their first newline
abbrev pub IsLineAfter : (bytes : ℕ) → Option ℕ → (more : List ℕ) → Option ℕ → Type 0
IsLineAfter bytes (Some line) more line' = line' ≡ Some line
IsLineAfter bytes None more line' =
    (first : Option ℕ) × IsFirstByte (is_byte 10) more first × (line' ≡ option_map (λ at. counted (counted (bytes + at) + 1)) first)

-- how many bytes a writer took after some more
pub record IsTakenAfter (taken : Taken) (more : List ℕ) (taken' : Taken) : Type 0 where
  pub all : taken'.bytes ≡ counted (taken.bytes + length more)
  pub line : IsLineAfter taken.bytes taken.first_line more taken'.first_line

-- the whole pieces of one length after the first line
abbrev pub pieces_of : (bytes : ℕ) → Option ℕ → ℕ → ℕ
pieces_of bytes None length = 0
pieces_of bytes (Some line) length = if length == 0 then 0 else (bytes - line) / length

abbrev pub whole_pieces : Taken → ℕ → ℕ
whole_pieces taken length = pieces_of taken.bytes taken.first_line length
