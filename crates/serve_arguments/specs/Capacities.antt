-- The most cached states of a session: their number, or the bytes that their pictures may take.
use Rattle.std.specs.Prelude.{ℕ, ◌*◌, ◌^◌, ◌≤◌, ◌<◌, ◌&&◌, ◌==◌, nat_le, nat_lt, List, [], ◌∷◌, take, drop, Option, Some, None, if◌then◌else◌}
use Rattle.std.specs.Char.{is_ascii_digit}
use Rattle.std.specs.List.{prefix_len}
use Rattle.text_words.specs.Words.{number_of}
use Rattle.serve_arguments.specs.declared.capacities.Capacity.{Capacity}
use Rattle.serve_arguments.specs.declared.capacities.Capacity.TheVariants.{States, Bytes}

-- the number of bytes that a letter stands for: a KiB, a MiB or a GiB
abbrev pub letter_unit : ℕ → Option ℕ
letter_unit letter =
    if letter == 75 then Some (2 ^ 10)
    else if letter == 77 then Some (2 ^ 20)
    else if letter == 71 then Some (2 ^ 30)
    else None

-- the unit of a number with these bytes after it: bytes without a letter
abbrev pub unit_of : List ℕ → Option ℕ
unit_of [] = Some 1
unit_of (letter ∷ []) = letter_unit letter
unit_of (letter ∷ other ∷ more) = None

-- so many units in bytes: 1 or more, and fewer than 2^64
abbrev pub bytes_in : Option ℕ → Option ℕ → Option ℕ
bytes_in None unit = None
bytes_in (Some count) None = None
bytes_in (Some count) (Some unit) = if nat_lt 0 (count * unit) && nat_lt (count * unit) (2 ^ 64) then Some (count * unit) else None

-- the number of digits that a text begins with
abbrev pub digits_in : List ℕ → ℕ
digits_in text = prefix_len is_ascii_digit text

-- the number of bytes of a SIZE: decimal digits, and then K, M, G or nothing
abbrev pub size_of : List ℕ → Option ℕ
size_of text = bytes_in (number_of (take (digits_in text) text)) (unit_of (drop (digits_in text) text))

-- a number of states that a session can cache
abbrev pub states_given : ℕ → Option Capacity
states_given count = if nat_le 1 count && nat_le count 4096 then Some (States count) else None

abbrev pub bytes_given : Option ℕ → Option Capacity
bytes_given None = None
bytes_given (Some bytes) = Some (Bytes bytes)

-- what the command line gives by `--cache` or by `--cache-bytes`, not by both; 32 states by neither
abbrev pub capacity_given : (count : Option ℕ) → (size : Option (List ℕ)) → Option Capacity
capacity_given None None = Some (States 32)
capacity_given (Some count) None = states_given count
capacity_given None (Some size) = bytes_given (size_of size)
capacity_given (Some count) (Some size) = None

-- the capacities of accepted command lines
abbrev pub IsGiven : Capacity → Type 0
IsGiven (States count) = (1 ≤ count) × (count ≤ 4096)
IsGiven (Bytes bytes) = (1 ≤ bytes) × (bytes < 2 ^ 64)
