-- The packets that a text asks for: `12`, `12-15` or `all`.
use Rattle.std.specs.Prelude.{ℕ, ◌+◌, ◌==◌, not, nat_le, if◌then◌else◌, List, codes, drop, length, take, Option, Some, None}
use Rattle.std.specs.List.{prefix_len}
use Rattle.std.specs.Str.{bytes_eq}
use Rattle.text_words.specs.Words.{number_of}
use Rattle.list_program.specs.declared.ranges.Range.{Range}

-- one packet
abbrev pub one_of : Option ℕ → Option Range
one_of None = None
one_of (Some packet) = Some (record { first = packet; last = Some packet })

-- the packets from one to another that is not before it
abbrev pub ordered : ℕ → ℕ → Option Range
ordered first last = if nat_le first last then Some (record { first = first; last = Some last }) else None

abbrev pub last_of : ℕ → Option ℕ → Option Range
last_of first None = None
last_of first (Some last) = ordered first last

abbrev pub more_of : Option ℕ → Option ℕ → Option Range
more_of None last = None
more_of (Some first) last = last_of first last

-- the index of the first `-`
abbrev pub dash_at : List ℕ → ℕ
dash_at text = prefix_len (λ byte. not (byte == 45)) text

abbrev pub numbers_of : List ℕ → Option Range
numbers_of text =
    if dash_at text == length text then one_of (number_of text)
    else more_of (number_of (take (dash_at text) text)) (number_of (drop (dash_at text + 1) text))

abbrev pub range_of : List ℕ → Option Range
range_of text = if bytes_eq text (codes "all") then Some (record { first = 0; last = None }) else numbers_of text
