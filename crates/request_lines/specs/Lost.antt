-- The requests of lines for whose bytes there was no memory.
use Rattle.std.specs.Prelude.{ℕ, ◌==◌, nat_lt, ◌&&◌, not, Bool, false, List, [], ◌∷◌, length, Option, Some, None, if◌then◌else◌}
use Rattle.std.specs.Option.{option_map_or}
use Rattle.request_lines.specs.declared.lines.Line.{Line}
use Rattle.request_lines.specs.declared.lines.Line.TheVariants.{Silent, Lost}
use Rattle.request_lines.specs.declared.lost.Beginning.{Beginning}
use Rattle.text_words.specs.Words.{from_word}

-- the beginning of a text without leading spaces
abbrev pub beginning_at : List ℕ → Beginning
beginning_at [] = record { first = None; has_more = false }
beginning_at (first ∷ rest) = record { first = Some first; has_more = nat_lt 0 (length rest) }

-- the beginning of a line: its first byte that is not a space, and whether bytes follow it
abbrev pub beginning_of : List ℕ → Beginning
beginning_of line = beginning_at (from_word line)

-- whether only a carriage return follows the spaces
abbrev pub is_return : Beginning → Bool
is_return beginning = option_map_or (λ first. first == 13) beginning.first false && not beginning.has_more

-- the request of a line with this first byte
abbrev pub lost_from : Option ℕ → Line
lost_from None = Silent
lost_from (Some first) = if first == 35 then Silent else Lost

-- the request of such a line: none for an empty line and a comment, which begins with `#`
abbrev pub lost_by : List ℕ → Line
lost_by line = lost_from (beginning_of line).first
