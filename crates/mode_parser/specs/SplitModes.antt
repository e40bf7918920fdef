-- Split macroblocks (RFC 6386, section 16.3).
use Rattle.std.specs.Prelude.{Bool, true, false}
use Rattle.mode_parser.specs.declared.records.VectorMode.{VectorMode}
use Rattle.mode_parser.specs.declared.records.VectorMode.TheVariants.{Zero, Nearest, Near, New, Split}

-- whether each luma block of a macroblock has a vector of its own: `mv_split`
abbrev pub is_split : VectorMode → Bool
is_split Split = true
is_split Zero = false
is_split Nearest = false
is_split Near = false
is_split New = false
