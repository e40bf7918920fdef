-- The breaks of a stream, by what is known after each packet.
use Rattle.std.specs.Prelude.{ℕ, ◌+◌, ◌==◌, if◌then◌else◌, List, [], ◌∷◌, Option, Some, None, Ok, Err}
use Rattle.vp8_tables.specs.declared.tables.Tables.{Tables}
use Rattle.frame_header.specs.declared.cause.Cause.{Cause}
use Rattle.macroblock_lists.specs.Known.{Knowledge, progress_after}

-- the cause, if the break is at this index
abbrev pub break_in : ℕ → Knowledge → Option Cause
break_in place (Ok known) = None
break_in place (Err broken) = if broken.place == place then Some broken.cause else None

-- the progress after each of these packets; the first has the index `place`
abbrev pub progresses_from : Tables → ℕ → Knowledge → List (List ℕ) → List Knowledge
progresses_from tables place before [] = []
progresses_from tables place before (packet ∷ packets) =
    progress_after tables place before packet ∷ progresses_from tables (place + 1) (progress_after tables place before packet) packets
