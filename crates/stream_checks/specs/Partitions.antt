-- The findings in the partitions of a packet: where decoding ends in each.
use Rattle.std.specs.Prelude.{ℕ, ◌+◌, ◌==◌, nat_lt, if◌then◌else◌, List, [], ◌∷◌, ◌++◌, Option, Some, None}
use Rattle.vp8_tables.specs.declared.tables.Tables.{Tables}
use Rattle.macroblock_lists.specs.Known.{Knowledge, progress_after}
use Rattle.macroblock_lists.specs.PartitionEnds.{ends_before}
use Rattle.macroblock_lists.specs.declared.partition_ends.PartitionEnd.{PartitionEnd}
use Rattle.macroblock_lists.specs.declared.partition_ends.PartitionEnds.{PartitionEnds}
use Rattle.stream_checks.specs.declared.finding.Finding.{Finding}
use Rattle.stream_checks.specs.declared.finding.Spot.{Spot}
use Rattle.stream_checks.specs.declared.finding.Trouble.{Trouble}
use Rattle.stream_checks.specs.declared.finding.Trouble.TheVariants.{PastFirst, PastToken, UnreadFirst, UnreadToken, EmptyToken}
use Rattle.stream_checks.specs.Listed.{found, listed}

-- where decoding each packet of a stream ends in its partitions; the first has the index `place`
abbrev pub ends_from : Tables → ℕ → Knowledge → List (List ℕ) → List PartitionEnds
ends_from tables place before [] = []
ends_from tables place before (packet ∷ packets) =
    ends_before tables before packet ∷ ends_from tables (place + 1) (progress_after tables place before packet) packets

-- encoders leave bytes at the end of a partition that decoding does not need: 186 sound clips leave at most one
abbrev pub most_unread : ℕ
most_unread = 3

-- what is wrong with the end of the first partition
abbrev pub first_trouble : PartitionEnd → Option Trouble
first_trouble end =
    if nat_lt 0 end.past then Some (PastFirst end.past)
    else if nat_lt most_unread end.unread then Some (UnreadFirst end.unread end.size)
    else None

-- and with that of a token partition
abbrev pub token_trouble : ℕ → PartitionEnd → Option Trouble
token_trouble partition end =
    if nat_lt 0 end.past then Some (PastToken partition end.past)
    else if nat_lt most_unread end.unread then Some (UnreadToken partition end.unread end.size)
    else if end.size == 0 then Some (EmptyToken partition)
    else None

-- the findings in token partitions starting at this one
abbrev pub token_findings : Spot → ℕ → List PartitionEnd → List Finding
token_findings spot partition [] = []
token_findings spot partition (end ∷ rest) = listed (found spot (token_trouble partition end)) ++ token_findings spot (partition + 1) rest

-- the findings: first partition, then token partitions
abbrev pub partition_findings : Spot → PartitionEnds → List Finding
partition_findings spot ends = listed (found spot (first_trouble ends.first)) ++ token_findings spot 0 ends.tokens.items
