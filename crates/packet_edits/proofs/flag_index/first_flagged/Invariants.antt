use Rattle.packet_edits.specs.FlagCounts.{flag_at}
use Rattle.packet_edits.specs.Nearest.{HoldsNowhere}
use Rattle.packet_edits.proofs.flag_index.first_flagged.Given as goal

abbrev pub invariant-loop-at : goal.invariant-loop-at
invariant-loop-at l = HoldsNowhere (flag_at l.flags) l.from l.at
