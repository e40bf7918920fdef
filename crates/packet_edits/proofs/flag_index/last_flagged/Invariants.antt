use Rattle.std.proofs.Common.{◌≤◌}
use Rattle.packet_edits.specs.FlagCounts.{flag_at}
use Rattle.packet_edits.specs.Nearest.{HoldsNowhere}
use Rattle.packet_edits.proofs.flag_index.last_flagged.Given as goal

abbrev pub invariant-loop-at : goal.invariant-loop-at
invariant-loop-at l = record {
  low : l.from ≤ l.at;
  high : l.at ≤ l.end;
  none : HoldsNowhere (flag_at l.flags) l.at l.end;
}

abbrev pub decreases-loop-at : goal.decreases-loop-at
decreases-loop-at l = l.at
