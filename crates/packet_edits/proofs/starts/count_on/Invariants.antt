use Rattle.std.proofs.Common.{◌≡◌, ◌≤◌}
use Rattle.packet_edits.specs.FlagCounts.{flagged_before}
use Rattle.packet_edits.proofs.starts.count_on.Given as goal

abbrev pub invariant-loop-at : goal.invariant-loop-at
invariant-loop-at l = record { counted : l.count ≡ flagged_before l.at l.flags; few : l.count ≤ l.at }
