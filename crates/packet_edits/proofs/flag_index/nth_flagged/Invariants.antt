use Rattle.std.proofs.Common.{◌≡◌, drop, slice_get}
use Rattle.packet_edits.specs.FlagCounts.{indexes_from}
use Rattle.packet_edits.proofs.flag_index.nth_flagged.Given as goal

abbrev pub invariant-loop-at : goal.invariant-loop-at
invariant-loop-at l = slice_get (indexes_from l.at (drop l.at l.flags)) l.left ≡ slice_get (indexes_from l.from (drop l.from l.flags)) l.n
