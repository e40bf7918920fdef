use Rattle.std.proofs.Common.{◌-◌}
use Rattle.frame_header.proofs.PlaceLemmas.{ArePlaced}
use Rattle.frame_header.proofs.places.token_ranges.Given as goal

abbrev pub invariant-loop-k : goal.invariant-loop-k
invariant-loop-k l = ArePlaced l.packet l.at (l.count - 1) l.k l.start l.places.items
