use Rattle.std.proofs.Common.{◌≡◌, take, false}
use Rattle.std.specs.List.{list_any}
use Rattle.packet_times.specs.Sums.{is_base}
use Rattle.packet_times.proofs.heads.is_among.Given as goal

abbrev pub invariant-loop-other : goal.invariant-loop-other
invariant-loop-other l = list_any (is_base l.base) (take l.other-index l.bases) ≡ false
