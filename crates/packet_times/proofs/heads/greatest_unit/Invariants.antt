use Rattle.packet_times.specs.Heads.{IsGreatestUnit}
use Rattle.packet_times.proofs.Units.{twice}
use Rattle.packet_times.proofs.heads.greatest_unit.Given as goal

abbrev pub invariant-loop-base : goal.invariant-loop-base
invariant-loop-base l = IsGreatestUnit (twice l.bases l.base-index) l.unit
