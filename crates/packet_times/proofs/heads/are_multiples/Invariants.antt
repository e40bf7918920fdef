use Rattle.std.proofs.Common.{◌≡◌, take, true}
use Rattle.packet_times.specs.Heads.{are_multiples}
use Rattle.packet_times.proofs.heads.are_multiples.Given as goal

abbrev pub invariant-loop-base : goal.invariant-loop-base
invariant-loop-base l = are_multiples l.unit (take l.base-index l.bases) ≡ true
