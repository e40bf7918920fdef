use Rattle.std.proofs.Common.{take}
use Rattle.serve_arguments.specs.Locations.{IsApartFrom}
use Rattle.serve_arguments.proofs.located.check_apart.Given as goal

abbrev pub invariant-loop-other : goal.invariant-loop-other
invariant-loop-other l = IsApartFrom l.written (take l.other-index l.others)
