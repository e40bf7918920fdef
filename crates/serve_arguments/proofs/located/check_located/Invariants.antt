use Rattle.std.proofs.Common.{All, take}
use Rattle.serve_arguments.specs.Locations.{IsApartFrom}
use Rattle.serve_arguments.proofs.located.check_located.Given as goal

abbrev pub invariant-loop-written : goal.invariant-loop-written
invariant-loop-written l = All (λ written. IsApartFrom written l.files) (take l.written-index l.files)
