use Rattle.std.proofs.Common.{◌≢◌, All, Some, map, take}
use Rattle.serve_arguments.specs.CommandLines.{named_file}
use Rattle.serve_arguments.proofs.files.check_apart.Given as goal

abbrev pub invariant-loop-other : goal.invariant-loop-other
invariant-loop-other l = All (λ other. other.1 ≢ Some l.path) (map named_file (take l.other-index l.others))
