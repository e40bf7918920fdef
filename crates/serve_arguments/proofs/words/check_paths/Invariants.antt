use Rattle.std.proofs.Common.{◌≢◌, All, [], take}
use Rattle.serve_arguments.specs.CommandLines.{names_of}
use Rattle.serve_arguments.proofs.words.check_paths.Given as goal

abbrev pub invariant-loop-path : goal.invariant-loop-path
invariant-loop-path l = All (λ path. path ≢ []) (names_of (take l.path-index l.paths))
