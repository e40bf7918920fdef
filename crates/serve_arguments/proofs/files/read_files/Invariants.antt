use Rattle.std.proofs.Common.{◌≡◌, map, take}
use Rattle.serve_arguments.specs.CommandLines.{named_file, names_of, read_files}
use Rattle.serve_arguments.proofs.files.read_files.Given as goal

abbrev pub invariant-loop-path : goal.invariant-loop-path
invariant-loop-path l = map named_file l.files.items ≡ read_files l.fn.words (names_of (take l.path-index l.more))
