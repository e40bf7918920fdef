use Rattle.std.proofs.Common.{◌∷◌, map, take}
use Rattle.stream_files.specs.declared.ivf.TheConstants.{EMPTY}
use Rattle.serve_arguments.specs.CommandLines.{names_of}
use Rattle.serve_arguments.specs.Readings.{AreNamed, contents_of}
use Rattle.serve_arguments.proofs.inputs.read_sources.Given as goal

abbrev pub invariant-loop-path : goal.invariant-loop-path
invariant-loop-path g l = AreNamed (contents_of (g.R.NamedFiles.bytes_at l.rt) EMPTY) (l.fn.first ∷ names_of (take l.path-index l.more)) (map (λ bytes. bytes.items) l.all.items)
