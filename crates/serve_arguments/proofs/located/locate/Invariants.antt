use Rattle.std.proofs.Common.{◌≡◌, filter, map, take}
use Rattle.serve_arguments.specs.CommandLines.{named_file}
use Rattle.serve_arguments.specs.Locations.{AreSaid, has_path, located_file}
use Rattle.serve_arguments.proofs.located.locate.Given as goal

abbrev pub invariant-loop-file : goal.invariant-loop-file
invariant-loop-file g l = record {
  asked : map located_file l.located.items ≡ filter has_path (map named_file (take l.file-index l.files));
  said : AreSaid (g.R.PlacedFiles.place_at l.rt) l.located.items;
}
