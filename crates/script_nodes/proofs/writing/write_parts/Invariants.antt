use Rattle.std.proofs.Common.{◌≡◌, List, ℕ, ◌++◌, drop}
use Rattle.std.specs.List.{flat_map}
use Rattle.std.specs.Prelude.{codes}
use Rattle.std.specs.Io.KnownBytes.{Appends}
use Rattle.script_nodes.specs.Written.{later_part}
use Rattle.script_nodes.proofs.writing.write_parts.Given as goal

abbrev pub invariant-loop-part : goal.invariant-loop-part
invariant-loop-part g l = record {
  done : List ℕ;
  whole : done ++ flat_map later_part (drop l.part-index l.parts) ≡ codes "parts" ++ flat_map later_part l.parts;
  said : Appends (g.W.Write.contents l.fn.w) (g.W.Write.contents l.w) done;
}
