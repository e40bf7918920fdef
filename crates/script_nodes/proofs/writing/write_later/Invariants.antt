use Rattle.std.proofs.Common.{◌≡◌, List, ℕ, ◌++◌, drop}
use Rattle.std.specs.List.{flat_map}
use Rattle.std.specs.Io.KnownBytes.{Appends}
use Rattle.script_nodes.specs.Written.{later_text}
use Rattle.script_nodes.proofs.writing.write_later.Given as goal

abbrev pub invariant-loop-node : goal.invariant-loop-node
invariant-loop-node g l = record {
  done : List ℕ;
  whole : done ++ flat_map later_text (drop l.node-index l.nodes) ≡ flat_map later_text l.nodes;
  said : Appends (g.W.Write.contents l.fn.w) (g.W.Write.contents l.w) done;
}
