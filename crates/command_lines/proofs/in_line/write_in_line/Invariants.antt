use Rattle.std.proofs.Common.{◌≡◌, ◌++◌, List, ℕ, length}
use Rattle.std.specs.Io.KnownBytes.{Appends}
use Rattle.command_lines.specs.InLine.{in_line}
use Rattle.command_lines.proofs.in_line.write_in_line.Given as goal

abbrev pub invariant-loop-left : goal.invariant-loop-left
invariant-loop-left g l = record {
  done : List ℕ;
  whole : done ++ l.left ≡ l.text;
  said : Appends (g.E.Write.contents l.fn.errors) (g.E.Write.contents l.errors) (in_line done);
}

abbrev pub decreases-loop-left : goal.decreases-loop-left
decreases-loop-left g l = length l.left
