use Rattle.std.proofs.Common.{◌≡◌, List, ℕ, ◌++◌, drop}
use Rattle.std.specs.List.{flat_map}
use Rattle.std.specs.Io.KnownBytes.{Appends}
use Rattle.script_nodes.specs.OriginTexts.{later_number}
use Rattle.script_nodes.proofs.origins.write_later_numbers.Given as goal

abbrev pub invariant-loop-number : goal.invariant-loop-number
invariant-loop-number g l = record {
  done : List ℕ;
  whole : done ++ flat_map later_number (drop l.number-index l.numbers) ≡ flat_map later_number l.numbers;
  said : Appends (g.W.Write.contents l.fn.w) (g.W.Write.contents l.w) done;
}
