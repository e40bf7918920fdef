use Rattle.std.proofs.Common.{◌≡◌, List, ℕ, ◌++◌, drop}
use Rattle.std.specs.List.{flat_map}
use Rattle.std.specs.Io.KnownBytes.{Appends}
use Rattle.macroblock_lists.specs.Parts.{after_comma}
use Rattle.std.specs.Fmt.{signed_decimal}
use Rattle.macroblock_lists.proofs.values.write_more_signed.Given as goal

abbrev pub invariant-loop-n : goal.invariant-loop-n
invariant-loop-n g l = record {
  done : List ℕ;
  whole : done ++ flat_map (after_comma signed_decimal) (drop l.n-index l.numbers) ≡ flat_map (after_comma signed_decimal) l.numbers;
  said : Appends (g.W.Write.contents l.fn.w) (g.W.Write.contents l.w) done;
}
