use Rattle.std.proofs.Common.{◌≡◌, List, ℕ, ◌++◌, drop}
use Rattle.std.specs.List.{flat_map}
use Rattle.std.specs.Io.KnownBytes.{Appends}
use Rattle.macroblock_lists.specs.Parts.{after_comma, vector_text}
use Rattle.macroblock_lists.proofs.parts.write_more_vectors.Given as goal

abbrev pub invariant-loop-vector : goal.invariant-loop-vector
invariant-loop-vector g l = record {
  done : List ℕ;
  whole : done ++ flat_map (after_comma (vector_text l.form)) (drop l.vector-index l.vectors) ≡ flat_map (after_comma (vector_text l.form)) l.vectors;
  said : Appends (g.W.Write.contents l.fn.w) (g.W.Write.contents l.w) done;
}
