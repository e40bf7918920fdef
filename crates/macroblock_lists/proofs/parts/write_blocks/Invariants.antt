use Rattle.std.proofs.Common.{◌≡◌, List, ℕ, ◌++◌, drop}
use Rattle.std.specs.List.{flat_map}
use Rattle.std.specs.Io.KnownBytes.{Appends}
use Rattle.macroblock_lists.specs.Parts.{bit_text}
use Rattle.macroblock_lists.specs.Coefficients.{has_coefficient}
use Rattle.macroblock_lists.proofs.parts.write_blocks.Given as goal

abbrev pub invariant-loop-block : goal.invariant-loop-block
invariant-loop-block g l = record {
  done : List ℕ;
  whole : done ++ flat_map (λ block. bit_text (has_coefficient block)) (drop l.block-index l.blocks) ≡ flat_map (λ block. bit_text (has_coefficient block)) l.blocks;
  said : Appends (g.W.Write.contents l.fn.w) (g.W.Write.contents l.w) done;
}
