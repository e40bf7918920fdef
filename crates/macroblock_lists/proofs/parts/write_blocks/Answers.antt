use Rattle.std.proofs.Common.{◌≡◌, ◌+◌, arith, List, ℕ, ◌∷◌, ◌++◌, drop, get_or}
use Rattle.std.proofs.KnownBytes.{Appends-trans}
use Rattle.std.proofs.lemmas.List.{drop_more}
use Rattle.macroblock_lists.proofs.Loops.{written_next}
use Rattle.macroblock_lists.specs.Parts.{bit_text}
use Rattle.std.proofs.Common.{ℤ, []}
use Rattle.macroblock_lists.specs.Coefficients.{has_coefficient}
use Rattle.macroblock_lists.proofs.parts.write_blocks.Goals as goal

pub loop-block-preserved : goal.loop-block-preserved
loop-block-preserved g c =
    let done = c.loop-block.invariant.done in
    let x : List ℤ = get_or c.args.blocks.now c.loop-block.block-index [] in
    let text : List ℤ → List ℕ = λ block. bit_text (has_coefficient block) in
    let at : drop c.loop-block.block-index c.args.blocks.now ≡ x ∷ drop (c.loop-block.block-index + 1) c.args.blocks.now = drop_more c.args.blocks.now c.loop-block.block-index [] (omega arith) in
    record {
      done = done ++ text x;
      whole = written_next text done c.args.blocks.now c.loop-block.block-index x _ at c.loop-block.invariant.whole;
      said = Appends-trans _ _ _ _ _ c.loop-block.invariant.said (rw (c.bit_text.ensures, c.has_coefficient.ensures) at c.in_ok-write_text.ensures);
    }
