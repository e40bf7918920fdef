use Rattle.std.proofs.Common.{◌≡◌, ◌+◌, List, ℕ, ◌∷◌, ◌++◌, drop, ap, sym, ◌∙◌}
use Rattle.std.proofs.KnownBytes.{Appends-trans}
use Rattle.std.proofs.lemmas.List.{drop_more}
use Rattle.macroblock_lists.proofs.Loops.{written_next}
use Rattle.macroblock_lists.specs.Parts.{after_comma, vector_text}
use Rattle.mode_parser.specs.Vectors.{MotionVector}
use Rattle.macroblock_lists.proofs.parts.write_more_vectors.Goals as goal

pub loop-vector-preserved : goal.loop-vector-preserved
loop-vector-preserved g c =
    let done = c.loop-vector.invariant.done in
    let x : MotionVector = c.vector-item.result in
    let text : MotionVector → List ℕ = after_comma (vector_text c.args.form) in
    let at : drop c.loop-vector.vector-index c.args.vectors.now ≡ x ∷ drop (c.loop-vector.vector-index + 1) c.args.vectors.now = drop_more c.args.vectors.now c.loop-vector.vector-index c.vector-item.result c.loop-vector-test.true ∙ ap (λ (y : MotionVector). y ∷ drop (c.loop-vector.vector-index + 1) c.args.vectors.now) (sym c.vector-item.is) in
    record {
      done = done ++ text x;
      whole = written_next text done c.args.vectors.now c.loop-vector.vector-index x _ at c.loop-vector.invariant.whole;
      said = Appends-trans _ _ _ _ _ c.loop-vector.invariant.said (Appends-trans _ _ _ _ _ c.in_ok-write_text.ensures c.in_ok-write_vector.ensures);
    }
