use Rattle.std.proofs.Common.{◌≡◌, ◌+◌, List, ℕ, ◌∷◌, ◌++◌, drop, get_or, pos}
use Rattle.std.proofs.KnownBytes.{Appends-trans}
use Rattle.std.proofs.lemmas.List.{drop_more}
use Rattle.macroblock_lists.proofs.Loops.{written_next}
use Rattle.macroblock_lists.specs.Parts.{after_comma}
use Rattle.std.proofs.Common.{ℤ}
use Rattle.std.specs.Fmt.{signed_decimal}
use Rattle.macroblock_lists.proofs.values.write_more_signed.Goals as goal

pub loop-n-preserved : goal.loop-n-preserved
loop-n-preserved g c =
    let done = c.loop-n.invariant.done in
    let x : ℤ = get_or c.args.numbers.now c.loop-n.n-index (pos 0) in
    let text : ℤ → List ℕ = after_comma signed_decimal in
    let at : drop c.loop-n.n-index c.args.numbers.now ≡ x ∷ drop (c.loop-n.n-index + 1) c.args.numbers.now = drop_more c.args.numbers.now c.loop-n.n-index (pos 0) c.loop-n-test.true in
    record {
      done = done ++ text x;
      whole = written_next text done c.args.numbers.now c.loop-n.n-index x _ at c.loop-n.invariant.whole;
      said = Appends-trans _ _ _ _ _ c.loop-n.invariant.said (Appends-trans _ _ _ _ _ c.in_ok-write_text.ensures c.in_ok-write_signed_number.ensures);
    }
