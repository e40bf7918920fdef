use Rattle.std.proofs.Common.{◌≡◌, ◌+◌, List, ℕ, ◌∷◌, ◌++◌, drop, get_or}
use Rattle.std.proofs.KnownBytes.{Appends-trans}
use Rattle.std.proofs.lemmas.List.{drop_more}
use Rattle.macroblock_lists.proofs.Loops.{written_next}
use Rattle.macroblock_lists.specs.Parts.{after_comma, mode_text}
use Rattle.intra_predict.specs.declared.modes.SubMode.{SubMode}
use Rattle.intra_predict.specs.declared.modes.SubMode.TheVariants.{Dc}
use Rattle.macroblock_lists.proofs.parts.write_more_modes.Goals as goal

pub loop-mode-preserved : goal.loop-mode-preserved
loop-mode-preserved g c =
    let done = c.loop-mode.invariant.done in
    let x : SubMode = get_or c.args.modes.now c.loop-mode.mode-index Dc in
    let text : SubMode → List ℕ = after_comma (mode_text c.args.form) in
    let at : drop c.loop-mode.mode-index c.args.modes.now ≡ x ∷ drop (c.loop-mode.mode-index + 1) c.args.modes.now = drop_more c.args.modes.now c.loop-mode.mode-index Dc c.loop-mode-test.true in
    record {
      done = done ++ text x;
      whole = written_next text done c.args.modes.now c.loop-mode.mode-index x _ at c.loop-mode.invariant.whole;
      said = Appends-trans _ _ _ _ _ c.loop-mode.invariant.said (Appends-trans _ _ _ _ _ c.in_ok-write_text.ensures c.in_ok-write_mode.ensures);
    }
