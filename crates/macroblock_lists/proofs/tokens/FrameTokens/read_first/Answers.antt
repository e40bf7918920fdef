use Rattle.std.proofs.Common.{◌≡◌, length, slice_get, Some, ap, sym, ◌∙◌, refl, arith}
use Rattle.std.proofs.lemmas.List.{length-set}
use Rattle.mode_parser.specs.declared.records.MbMode.{MbMode}
use Rattle.reference_frames.specs.FrameTokens.{TokenState, token_state}
use Rattle.macroblock_lists.proofs.Walks.{state-next}
use Rattle.macroblock_lists.proofs.tokens.FrameTokens.read_first.Goals as goal

pub loop-n-init : goal.loop-n-init
unfolding token_state
loop-n-init c = record {
  state = refl;
  each = refl;
  readers = c.requires.some;
  above = c.requires.above;
}

pub loop-n-preserved : goal.loop-n-preserved
loop-n-preserved c =
    let mode : MbMode = c.mode-mode.result in
    let found : slice_get c.args.records.now c.loop-n.n ≡ Some mode = c.at.ensures ∙ ap Some (sym c.mode-mode.ensures) in
    let state = rw c.of-odds.ensures at c.read.ensures.state in
    let same = ap (λ (t : TokenState). length t.readers) state ∙ length-set _ _ _ in
    record {
      state = state-next c.args.header.now c.args.columns c.args.self.now c.loop-n.self c.read.new.self c.args.records.now c.loop-n.n mode found c.loop-n.invariant.state state;
      each = same ∙ c.loop-n.invariant.each;
      readers = omega (arith, same, c.loop-n.invariant.readers);
      above = ap (λ (t : TokenState). length t.above) state ∙ length-set _ _ _ ∙ c.loop-n.invariant.above;
    }
