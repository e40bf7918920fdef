use Rattle.std.proofs.Common.{◌≡◌, ◌+◌, ◌++◌, ℕ, List, slice_get, Some, ap, sym, subst, ◌∙◌, refl, arith}
use Rattle.std.proofs.KnownBytes.{Appends-nil, Appends-trans}
use Rattle.std.specs.List.{flat_map, range_with_len}
use Rattle.std.specs.Io.KnownBytes.{Appends}
use Rattle.mode_parser.specs.declared.records.MbMode.{MbMode}
use Rattle.reference_frames.specs.FrameTokens.{TokenState, token_state}
use Rattle.macroblock_lists.specs.Frames.{macroblock_text, text_at}
use Rattle.macroblock_lists.specs.declared.macroblocks.Macroblock.{Macroblock}
use Rattle.macroblock_lists.specs.ProofsOnly.{own_after}
use Rattle.macroblock_lists.proofs.FrameLemmas.{text_here}
use Rattle.macroblock_lists.proofs.Loops.{texts_more}
use Rattle.macroblock_lists.proofs.Walks.{state-next}
use Rattle.macroblock_lists.proofs.frames.write_macroblocks.Goals as goal

pub loop-n-init : goal.loop-n-init
unfolding token_state
loop-n-init g c = record {
  said = Appends-nil _;
  own = rw c.requires.own (refl {a = c.args.walk.now.own});
  marked = refl {a = c.args.walk.now.marked};
  after = c.requires.start;
}

pub loop-n-preserved : goal.loop-n-preserved
loop-n-preserved g c =
    let met = c.loop-n.invariant in
    let n = c.loop-n.n in
    let columns = c.args.frame.now.columns in
    let mode : MbMode = c.mode-mode.result in
    let records : List MbMode = c.args.frame.now.records.now.modes.records in
    let found : slice_get records n ≡ Some mode = ap (λ (rs : List MbMode). slice_get rs n) (sym c.records-records.ensures) ∙ c.at.ensures ∙ ap Some (sym c.mode-mode.ensures) in
    let marked = c.next-macroblock.ensures.marked in
    let own_before : TokenState = own_after c.args.frame.now.header.now columns records n c.loop-n.walk in
    let text : ℕ → List ℕ = text_at c.args.target.form c.args.target.place c.args.frame.now.header.now columns c.args.walk.now.own c.args.walk.now.marked records c.args.frame.now.records.now.facts.items in
    let here : macroblock_text c.args.target.form c.args.target.place c.next-macroblock.result ≡ text n =
    ap (λ (m : Macroblock). macroblock_text c.args.target.form c.args.target.place m) c.next-macroblock.ensures.value
    ∙ text_here c.args.target.form c.args.target.place c.args.frame.now.header.now columns n c.args.walk.now.own c.args.walk.now.marked own_before c.loop-n.walk.marked records c.args.frame.now.records.now.facts.items mode found met.own met.marked in
    let more : flat_map text (range_with_len 0 (n + 1)) ≡ flat_map text (range_with_len 0 n) ++ macroblock_text c.args.target.form c.args.target.place c.next-macroblock.result =
    texts_more text 0 n n (omega arith) ∙ ap (λ (t : List ℕ). flat_map text (range_with_len 0 n) ++ t) (sym here) in
    record {
      said = subst (λ (t : List ℕ). Appends (g.W.Write.contents c.args.w.now) (g.W.Write.contents c.write_macroblock.new.w) t) (sym more) (Appends-trans _ _ _ _ _ met.said c.in_ok-write_macroblock.ensures);
      own = state-next c.args.frame.now.header.now columns c.args.walk.now.own own_before _ records n mode found met.own c.next-macroblock.ensures.own;
      marked = state-next c.args.frame.now.header.now columns c.args.walk.now.marked c.loop-n.walk.marked c.next-macroblock.new.self.marked records n mode found met.marked marked;
      after = c.next-macroblock.ensures.after;
    }
