use Rattle.std.proofs.Common.{◌≡◌, ◌+◌, ◌*◌, ℕ, length, slice_get, Some, ap, ◌∙◌, refl, rules, add-zero, arith}
use Rattle.std.specs.Option.{option_copied}
use Rattle.std.proofs.lemmas.List.{length-set}
use Rattle.mode_parser.specs.declared.records.MbMode.{MbMode}
use Rattle.mode_parser.specs.RecordList.{mode_of}
use Rattle.pixel_planes.specs.PlaneSamples.{shown_of}
use Rattle.reference_frames.specs.FrameTokens.{TokenState, flag_at, residual_at}
use Rattle.reference_frames.specs.FrameTokenValue.{state_of}
use Rattle.reference_frames.specs.Rows.{AreRead, row_predicted}
use Rattle.reference_frames.proofs.FlatFrames.{place_within}
use Rattle.reference_frames.proofs.MacroblockOrder.{flag_here, flags_more, residual_here, row_more, state_more}
use Rattle.reference_frames.proofs.frames.predict_row.Goals as goal

pub loop-mx-init : goal.loop-mx-init
unfolding row_predicted
loop-mx-init c = record {
  value = λ start before. (rw add-zero before, refl);
  readers = refl;
  above = refl;
  sides = search rules;
}

pub read-requires-clause-some : goal.read-requires-clause-some
read-requires-clause-some c = omega (arith, c.requires.some, c.loop-mx.invariant.readers)

pub read-requires-clause-column : goal.read-requires-clause-column
read-requires-clause-column c = omega (arith, c.requires.above, c.loop-mx.invariant.above, c.loop-mx-test.true)

pub predict_macroblock-requires : goal.predict_macroblock-requires
predict_macroblock-requires c = search rules

pub at-mode-requires : goal.at-mode-requires
at-mode-requires c = rw c.requires.each (place_within c.args.frame.raster.columns c.args.frame.raster.rows c.args.my c.loop-mx.mx c.loop-mx-test.true c.requires.row)

pub loop-mx-preserved : goal.loop-mx-preserved
loop-mx-preserved c =
    let header = c.args.frame.header.now in
    let columns : ℕ = c.args.frame.raster.columns in
    let modes = c.args.frame.raster.modes.now in
    let mx : ℕ = c.loop-mx.mx in
    let place : ℕ = c.args.my * columns + mx in
    let mode : MbMode = mode_of c.at-mode.result in
    let found : slice_get modes place ≡ Some mode = c.at-mode.ensures in
    let so_far = c.loop-mx.invariant in
    let old : TokenState = state_of c.loop-mx.tokens in
    let next : place + 1 ≡ c.args.my * columns + (mx + 1) = omega arith in
    record {
      value = λ start before.
          let here = so_far.value start before in
          let read = here.0 in
          let flag = c.read.ensures.flag ∙ flag_here header start old columns mx c.args.my place modes mode found read.same_state refl c.loop-mx-test.true in
          let residual : option_copied c.residual-residual.result ≡ residual_at header columns start modes place = c.residual-residual.ensures ∙ c.read.ensures.residual ∙ residual_here header start old columns mx c.args.my place modes mode found read.same_state refl c.loop-mx-test.true in
          let predicted = rw residual at c.predict_macroblock.ensures.value in
          let now_read : AreRead header columns start modes (place + 1) (state_of c.read.new.self) c.push.new.self.items = record {
            same_state = state_more header start old (state_of c.read.new.self) columns mx c.args.my place modes mode found read.same_state c.read.ensures.state refl c.loop-mx-test.true;
            same_flags = c.in_ok-push.ensures.items ∙ flags_more (flag_at header columns start modes) c.loop-mx.flags.items place c.read.new.self.has_tokens read.same_flags flag;
          } in (
            rw (← next) now_read,
            row_more c.args.frame.sources.version (option_copied c.args.frame.sources.references) (shown_of c.args.planes.now) (shown_of c.loop-mx.planes) (shown_of c.predict_macroblock.new.planes) columns mx c.args.my modes (residual_at header columns start modes) mode found here.1 predicted c.loop-mx-test.true,
          );
      readers = ap (λ (t : TokenState). length t.readers) c.read.ensures.state ∙ length-set _ _ _ ∙ so_far.readers;
      above = ap (λ (t : TokenState). length t.above) c.read.ensures.state ∙ length-set _ _ _ ∙ so_far.above;
      sides = search rules;
    }
