use Rattle.std.specs.Prelude.{min}
use Rattle.std.proofs.Common.{◌≡◌, ◌⊎◌, ℕ, zero, suc, ◌+◌, ◌-◌, ◌*◌, ◌<◌, ◌≤◌, inl, inr, Bool, refl, ap, ◌∙◌, zero-mul, rules, arith}
use Rattle.std.specs.Option.{option_copied}
use Rattle.pixel_planes.specs.PlaneSamples.{shown_of}
use Rattle.loop_filter.specs.Frames.{filtered_row}
use Rattle.reference_frames.specs.FrameTokens.{flag_at, residual_at, token_state}
use Rattle.reference_frames.specs.FrameTokenValue.{state_of}
use Rattle.reference_frames.specs.Rows.{AreRead}
use Rattle.reference_frames.specs.Unfiltered.{SameShape}
use Rattle.reference_frames.proofs.FilteredRows.{IsDone, all_done, all_predicted, flags_reach, none_done, now_predicted, row_done, row_filtered, rows_up_to, shape_of, still_same}
use Rattle.reference_frames.proofs.frames.decode_rows.Goals as goal
use Rattle.reference_frames.proofs.frames.decode_rows.Goals.{then-my-gt0, else-my-gt0, then-my-rows+in_ok-predict_row, else-my-rows}

pub loop-my-init : goal.loop-my-init
unfolding token_state
loop-my-init c =
    let header = c.args.frame.header.now in
    let columns : ℕ = c.args.frame.raster.columns in
    let start = state_of c.args.tokens.now in
    let modes = c.args.frame.raster.modes.now in
    let none : min 0 c.args.frame.raster.rows ≡ 0 = omega arith in
    record {
      read = rw (none, zero-mul) (record { same_state = refl; same_flags = c.in_ok-flags.ensures.items });
      done = rw none (none_done header (flag_at header columns start modes) c.args.frame.sources.version (option_copied c.args.frame.sources.references) columns c.args.frame.raster.rows (shown_of c.args.planes.now) modes (residual_at header columns start modes));
      readers = refl;
      above = refl;
      sides = search rules;
    }

pub filter-requires-clause-flags : goal.filter-requires-clause-flags
filter-requires-clause-flags c =
    let header = c.args.frame.header.now in
    let columns : ℕ = c.args.frame.raster.columns in
    let rows : ℕ = c.args.frame.raster.rows in
    let start = state_of c.args.tokens.now in
    let modes = c.args.frame.raster.modes.now in
    let my : ℕ = c.loop-my.my in
    let so_far = c.loop-my.invariant in
    let read : AreRead header columns start modes (min (my + 1) rows * columns) (state_of c.if-my-rows.tokens) c.if-my-rows.flags.items = elim c.if-my-rows.branch [
      | then-my-rows+in_ok-predict_row w ↦
          let are = now_predicted my rows w.if-my-rows.true in
          let next : my * columns + columns ≡ min (my + 1) rows * columns = rw are.1 (omega arith) in
          rw (w.tokens-is, w.flags-is, ← next) (w.in_ok-predict_row.ensures.value start (rw are.0 at so_far.read)).0
      | else-my-rows w ↦
          let are = all_predicted my rows w.if-my-rows.false in
          rw (w.tokens-is, w.flags-is, are.1) (rw are.0 at so_far.read)
    ] in
    let wide : c.if-my-rows.planes.luma.shown.width ≡ 16 * columns = elim c.if-my-rows.branch [
      | then-my-rows+in_ok-predict_row w ↦ rw w.planes-is (w.in_ok-predict_row.ensures.sides.0.0 ∙ so_far.sides.0.0 ∙ c.requires.shape.luma.0.0)
      | else-my-rows w ↦ rw w.planes-is (so_far.sides.0.0 ∙ c.requires.shape.luma.0.0)
    ] in
    let upto = rows_up_to columns (min (my + 1) rows) (my - 1) (omega (arith, c.if-my-gt0.true, c.loop-my-test.true)) in
    flags_reach (flag_at header columns start modes) c.if-my-rows.flags.items c.deref.result.now columns (my - 1) (min (my + 1) rows * columns) _ read.same_flags c.deref.ensures.value wide upto

-- rows are filtered up to the one before the last that is predicted
apart : (my : ℕ) → (my - 1 ≡ 0) ⊎ (my - 1 < my)
apart zero = inl refl
apart (suc my) = inr (omega arith)

pub loop-my-preserved : goal.loop-my-preserved
loop-my-preserved c =
    let header = c.args.frame.header.now in
    let columns : ℕ = c.args.frame.raster.columns in
    let rows : ℕ = c.args.frame.raster.rows in
    let start = state_of c.args.tokens.now in
    let modes = c.args.frame.raster.modes.now in
    let version : ℕ = c.args.frame.sources.version in
    let references = option_copied c.args.frame.sources.references in
    let planes = shown_of c.args.planes.now in
    let flag : ℕ → Bool = flag_at header columns start modes in
    let residuals = residual_at header columns start modes in
    let my : ℕ = c.loop-my.my in
    let shape = shape_of columns rows planes c.requires.shape in
    let so_far = c.loop-my.invariant in
    let read : AreRead header columns start modes (min (my + 1) rows * columns) (state_of c.if-my-rows.tokens) c.if-my-rows.flags.items = elim c.if-my-rows.branch [
      | then-my-rows+in_ok-predict_row w ↦
          let are = now_predicted my rows w.if-my-rows.true in
          let next : my * columns + columns ≡ min (my + 1) rows * columns = rw are.1 (omega arith) in
          rw (w.tokens-is, w.flags-is, ← next) (w.in_ok-predict_row.ensures.value start (rw are.0 at so_far.read)).0
      | else-my-rows w ↦
          let are = all_predicted my rows w.if-my-rows.false in
          rw (w.tokens-is, w.flags-is, are.1) (rw are.0 at so_far.read)
    ] in
    let same : SameShape planes (shown_of c.if-my-rows.planes) = elim c.if-my-rows.branch [
      | then-my-rows+in_ok-predict_row w ↦
          let row : SameShape planes (shown_of w.predict_row.new.planes) = search rules in
          rw w.planes-is row
      | else-my-rows w ↦ rw w.planes-is so_far.sides
    ] in
    let predicted : IsDone header flag version references columns rows planes modes residuals (min (my + 1) rows) (my - 1) (shown_of c.if-my-rows.planes) = elim c.if-my-rows.branch [
      | then-my-rows+in_ok-predict_row w ↦
          let are = now_predicted my rows w.if-my-rows.true in
          let row = (w.in_ok-predict_row.ensures.value start (rw are.0 at so_far.read)).1 in
          rw (w.planes-is, are.1) (row_done header flag version references columns rows planes modes residuals shape my (my - 1) (shown_of c.loop-my.planes) (shown_of w.predict_row.new.planes) (omega (arith, w.if-my-rows.true)) (apart my) (rw are.0 at so_far.done) row)
      | else-my-rows w ↦
          let are = all_predicted my rows w.if-my-rows.false in
          rw (w.planes-is, are.1) (rw are.0 at so_far.done)
    ] in
    let upto = rows_up_to columns (min (my + 1) rows) (my - 1) in
    let all = rows_up_to columns rows (min (my + 1) rows - 1) in
    record {
      read = read;
      done = elim c.if-my-gt0.branch [
        | then-my-gt0 w ↦
            let here : shown_of w.filter.new.planes ≡ filtered_row header modes c.if-my-rows.flags.items (my - 1) (shown_of c.if-my-rows.planes) = rw (c.requires.filter.same_header, c.requires.filter.same_records, w.deref.ensures.value) at w.filter.ensures.value in
            let count : my - 1 + 1 ≡ my + 1 - 1 = omega (arith, w.if-my-gt0.true) in
            let whole : min (my + 1) rows - 1 + 1 ≡ min (my + 1) rows = omega (arith, c.requires.small.1) in
            let within : min (my + 1) rows * columns ≤ rows * columns = rw whole at (all (omega (arith, c.requires.small.1))) in
            rw (w.planes-is, ← count) (row_filtered header flag version references columns rows planes modes residuals shape (min (my + 1) rows) (my - 1) (min (my + 1) rows * columns) c.if-my-rows.flags.items (shown_of c.if-my-rows.planes) (shown_of w.filter.new.planes) same predicted read.same_flags
            (upto (omega (arith, w.if-my-gt0.true, c.loop-my-test.true))) (omega (arith, within, c.requires.each)) here (λ level. ap shown_of (w.filter.ensures.unfiltered (rw c.requires.filter.same_header level))))
        | else-my-gt0 w ↦
            let count : my - 1 ≡ my + 1 - 1 = omega (arith, w.if-my-gt0.false) in
            rw (w.planes-is, ← count) predicted
      ];
      readers = elim c.if-my-rows.branch [
        | then-my-rows+in_ok-predict_row w ↦ rw w.tokens-is (w.in_ok-predict_row.ensures.readers ∙ so_far.readers)
        | else-my-rows w ↦ rw w.tokens-is so_far.readers
      ];
      above = elim c.if-my-rows.branch [
        | then-my-rows+in_ok-predict_row w ↦ rw w.tokens-is (w.in_ok-predict_row.ensures.above ∙ so_far.above)
        | else-my-rows w ↦ rw w.tokens-is so_far.above
      ];
      sides = elim c.if-my-gt0.branch [
        | then-my-gt0 w ↦ rw w.planes-is (still_same planes (shown_of c.if-my-rows.planes) (shown_of w.filter.new.planes) same w.filter.ensures.sides)
        | else-my-gt0 w ↦ rw w.planes-is same
      ];
    }

pub returns-clause-value : goal.returns-clause-value
returns-clause-value c =
    let header = c.args.frame.header.now in
    let columns : ℕ = c.args.frame.raster.columns in
    let rows : ℕ = c.args.frame.raster.rows in
    let start = state_of c.args.tokens.now in
    let modes = c.args.frame.raster.modes.now in
    let flag : ℕ → Bool = flag_at header columns start modes in
    let planes = shown_of c.args.planes.now in
    let residuals = residual_at header columns start modes in
    let all : min c.loop-my.my rows ≡ rows = omega (arith, c.loop-my-test.false) in
    let last : c.loop-my.my - 1 ≡ rows = omega (arith, c.loop-my-test.false, c.loop-my.auto.my-end) in
    all_done header flag c.args.frame.sources.version (option_copied c.args.frame.sources.references) columns rows planes modes residuals (shape_of columns rows planes c.requires.shape) (shown_of c.loop-my.planes) c.requires.each (rw (all, last) at c.loop-my.invariant.done)
