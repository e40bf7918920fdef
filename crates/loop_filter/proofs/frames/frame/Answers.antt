use Rattle.std.proofs.Common.{◌≡◌, refl, rules, sym, ap, ◌∙◌, arith}
use Rattle.pixel_planes.specs.PlaneSamples.{shown_of}
use Rattle.loop_filter.specs.Frames.{columns_in, strength_at, filtered_row}
use Rattle.loop_filter.proofs.Raster.{none_of_frame, next_row, all_rows}
use Rattle.loop_filter.proofs.frames.frame.Goals as goal

pub loop-my-init : goal.loop-my-init
loop-my-init c = record {
  value = λ on. sym (none_of_frame c.args.header.now.filter.is_simple (strength_at c.args.header.now c.args.modes.now.records c.args.flags.now) (columns_in (shown_of c.args.planes.now)) (shown_of c.args.planes.now));
  sides = search rules;
  unfiltered = λ off. refl;
  luma_border = λ on. refl;
  luma_old = λ some. absurd (omega (arith, some));
  chroma_borders = λ on normal. (refl, refl);
  chroma_old = λ some. absurd (omega (arith, some));
  simple_cb = λ simple. refl;
  simple_cr = λ simple. refl;
}

pub loop-my-preserved : goal.loop-my-preserved
loop-my-preserved c =
    let filter = c.new-filter.ensures in
    let row : shown_of c.filter.new.planes ≡ filtered_row c.args.header.now c.args.modes.now.records c.args.flags.now c.loop-my.my (shown_of c.loop-my.planes) = rw (filter.same_header, filter.same_records) at c.filter.ensures.value in
    let so_far = c.loop-my.invariant in
    record {
      value = λ on. next_row c.args.header.now c.args.modes.now.records c.args.flags.now c.loop-my.my (shown_of c.args.planes.now) (shown_of c.loop-my.planes) (shown_of c.filter.new.planes) on so_far.sides (so_far.value on) row;
      sides = search rules;
      unfiltered = λ off. c.filter.ensures.unfiltered (rw filter.same_header off) ∙ so_far.unfiltered off;
      luma_border = λ on. (c.filter.ensures.luma_border (rw filter.same_header on)).0 ∙ so_far.luma_border on;
      luma_old = λ some on. (c.filter.ensures.luma_border (rw filter.same_header on)).1;
      chroma_borders = λ on normal.
          let borders = c.filter.ensures.chroma_borders (rw filter.same_header on) (rw filter.same_header normal) in
          (borders.0.0 ∙ (so_far.chroma_borders on normal).0, borders.1.0 ∙ (so_far.chroma_borders on normal).1);
      chroma_old = λ some on normal.
          let borders = c.filter.ensures.chroma_borders (rw filter.same_header on) (rw filter.same_header normal) in
          (borders.0.1, borders.1.1);
      simple_cb = λ simple. (c.filter.ensures.simple (rw filter.same_header simple)).0 ∙ so_far.simple_cb simple;
      simple_cr = λ simple. (c.filter.ensures.simple (rw filter.same_header simple)).1 ∙ so_far.simple_cr simple;
    }

pub returns-clause-value : goal.returns-clause-value
returns-clause-value c =
    let rows = c.height-my-end.ensures.value in
    all_rows c.args.header.now c.args.modes.now.records c.args.flags.now c.loop-my.my (shown_of c.args.planes.now) (shown_of c.loop-my.planes) (omega (arith, rows, c.loop-my-test.false, c.loop-my.auto.my-end)) c.loop-my.invariant.value (λ off. ap shown_of (c.loop-my.invariant.unfiltered off))
