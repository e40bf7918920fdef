use Rattle.std.proofs.Common.{◌∙◌, length}
use Rattle.reference_frames.proofs.Sides.{above_frame, above_part}
use Rattle.reference_frames.proofs.prediction.read_above.Goals as goal

pub returns-then-y-eq0 : goal.returns-then-y-eq0
returns-then-y-eq0 c = c.fill.ensures.after (λ y h. h) ∙ above_frame c.args.plane.now.shown c.args.x c.args.y (length c.args.out.now) c.if-y-eq0.true

pub returns-else-y-eq0 : goal.returns-else-y-eq0
returns-else-y-eq0 c = c.copy_from_slice.ensures.after ∙ above_part c.args.plane.now.shown c.args.x c.args.y (length c.args.out.now) c.row.result.now c.if-y-eq0.false c.row.ensures.value c.row.ensures.len c.requires.within.0
