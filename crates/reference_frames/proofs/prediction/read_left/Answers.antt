use Rattle.std.proofs.Common.{◌∙◌, length}
use Rattle.reference_frames.proofs.Sides.{left_of_frame, left_part}
use Rattle.reference_frames.proofs.prediction.read_left.Goals as goal

pub returns-then-x-eq0 : goal.returns-then-x-eq0
returns-then-x-eq0 c = c.fill.ensures.after (λ y h. h) ∙ left_of_frame c.args.plane.now.shown c.args.x c.args.y (length c.args.out.now) c.if-x-eq0.true

pub returns-else-x-eq0 : goal.returns-else-x-eq0
returns-else-x-eq0 c = c.read_column.ensures ∙ left_part c.args.plane.now.shown c.args.x c.args.y (length c.args.out.now) c.if-x-eq0.false
