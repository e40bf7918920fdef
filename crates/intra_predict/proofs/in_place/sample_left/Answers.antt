use Rattle.std.proofs.Common.{sym}
use Rattle.intra_predict.proofs.InPlace.{left_outside, left_inside}
use Rattle.intra_predict.proofs.in_place.sample_left.Goals as goal

pub returns-then-corner-eq0 : goal.returns-then-corner-eq0
returns-then-corner-eq0 c = λ n less. sym (left_outside c.args.samples.now c.args.corner n c.args.row c.if-corner-eq0.true)

pub returns-else-corner-eq0 : goal.returns-else-corner-eq0
returns-else-corner-eq0 c = λ n less. sym (left_inside c.args.samples.now c.args.corner n c.args.row c.if-corner-eq0.false less)
