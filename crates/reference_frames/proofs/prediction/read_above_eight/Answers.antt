use Rattle.std.proofs.Common.{◌≡◌, ◌+◌, ◌≤◌, length, sym, ◌∙◌, eq-eqb, arith, rules}
use Rattle.std.proofs.lemmas.Bool.{ne_eqb, cond-true, cond-false}
use Rattle.reference_frames.specs.Unfiltered.{right_row, sub_column}
use Rattle.reference_frames.proofs.Sides.{above_eight_read}
use Rattle.reference_frames.proofs.prediction.read_above_eight.Goals as goal
use Rattle.reference_frames.proofs.prediction.read_above_eight.Goals.{then-block-eq3, else-block-eq3}

pub returns : goal.returns
returns c =
    let right : c.if-block-eq3.right_y ≡ right_row c.args.my c.args.block = elim c.if-block-eq3.branch [
      | then-block-eq3 w ↦ w.right_y-is ∙ sym (cond-true _ _ _ (eq-eqb _ _ w.if-block-eq3.true))
      | else-block-eq3 w ↦ w.right_y-is ∙ sym (cond-false _ _ _ (ne_eqb _ _ w.if-block-eq3.false))
    ] in
    let eight : length c.args.out.now ≡ 8 = search rules in
    let within : sub_column c.args.mx c.args.block + 4 ≤ c.args.plane.now.shown.width = omega arith in
    above_eight_read c.args.plane.now.shown c.args.mx c.args.my c.args.block c.if-block-eq3.right_y (length c.split_at_mut-above.result.0.now) (length c.split_at_mut-above.result.1.now) c.read_above.new.out c.read_above_or_last.new.out
    right within c.split_at_mut-above.ensures.front_len (omega (arith, c.split_at_mut-above.ensures.front_len, c.split_at_mut-above.ensures.back_len, eight)) c.read_above.ensures c.read_above_or_last.ensures
