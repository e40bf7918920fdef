use Rattle.std.proofs.Common.{◌∙◌, arith}
use Rattle.std.specs.List.{range_with_len}
use Rattle.std.proofs.lemmas.Simd.{pick_l_left, pick_l-range_with_len}
use Rattle.inter_predict.proofs.lanes.first_half.Goals as goal

pub returns : goal.returns
returns c = pick_l_left 0 c.args.row c.args.row 16 (range_with_len 0 8) c.fits-row.0 tt ∙ pick_l-range_with_len 0 c.args.row 0 8 (omega (arith, c.fits-row.0))
