use Rattle.std.proofs.Common.{arith}
use Rattle.transforms.proofs.Rows.{all_rows, one_more, no_rows}
use Rattle.transforms.proofs.ResidualLanes.{row_at, row_small}
use Rattle.transforms.proofs.dct.dct_add.Goals as goal

pub add_row-requires-clause-small : goal.add_row-requires-clause-small
add_row-requires-clause-small c = row_small c.args.coefficients.now 0 _ c.residuals.ensures.first

pub add_row-requires-2-clause-small : goal.add_row-requires-2-clause-small
add_row-requires-2-clause-small c = row_small c.args.coefficients.now 1 _ c.residuals.ensures.second

pub add_row-requires-3-clause-small : goal.add_row-requires-3-clause-small
add_row-requires-3-clause-small c = row_small c.args.coefficients.now 2 _ c.residuals.ensures.third

pub add_row-requires-4-clause-small : goal.add_row-requires-4-clause-small
add_row-requires-4-clause-small c = row_small c.args.coefficients.now 3 _ c.residuals.ensures.fourth

pub returns : goal.returns
returns c =
    let cs = c.args.coefficients.now in
    all_rows _ _ _ _ _ (one_more _ 4 c.args.stride 3 _ _ _ _ _ c.requires.stride (omega arith) (one_more _ 4 c.args.stride 2 _ _ _ _ _ c.requires.stride (omega arith) (one_more _ 4 c.args.stride 1 _ _ _ _ _ c.requires.stride (omega arith) (one_more _ 4 c.args.stride 0 _ _ _ _ _ c.requires.stride (omega arith) (no_rows _ _ c.args.stride _) c.add_row.ensures (row_at cs 0 _ c.residuals.ensures.first)) c.add_row-2.ensures (row_at cs 1 _ c.residuals.ensures.second)) c.add_row-3.ensures (row_at cs 2 _ c.residuals.ensures.third)) c.add_row-4.ensures (row_at cs 3 _ c.residuals.ensures.fourth))
