use Rattle.std.proofs.Common.{arith}
use Rattle.transforms.proofs.Rows.{all_rows, one_more, no_rows}
use Rattle.transforms.proofs.PairLanes.{read_lanes}
use Rattle.transforms.proofs.PairRows.{AreColumnsOf, pair_within, row0, row1, row2, row3}
use Rattle.transforms.proofs.pairs.dct_add_two.Goals as goal

pub are_small-requires : goal.are_small-requires
are_small-requires c = (read_lanes _, read_lanes _, read_lanes _, read_lanes _)

pub residuals-requires-clause-lanes : goal.residuals-requires-clause-lanes
residuals-requires-clause-lanes c = (read_lanes _, read_lanes _, read_lanes _, read_lanes _)

pub add_eight-requires-clause-small : goal.add_eight-requires-clause-small
add_eight-requires-clause-small c =
    let f = c.args.first.now in
    let s = c.args.second.now in
    let are : AreColumnsOf f s c.columns.result.0 c.columns.result.1 c.columns.result.2 c.columns.result.3 = record { is0 = c.columns.ensures.first; is1 = c.columns.ensures.second; is2 = c.columns.ensures.third; is3 = c.columns.ensures.fourth } in
    λ column inside. rw (row0 f s _ _ _ _ c.residuals.result.0 are c.residuals.ensures.first column inside) (pair_within f s column 0)

pub add_eight-requires-2-clause-small : goal.add_eight-requires-2-clause-small
add_eight-requires-2-clause-small c =
    let f = c.args.first.now in
    let s = c.args.second.now in
    let are : AreColumnsOf f s c.columns.result.0 c.columns.result.1 c.columns.result.2 c.columns.result.3 = record { is0 = c.columns.ensures.first; is1 = c.columns.ensures.second; is2 = c.columns.ensures.third; is3 = c.columns.ensures.fourth } in
    λ column inside. rw (row1 f s _ _ _ _ c.residuals.result.1 are c.residuals.ensures.second column inside) (pair_within f s column 1)

pub add_eight-requires-3-clause-small : goal.add_eight-requires-3-clause-small
add_eight-requires-3-clause-small c =
    let f = c.args.first.now in
    let s = c.args.second.now in
    let are : AreColumnsOf f s c.columns.result.0 c.columns.result.1 c.columns.result.2 c.columns.result.3 = record { is0 = c.columns.ensures.first; is1 = c.columns.ensures.second; is2 = c.columns.ensures.third; is3 = c.columns.ensures.fourth } in
    λ column inside. rw (row2 f s _ _ _ _ c.residuals.result.2 are c.residuals.ensures.third column inside) (pair_within f s column 2)

pub add_eight-requires-4-clause-small : goal.add_eight-requires-4-clause-small
add_eight-requires-4-clause-small c =
    let f = c.args.first.now in
    let s = c.args.second.now in
    let are : AreColumnsOf f s c.columns.result.0 c.columns.result.1 c.columns.result.2 c.columns.result.3 = record { is0 = c.columns.ensures.first; is1 = c.columns.ensures.second; is2 = c.columns.ensures.third; is3 = c.columns.ensures.fourth } in
    λ column inside. rw (row3 f s _ _ _ _ c.residuals.result.3 are c.residuals.ensures.fourth column inside) (pair_within f s column 3)

pub returns : goal.returns
returns c =
    let f = c.args.first.now in
    let s = c.args.second.now in
    let are : AreColumnsOf f s c.columns.result.0 c.columns.result.1 c.columns.result.2 c.columns.result.3 = record { is0 = c.columns.ensures.first; is1 = c.columns.ensures.second; is2 = c.columns.ensures.third; is3 = c.columns.ensures.fourth } in
    all_rows _ 8 c.args.stride _ _ (one_more _ 8 c.args.stride 3 _ _ _ _ _ c.requires.stride (omega arith) (one_more _ 8 c.args.stride 2 _ _ _ _ _ c.requires.stride (omega arith) (one_more _ 8 c.args.stride 1 _ _ _ _ _ c.requires.stride (omega arith) (one_more _ 8 c.args.stride 0 _ _ _ _ _ c.requires.stride (omega arith) (no_rows _ 8 c.args.stride _) c.add_eight.ensures (row0 f s _ _ _ _ c.residuals.result.0 are c.residuals.ensures.first)) c.add_eight-2.ensures (row1 f s _ _ _ _ c.residuals.result.1 are c.residuals.ensures.second)) c.add_eight-3.ensures (row2 f s _ _ _ _ c.residuals.result.2 are c.residuals.ensures.third)) c.add_eight-4.ensures (row3 f s _ _ _ _ c.residuals.result.3 are c.residuals.ensures.fourth))
