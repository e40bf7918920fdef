use Rattle.std.proofs.Common.{◌∙◌, lit<, arith, w16, SFits}
use Rattle.std.proofs.lemmas.Int.{to_z-of_z}
use Rattle.transforms.proofs.Rows.{all_rows, one_more, no_rows}
use Rattle.transforms.proofs.Passes.{first_row}
use Rattle.transforms.proofs.dct.dct_add_first.Goals as goal

pub returns : goal.returns
returns c =
    let fits : SFits w16 c.args.first = c.ranges.first in
    let value = to_z-of_z w16 c.eighth-row.result (record { sfits = c.eighth-row.type_inv }) ∙ (simp to_z-of_z at c.eighth-row.ensures.value) in
    let row = first_row c.args.first _ fits value in
    all_rows _ _ _ _ _ (one_more _ 4 c.args.stride 3 _ _ _ _ _ c.requires.stride (omega arith) (one_more _ 4 c.args.stride 2 _ _ _ _ _ c.requires.stride (omega arith) (one_more _ 4 c.args.stride 1 _ _ _ _ _ c.requires.stride (omega arith) (one_more _ 4 c.args.stride 0 _ _ _ _ _ c.requires.stride (omega arith) (no_rows _ _ c.args.stride _) c.add_row.ensures (row 0 (lit< tt))) c.add_row-2.ensures (row 1 (lit< tt))) c.add_row-3.ensures (row 2 (lit< tt))) c.add_row-4.ensures (row 3 (lit< tt)))
