use Rattle.std.proofs.Common.{◌∙◌, w16, SFits}
use Rattle.std.proofs.lemmas.Int.{to_z-of_z}
use Rattle.transforms.proofs.Passes.{inverse_wht-first}
use Rattle.transforms.proofs.walsh.wht_first.Goals as goal

pub returns : goal.returns
returns c =
    let fits : SFits w16 c.args.first = c.ranges.first in
    let value = to_z-of_z w16 c.alone.result (record { sfits = c.alone.type_inv }) ∙ (simp to_z-of_z at c.alone.ensures) in
    inverse_wht-first c.args.first _ fits value
