use Rattle.transforms.specs.Transforms.{inverse_dct}
use Rattle.transforms.proofs.EachBlock.{both_added, of_first, of_second}
use Rattle.transforms.proofs.pairs.dct_add_each.Goals as goal

pub returns : goal.returns
returns c =
    let f = c.args.first in
    let s = c.args.second in
    both_added (inverse_dct f) (inverse_dct s) c.args.stride c.args.samples.now c.dct_add.new.samples c.dct_add-2.new.samples c.requires.stride c.requires.room c.dct_add.ensures c.dct_add-2.ensures _ (of_first f s) (of_second f s)
