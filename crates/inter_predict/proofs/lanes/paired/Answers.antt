use Rattle.inter_predict.proofs.PairedLanes.{paired_line}
use Rattle.inter_predict.proofs.lanes.paired.Goals as goal

pub returns : goal.returns
returns c = paired_line c.args.one.now c.args.other.now c.args.start c.requires.one c.requires.other (λ k. (c.type_inv.one k).fits) (λ k. (c.type_inv.other k).fits)
