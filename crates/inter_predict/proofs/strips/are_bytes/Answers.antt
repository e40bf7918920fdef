use Rattle.inter_predict.proofs.strips.are_bytes.Goals as goal

pub returns : goal.returns
returns c = λ place. (c.type_inv.samples place).fits
