use Rattle.transforms.proofs.Products.{ac_small}
use Rattle.transforms.proofs.quantisation.ac_factor.Goals as goal

pub returns-clause-small : goal.returns-clause-small
returns-clause-small c = ac_small c.changed.result
