use Rattle.std.proofs.Common.{arith}
use Rattle.bool_coder.proofs.Products.{odds-fit, odds-split}
use Rattle.bool_coder.proofs.decoder.scaled_by.Goals as goal

pub overflow_add-result : goal.overflow_add-result
overflow_add-result c = omega (arith, odds-fit c.args.odds c.args.range c.args.shift c.requires.odds c.requires.most)

pub returns : goal.returns
returns c = odds-split c.args.odds c.args.range c.args.shift c.requires.odds c.requires.some c.requires.most
