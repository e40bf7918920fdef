use Rattle.bool_coder.proofs.Shifts.{shift_of-some, shift_of-large, shift_of-small}
use Rattle.bool_coder.proofs.decoder.shift_of.Goals as goal

pub overflow_sub-result : goal.overflow_sub-result
overflow_sub-result c = shift_of-some c.args.range c.requires.some c.requires.most

pub returns-clause-large : goal.returns-clause-large
returns-clause-large c = shift_of-large c.args.range c.requires.some c.requires.most

pub returns-clause-small : goal.returns-clause-small
returns-clause-small c = shift_of-small c.args.range c.requires.some c.requires.most
