use Rattle.macroblock_lists.proofs.FilterLemmas.{filters_are_used}
use Rattle.macroblock_lists.proofs.laws.filters_are_used.Goals as goal

pub returns : goal.returns
returns c = filters_are_used
