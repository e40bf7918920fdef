use Rattle.std.proofs.lemmas.List.{get_or-replicate}
use Rattle.loop_filter.proofs.lanes.all.Goals as goal

pub returns : goal.returns
returns c = λ i less. get_or-replicate 32 i c.args.value 0 less
