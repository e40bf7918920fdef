use Rattle.std.proofs.Common.{sym}
use Rattle.std.proofs.lemmas.List.{map-set}
use Rattle.state_cache.specs.Evictions.{last_use, saved}
use Rattle.state_cache.proofs.savings.Savings.put.Goals as goal

pub invariant_of-self : goal.invariant_of-self
invariant_of-self c =
    let items = c.self.inside.list.items in
    (rw (c.self.invariant.0, c.steps.ensures) (sym (map-set saved items c.args.index c.args.new)), rw (c.self.invariant.1) (sym (map-set last_use items c.args.index c.args.new)))
