use Rattle.state_cache.proofs.Others.{of_both}
use Rattle.state_cache.proofs.savings.Savings.least_other.Goals as goal

pub returns-clause-victim : goal.returns-clause-victim
returns-clause-victim c =
    of_both c.args.self.now.list c.args.self.now.uses c.args.len c.args.newest c.requires.within c.in-Some-before.before c.in-Some.after c.in-Some-before.ensures.victim c.in-Some.ensures.victim c.lesser.result c.lesser.ensures
