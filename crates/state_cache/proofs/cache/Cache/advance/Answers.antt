use Rattle.std.proofs.Common.{◌+◌, refl}
use Rattle.state_cache.proofs.Advanced.{advances_joined, advances_one}
use Rattle.state_cache.proofs.WalkSteps.{step_is}
use Rattle.state_cache.proofs.cache.Cache.advance.Goals as goal

pub returns-then-is_joined-clause-advances : goal.returns-then-is_joined-clause-advances
returns-then-is_joined-clause-advances c =
    advances_joined c.args.tables.now c.args.source c.args.store.now c.iterate.new.store c.args.self.now c.iterate.new.self c.args.place c.args.next c.in-Ok.is_joined c.requires.place c.requires.low
    c.prove_few.ensures.marks c.prove_few.ensures.own_ids c.requires.first c.iterate.ensures.coherent c.in-Ok.ensures.usable c.iterate.ensures.number c.iterate.ensures.capacity c.in-Ok.ensures.iterated
    c.after_cached.result c.if-is_joined.true c.after_cached.ensures

pub returns-else-is_joined-clause-advances : goal.returns-else-is_joined-clause-advances
returns-else-is_joined-clause-advances c =
    advances_one c.args.tables.now c.args.source c.args.store.now c.iterate.new.store c.args.self.now c.iterate.new.self c.args.place c.args.next c.in-Ok.is_joined c.requires.place c.requires.low
    c.prove_few.ensures.marks c.prove_few.ensures.own_ids c.requires.first c.iterate.ensures.coherent c.in-Ok.ensures.usable c.iterate.ensures.number c.iterate.ensures.capacity c.in-Ok.ensures.iterated
    c.if-is_joined.false

pub returns-then-is_joined-clause-walks : goal.returns-then-is_joined-clause-walks
returns-then-is_joined-clause-walks c =
    step_is c.args.tables.now c.args.source c.args.store.now c.iterate.new.store c.args.self.now c.iterate.new.self c.args.place c.args.next c.after_cached.result c.in-Ok.is_joined c.in-Ok.ensures.iterated c.iterate.ensures.counted c.iterate.ensures.capacity
    c.requires.low (returns-then-is_joined-clause-advances c) (λ off. let on = c.if-is_joined.true in cc) c.iterate.ensures.coherent

pub returns-else-is_joined-clause-walks : goal.returns-else-is_joined-clause-walks
returns-else-is_joined-clause-walks c =
    step_is c.args.tables.now c.args.source c.args.store.now c.iterate.new.store c.args.self.now c.iterate.new.self c.args.place c.args.next (c.args.next + 1) c.in-Ok.is_joined c.in-Ok.ensures.iterated c.iterate.ensures.counted c.iterate.ensures.capacity
    c.requires.low (returns-else-is_joined-clause-advances c) (λ off. refl) c.iterate.ensures.coherent
