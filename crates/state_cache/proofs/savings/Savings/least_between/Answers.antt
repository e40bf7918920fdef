use Rattle.std.proofs.Common.{◌<◌, ◌-◌, ◌∙◌, ℕ, List, ap, arith, drop, slice_range, subst, take}
use Rattle.std.proofs.lemmas.List.{drop-map, take-map}
use Rattle.state_cache.specs.declared.savings.Saving.{Saving}
use Rattle.state_cache.specs.Evictions.{IsVictim, last_use, saved}
use Rattle.state_cache.proofs.Others.{between, taken_low}
use Rattle.state_cache.proofs.savings.Savings.least_between.Goals as goal

pub least_of-requires-clause-steps : goal.least_of-requires-clause-steps
least_of-requires-clause-steps c =
    let n = c.args.to - c.args.from in
    rw (c.deref-2.ensures.value, c.deref.ensures.value, c.self.invariant.0)
    (ap (λ (ns : List ℕ). take n ns) (drop-map saved c.args.from c.self.inside.list.items) ∙ take-map saved n (drop c.args.from c.self.inside.list.items))

pub least_of-requires-clause-used : goal.least_of-requires-clause-used
least_of-requires-clause-used c =
    let n = c.args.to - c.args.from in
    rw (c.deref-3.ensures.value, c.deref.ensures.value, c.self.invariant.1)
    (ap (λ (ns : List ℕ). take n ns) (drop-map last_use c.args.from c.self.inside.list.items) ∙ take-map last_use n (drop c.args.from c.self.inside.list.items))

pub overflow_add-result : goal.overflow_add-result
overflow_add-result c =
    let v = c.in_ok-least.ensures.victim in
    let low : c.in_ok-least.least < c.args.to - c.args.from = taken_low (c.args.to - c.args.from) (drop c.args.from c.deref.result.now) c.in_ok-least.least v.saving v.is_there in
    let fits = c.ranges.to.fits in
    omega (arith, low, fits)

pub returns-clause-victim : goal.returns-clause-victim
returns-clause-victim c =
    let v = c.in_ok-least.ensures.victim in
    rw (← c.self.view_is)
    (between c.self.inside.list.items c.self.inside.uses c.args.from c.args.to c.in_ok-least.least
    (subst (λ (ss : List Saving). IsVictim (slice_range ss c.args.from c.args.to) c.self.inside.uses c.in_ok-least.least) c.deref.ensures.value v))
