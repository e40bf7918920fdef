use Rattle.std.proofs.Common.{◌≤◌, ℕ, List, length, map, slice_range, subst, arith, rules}
use Rattle.state_cache.specs.Evictions.{saved}
use Rattle.state_cache.specs.ProofsOnly.{NoneIsLess}
use Rattle.state_cache.proofs.Least.{skipped_searched, victim_found}
use Rattle.state_cache.proofs.savings.least_of.Goals as goal

pub loop-at-preserved : goal.loop-at-preserved
loop-at-preserved c =
    let l = c.loop-at in
    let none = c.is_any_less.ensures c.if-is_any_less.false in
    let on_steps = subst (λ (steps : List ℕ). NoneIsLess (slice_range steps l.at c.min-end.result) (slice_range c.args.used.now l.at c.min-end.result) c.args.uses l.least.worth.saved l.least.worth.age) c.requires.steps none in
    let on_both = subst (λ (used : List ℕ). NoneIsLess (slice_range (map saved c.args.savings.now) l.at c.min-end.result) (slice_range used l.at c.min-end.result) c.args.uses l.least.worth.saved l.least.worth.age) c.requires.used on_steps in
    (search (rules, arith), skipped_searched c.args.savings.now c.args.uses l.at l.least.victim l.least.worth.saved l.least.worth.age l.invariant.1 c.min-end.result on_both)

pub returns-clause-victim : goal.returns-clause-victim
returns-clause-victim c =
    let l = c.loop-at in
    let all : length c.args.savings.now ≤ l.at = search (rules, arith) in
    victim_found c.args.savings.now c.args.uses l.at l.least.victim l.least.worth.saved l.least.worth.age l.invariant.1 all
