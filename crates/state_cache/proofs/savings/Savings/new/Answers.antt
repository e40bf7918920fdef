use Rattle.std.proofs.Common.{rules}
use Rattle.state_cache.specs.Evictions.{last_use, saved}
use Rattle.state_cache.proofs.Least.{replicate_mapped}
use Rattle.state_cache.proofs.savings.Savings.new.Goals as goal

pub invariant_of-result : goal.invariant_of-result
invariant_of-result c =
    let list = c.in_ok-list.ensures.items_if_clones_equal (λ y same. search rules) in
    let steps = c.in_ok-steps.ensures.items_if_clones_equal (λ y same. search rules) in
    let used = c.in_ok-used.ensures.items_if_clones_equal (λ y same. search rules) in
    (rw (list, steps) (replicate_mapped saved c.args.len _), rw (list, used) (replicate_mapped last_use c.args.len _))
