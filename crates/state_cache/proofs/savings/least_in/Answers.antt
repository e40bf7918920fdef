use Rattle.std.proofs.Common.{◌<◌, length, arith, rules}
use Rattle.state_cache.proofs.Least.{passed_searched, saving_there, taken_searched}
use Rattle.state_cache.proofs.savings.least_in.Goals as goal
use Rattle.state_cache.proofs.savings.least_in.Goals.{then-is_less, else-is_less}

pub loop-index-preserved : goal.loop-index-preserved
loop-index-preserved c =
    let worth = c.worth-worth.ensures in
    let l = c.loop-index in
    let inside : l.index < length c.args.savings.now = search (rules, arith) in
    let there = saving_there c.args.savings.now l.index (record { used = 0; before = 0; after = 0; previous = 0; next = 0 }) inside in
    elim c.if-is_less.branch [
      | then-is_less w ↦
          rw (w.least-is) (taken_searched c.args.savings.now c.args.uses l.index l.least.victim l.least.worth.saved l.least.worth.age l.invariant _ there c.worth-worth.result.saved c.worth-worth.result.age worth.saved worth.age (c.is_less.ensures.0 w.if-is_less.true))
      | else-is_less w ↦
          rw (w.least-is) (passed_searched c.args.savings.now c.args.uses l.index l.least.victim l.least.worth.saved l.least.worth.age l.invariant _ there c.worth-worth.result.saved c.worth-worth.result.age worth.saved worth.age (λ less. let yes = c.is_less.ensures.1 less in let no = w.if-is_less.false in cc))
    ]
