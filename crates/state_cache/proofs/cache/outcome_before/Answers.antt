use Rattle.std.proofs.Common.{◌<◌, ◌∙◌, sym, arith, rules}
use Rattle.state_cache.specs.Views.{cached_in}
use Rattle.state_cache.proofs.Shows.{outcome_told}
use Rattle.state_cache.proofs.cache.outcome_before.Goals as goal

pub returns : goal.returns
returns c =
    let some : 0 < c.args.place = search (rules, arith) in
    (c.get.ensures.value ∙ outcome_told c.args.store.now.list.entries c.args.store.now.marks (cached_in c.args.kept.now.entries c.args.source) c.args.place c.id-id.result some c.requires (sym c.has_key.ensures ∙ c.if-has_key.false) c.id-id.ensures)
