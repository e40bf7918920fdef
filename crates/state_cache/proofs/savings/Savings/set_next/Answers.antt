use Rattle.std.proofs.Common.{◌∙◌, ap, map, slice_get}
use Rattle.state_cache.specs.Evictions.{SavingsValue, last_use}
use Rattle.state_cache.proofs.LastUses.{same_last_use, same_uses}
use Rattle.state_cache.proofs.savings.Savings.set_next.Goals as goal

pub returns-clause-uses : goal.returns-clause-uses
returns-clause-uses c =
    let same = same_last_use (slice_get c.args.self.now.list c.args.index) c.saving_at-saving.result c.saving_at-saving.ensures in
    ap (λ (v : SavingsValue). map last_use v.list) c.put.ensures ∙ same_uses c.args.self.now.list c.args.index _ same
