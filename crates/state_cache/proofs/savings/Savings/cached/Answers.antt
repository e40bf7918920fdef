use Rattle.std.proofs.Common.{◌∙◌, ℕ, List, ap, map, slice_get}
use Rattle.state_cache.specs.Evictions.{SavingsValue, last_use}
use Rattle.state_cache.proofs.LastUses.{same_use, use_of_other}
use Rattle.state_cache.proofs.savings.Savings.cached.Goals as goal

pub returns-clause-others : goal.returns-clause-others
returns-clause-others c =
    let placed = ap (λ (v : SavingsValue). map last_use v.list) c.put.ensures in
    let linked = c.set_previous.ensures.uses ∙ c.set_next.ensures.uses ∙ placed in
    λ n apart.
    same_use c.touch.new.self.list c.set_previous.new.self.list n (c.touch.ensures.others n apart)
    ∙ ap (λ (us : List ℕ). slice_get us n) linked
    ∙ use_of_other c.unlink.new.self.list c.args.index n _ apart
    ∙ ap (λ (us : List ℕ). slice_get us n) c.unlink.ensures.uses
