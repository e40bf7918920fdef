use Rattle.std.proofs.Common.{◌≡◌, ◌∙◌, Some, None, ap, rules}
use Rattle.state_cache.specs.declared.outcomes.Kept.{Kept}
use Rattle.state_cache.specs.Views.{cached_in}
use Rattle.state_cache.proofs.cache.Cache.converges.Goals as goal

pub returns-in-Some-clause-converges_with_same : goal.returns-in-Some-clause-converges_with_same
returns-in-Some-clause-converges_with_same c =
    let is : cached_in c.self.inside.kept.entries c.args.key.source c.args.key.id ≡ Some c.in-Some.old.now = search rules in
    rw (← c.self.view_is) (λ old found same. let here : c.in-Some.old.now ≡ old = cc in c.same_state.ensures.1 (ap (λ (k : Kept). k.state) here ∙ same))

pub returns-in-None-clause-converges_with_same : goal.returns-in-None-clause-converges_with_same
returns-in-None-clause-converges_with_same c =
    let is : cached_in c.self.inside.kept.entries c.args.key.source c.args.key.id ≡ None = search rules in
    rw (← c.self.view_is) (λ old found same. cc)
