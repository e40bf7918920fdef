use Rattle.std.proofs.Common.{◌≡◌, ◌∙◌, Some, ap, sym}
use Rattle.state_cache.specs.declared.outcomes.Kept.{Kept}
use Rattle.state_cache.specs.Views.{cached_in}
use Rattle.state_cache.proofs.Shows.{kept_answered, none_answered}
use Rattle.state_cache.proofs.cache.Cache.answer.Goals as goal
use Rattle.state_cache.proofs.cache.Cache.answer.Goals.{in-Ok, in-Err}

pub returns-in_default-clause-kept : goal.returns-in_default-clause-kept
returns-in_default-clause-kept c =
    let es = c.self.inside.kept.entries in
    rw (← c.self.view_is)
    (none_answered c.args.store.now.list.entries c.args.store.now.marks (cached_in es c.args.source) c.args.place c.id-id.result c.requires c.id-id.ensures (sym c.in_default.ensures.value))

pub returns-clause-kept : goal.returns-clause-kept
returns-clause-kept c =
    let es = c.self.inside.kept.entries in
    let found : cached_in es c.args.source c.id-id.result ≡ Some c.in-Some.kept.now = sym c.in-Some.ensures.value in
    elim c.match-again.branch [
      | in-Ok w ↦
          rw (w.result-is, ← c.self.view_is)
          (kept_answered c.args.store.now.list.entries c.args.store.now.marks (cached_in es c.args.source) c.args.place c.id-id.result w.in-Ok.kept c.requires c.id-id.ensures (found ∙ ap (λ (k : Kept). Some k) (sym w.in-Ok.ensures)))
      | in-Err w ↦ rw w.result-is tt
    ]
