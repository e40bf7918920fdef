use Rattle.std.proofs.Common.{◌∙◌, ℕ, ap, sym}
use Rattle.state_cache.specs.declared.outcomes.PacketKey.{PacketKey}
use Rattle.state_cache.specs.Views.{cached_in}
use Rattle.state_cache.proofs.Entries.{dropped_other, dropped_own}
use Rattle.state_cache.proofs.cache.Cache.edited.Goals as goal

abbrev key : ℕ → ℕ → PacketKey
key source id = record { source = source; id = id }

pub returns-clause-dropped : goal.returns-clause-dropped
returns-clause-dropped c =
    let es = c.self.inside.kept.entries in
    let k : PacketKey = key c.args.source c.args.id in
    c.remove-dropped.ensures.without k ∙ dropped_own k (cached_in es c.args.source c.args.id)

pub returns-clause-others : goal.returns-clause-others
returns-clause-others c =
    let es = c.self.inside.kept.entries in
    let k : PacketKey = key c.args.source c.args.id in
    rw (← c.self.view_is) (λ q other. c.remove-dropped.ensures.without (key c.args.source q)
    ∙ dropped_other k (key c.args.source q) (cached_in es c.args.source q) (λ same. other (sym (ap (λ (x : PacketKey). x.id) same))))

pub returns-clause-other_sources : goal.returns-clause-other_sources
returns-clause-other_sources c =
    let es = c.self.inside.kept.entries in
    let k : PacketKey = key c.args.source c.args.id in
    rw (← c.self.view_is) (λ other q apart. c.remove-dropped.ensures.without (key other q)
    ∙ dropped_other k (key other q) (cached_in es other q) (λ same. apart (sym (ap (λ (x : PacketKey). x.source) same))))
