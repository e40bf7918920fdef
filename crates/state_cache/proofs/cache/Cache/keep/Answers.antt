use Rattle.std.proofs.Common.{◌∙◌, ◌-◌, ℕ, Option, ap, arith, subst}
use Rattle.state_cache.specs.Bytes.{bytes_in}
use Rattle.state_cache.specs.declared.outcomes.Kept.{Kept}
use Rattle.state_cache.specs.Views.{Drops, cached_in}
use Rattle.state_cache.proofs.Entries.{with_other, with_own}
use Rattle.state_cache.proofs.Evicted.{evicted, inserted, victim_within}
use Rattle.state_cache.proofs.KeptWithin.{Fits, kept_within, others_counted}
use Rattle.state_cache.proofs.cache.Cache.keep.Goals as goal

pub evict-evicted-requires : goal.evict-evicted-requires
evict-evicted-requires c =
    let put = inserted c.self.inside.kept.entries c.insert_full.new.self.entries c.args.key c.args.new c.in-Ok.replaced c.in-Ok.ensures.updates.0 c.in-Ok.ensures.old c.in-Ok.ensures.len c.in-Ok.ensures.entries in
    victim_within c.touch_any.new.self c.self.inside.kept.entries c.insert_full.new.self.entries c.args.key c.args.new c.self.inside.capacity.states c.self.invariant.0 put c.victim_of-victim.result c.victim_of-victim.ensures

pub shed-self-inside-requires-clause-savings : goal.shed-self-inside-requires-clause-savings
shed-self-inside-requires-clause-savings c =
    let es = c.self.inside.kept.entries in
    let k = c.args.key in
    let put = inserted es c.insert_full.new.self.entries k c.args.new c.in-Ok.replaced c.in-Ok.ensures.updates.0 c.in-Ok.ensures.old c.in-Ok.ensures.len c.in-Ok.ensures.entries in
    let gone = evicted c.touch_any.new.self es c.insert_full.new.self.entries k c.args.new c.self.inside.capacity.states c.self.invariant.0 put c.evict-evicted.new.kept.entries c.victim_of-victim.result c.victim_of-victim.ensures c.evict-evicted.ensures.without in
    let few = gone.bounded in
    let wide = c.self.invariant.2 in
    let touched = c.touch_any.ensures.len in
    let cached = c.cached.ensures.len in
    let dropped = c.evict-evicted.ensures.savings in
    omega (arith, few, wide, touched, cached, dropped)

pub shed-self-inside-requires-clause-newest : goal.shed-self-inside-requires-clause-newest
shed-self-inside-requires-clause-newest c =
    let es = c.self.inside.kept.entries in
    let k = c.args.key in
    let put = inserted es c.insert_full.new.self.entries k c.args.new c.in-Ok.replaced c.in-Ok.ensures.updates.0 c.in-Ok.ensures.old c.in-Ok.ensures.len c.in-Ok.ensures.entries in
    let gone = evicted c.touch_any.new.self es c.insert_full.new.self.entries k c.args.new c.self.inside.capacity.states c.self.invariant.0 put c.evict-evicted.new.kept.entries c.victim_of-victim.result c.victim_of-victim.ensures c.evict-evicted.ensures.without in
    (c.args.new, gone.kept, c.outcome_bytes-bytes.ensures.value)

pub shed-self-inside-requires-clause-counted : goal.shed-self-inside-requires-clause-counted
shed-self-inside-requires-clause-counted c =
    let es = c.self.inside.kept.entries in
    let k = c.args.key in
    let put = inserted es c.insert_full.new.self.entries k c.args.new c.in-Ok.replaced c.in-Ok.ensures.updates.0 c.in-Ok.ensures.old c.in-Ok.ensures.len c.in-Ok.ensures.entries in
    let gone = evicted c.touch_any.new.self es c.insert_full.new.self.entries k c.args.new c.self.inside.capacity.states c.self.invariant.0 put c.evict-evicted.new.kept.entries c.victim_of-victim.result c.victim_of-victim.ensures c.evict-evicted.ensures.without in
    others_counted es c.insert_full.new.self.entries c.evict-evicted.new.kept.entries k c.args.new c.in-Ok.replaced c.evict-evicted.result put c.in-Ok.ensures.old c.evict-evicted.ensures.bytes
    c.self.inside.capacity.bytes c.self.inside.bytes c.saturating_sub-others.result c.outcome_bytes-bytes.result c.self.invariant.3 gone.kept c.outcome_bytes-bytes.ensures.value
    (c.saturating_sub-others.ensures ∙ ap (λ (n : ℕ). n - c.bytes_in-in-Ok.result) (c.saturating_sub.ensures ∙ ap (λ (n : ℕ). c.self.inside.bytes - n) c.bytes_in.ensures.value)
    ∙ ap (λ (n : ℕ). c.self.inside.bytes - bytes_in c.in-Ok.replaced - n) c.bytes_in-in-Ok.ensures.value)

pub returns-in-Ok-clause-drops : goal.returns-in-Ok-clause-drops
returns-in-Ok-clause-drops c =
    let es = c.self.inside.kept.entries in
    let k = c.args.key in
    let put = inserted es c.insert_full.new.self.entries k c.args.new c.in-Ok.replaced c.in-Ok.ensures.updates.0 c.in-Ok.ensures.old c.in-Ok.ensures.len c.in-Ok.ensures.entries in
    let gone = evicted c.touch_any.new.self es c.insert_full.new.self.entries k c.args.new c.self.inside.capacity.states c.self.invariant.0 put c.evict-evicted.new.kept.entries c.victim_of-victim.result c.victim_of-victim.ensures c.evict-evicted.ensures.without in
    let after = kept_within es c.insert_full.new.self.entries c.evict-evicted.new.kept.entries k c.args.new c.in-Ok.replaced c.evict-evicted.result put c.in-Ok.ensures.old c.evict-evicted.ensures.bytes c.self.inside.capacity gone c.shed-self-inside.new.kept.entries c.shed-self-inside.ensures.shed c.shed-self-inside.ensures.fits in
    rw (← c.self.view_is) (λ q.
    subst (λ (o : Option Kept). Drops (cached_in c.shed-self-inside.new.kept.entries k.source q) o) (with_own es k c.args.new q) (after.drops (record { source = k.source; id = q })))

pub returns-in-Ok-clause-others : goal.returns-in-Ok-clause-others
returns-in-Ok-clause-others c =
    let es = c.self.inside.kept.entries in
    let k = c.args.key in
    let put = inserted es c.insert_full.new.self.entries k c.args.new c.in-Ok.replaced c.in-Ok.ensures.updates.0 c.in-Ok.ensures.old c.in-Ok.ensures.len c.in-Ok.ensures.entries in
    let gone = evicted c.touch_any.new.self es c.insert_full.new.self.entries k c.args.new c.self.inside.capacity.states c.self.invariant.0 put c.evict-evicted.new.kept.entries c.victim_of-victim.result c.victim_of-victim.ensures c.evict-evicted.ensures.without in
    let after = kept_within es c.insert_full.new.self.entries c.evict-evicted.new.kept.entries k c.args.new c.in-Ok.replaced c.evict-evicted.result put c.in-Ok.ensures.old c.evict-evicted.ensures.bytes c.self.inside.capacity gone c.shed-self-inside.new.kept.entries c.shed-self-inside.ensures.shed c.shed-self-inside.ensures.fits in
    rw (← c.self.view_is) (λ other q apart.
    subst (λ (o : Option Kept). Drops (cached_in c.shed-self-inside.new.kept.entries other q) o) (with_other es k c.args.new other q apart) (after.drops (record { source = other; id = q })))

pub returns-in-Ok-clause-kept : goal.returns-in-Ok-clause-kept
returns-in-Ok-clause-kept c =
    let es = c.self.inside.kept.entries in
    let k = c.args.key in
    let put = inserted es c.insert_full.new.self.entries k c.args.new c.in-Ok.replaced c.in-Ok.ensures.updates.0 c.in-Ok.ensures.old c.in-Ok.ensures.len c.in-Ok.ensures.entries in
    let gone = evicted c.touch_any.new.self es c.insert_full.new.self.entries k c.args.new c.self.inside.capacity.states c.self.invariant.0 put c.evict-evicted.new.kept.entries c.victim_of-victim.result c.victim_of-victim.ensures c.evict-evicted.ensures.without in
    let after = kept_within es c.insert_full.new.self.entries c.evict-evicted.new.kept.entries k c.args.new c.in-Ok.replaced c.evict-evicted.result put c.in-Ok.ensures.old c.evict-evicted.ensures.bytes c.self.inside.capacity gone c.shed-self-inside.new.kept.entries c.shed-self-inside.ensures.shed c.shed-self-inside.ensures.fits in
    after.kept

pub returns-in-Ok-clause-room : goal.returns-in-Ok-clause-room
returns-in-Ok-clause-room c =
    let es = c.self.inside.kept.entries in
    let k = c.args.key in
    let put = inserted es c.insert_full.new.self.entries k c.args.new c.in-Ok.replaced c.in-Ok.ensures.updates.0 c.in-Ok.ensures.old c.in-Ok.ensures.len c.in-Ok.ensures.entries in
    let gone = evicted c.touch_any.new.self es c.insert_full.new.self.entries k c.args.new c.self.inside.capacity.states c.self.invariant.0 put c.evict-evicted.new.kept.entries c.victim_of-victim.result c.victim_of-victim.ensures c.evict-evicted.ensures.without in
    let after = kept_within es c.insert_full.new.self.entries c.evict-evicted.new.kept.entries k c.args.new c.in-Ok.replaced c.evict-evicted.result put c.in-Ok.ensures.old c.evict-evicted.ensures.bytes c.self.inside.capacity gone c.shed-self-inside.new.kept.entries c.shed-self-inside.ensures.shed c.shed-self-inside.ensures.fits in
    rw (← c.self.view_is) (λ room.
    let fits : Fits es k c.args.new c.self.inside.capacity = record { states = room.states; bytes = room.bytes } in
    record {
      number = after.room_number fits;
      others = λ q. after.room_others fits (record { source = k.source; id = q }) ∙ with_own es k c.args.new q;
      other_sources = λ other q apart. after.room_others fits (record { source = other; id = q }) ∙ with_other es k c.args.new other q apart;
    })

pub returns-in-Ok-clause-number : goal.returns-in-Ok-clause-number
returns-in-Ok-clause-number c =
    let es = c.self.inside.kept.entries in
    let k = c.args.key in
    let put = inserted es c.insert_full.new.self.entries k c.args.new c.in-Ok.replaced c.in-Ok.ensures.updates.0 c.in-Ok.ensures.old c.in-Ok.ensures.len c.in-Ok.ensures.entries in
    let gone = evicted c.touch_any.new.self es c.insert_full.new.self.entries k c.args.new c.self.inside.capacity.states c.self.invariant.0 put c.evict-evicted.new.kept.entries c.victim_of-victim.result c.victim_of-victim.ensures c.evict-evicted.ensures.without in
    let after = kept_within es c.insert_full.new.self.entries c.evict-evicted.new.kept.entries k c.args.new c.in-Ok.replaced c.evict-evicted.result put c.in-Ok.ensures.old c.evict-evicted.ensures.bytes c.self.inside.capacity gone c.shed-self-inside.new.kept.entries c.shed-self-inside.ensures.shed c.shed-self-inside.ensures.fits in
    rw (← c.self.view_is) after.number

pub invariant_of-self : goal.invariant_of-self
invariant_of-self c =
    let es = c.self.inside.kept.entries in
    let k = c.args.key in
    let put = inserted es c.insert_full.new.self.entries k c.args.new c.in-Ok.replaced c.in-Ok.ensures.updates.0 c.in-Ok.ensures.old c.in-Ok.ensures.len c.in-Ok.ensures.entries in
    let gone = evicted c.touch_any.new.self es c.insert_full.new.self.entries k c.args.new c.self.inside.capacity.states c.self.invariant.0 put c.evict-evicted.new.kept.entries c.victim_of-victim.result c.victim_of-victim.ensures c.evict-evicted.ensures.without in
    let after = kept_within es c.insert_full.new.self.entries c.evict-evicted.new.kept.entries k c.args.new c.in-Ok.replaced c.evict-evicted.result put c.in-Ok.ensures.old c.evict-evicted.ensures.bytes c.self.inside.capacity gone c.shed-self-inside.new.kept.entries c.shed-self-inside.ensures.shed c.shed-self-inside.ensures.fits in
    let wide = c.self.invariant.2 in
    let touched = c.touch_any.ensures.len in
    let cached = c.cached.ensures.len in
    let dropped = c.evict-evicted.ensures.savings in
    let shed = c.shed-self-inside.ensures.savings in
    (after.bounded, c.self.invariant.1, omega (arith, wide, touched, cached, dropped, shed), c.shed-self-inside.ensures.counted)
