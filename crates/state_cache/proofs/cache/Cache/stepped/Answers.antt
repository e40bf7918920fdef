use Rattle.std.proofs.Common.{List, ℕ, Option, option_map, ap, subst, ◌∙◌}
use Rattle.state_cache.specs.declared.outcomes.Kept.{Kept}
use Rattle.reference_frames.specs.declared.states.State.{State}
use Rattle.reference_frames.specs.Steps.{StepAnswers, step_of}
use Rattle.state_cache.specs.Reaching.{state_from, view_of}
use Rattle.state_cache.specs.ProofsOnly.{AnswersAt}
use Rattle.state_cache.specs.Views.{View, cached_in, marked_packets}
use Rattle.state_cache.proofs.Shows.{bytes_shown, shows, state_told}
use Rattle.state_cache.proofs.cache.Cache.stepped.Goals as goal

pub returns-clause-gives : goal.returns-clause-gives
returns-clause-gives c =
    let es = c.args.store.now.list.entries in
    let ms = c.args.store.now.marks in
    let xs = marked_packets c.args.store.now in
    let s = shows es ms c.args.place c.requires in (
      s.packet,
      s.is,
      subst (λ (bytes : List ℕ). AnswersAt c.args.place (step_of c.args.tables.now (state_from xs (view_of c.args.source c.args.self.now) c.args.place) bytes) c.outcome_of_step.result)
          (bytes_shown es ms c.args.place s.packet c.packet-packet.result.now s.is c.packet-packet.ensures)
          (c.outcome_of_step.ensures (step_of c.args.tables.now (state_from xs (view_of c.args.source c.args.self.now) c.args.place) c.packet-packet.result.now)
          (subst (λ (state : Option State). StepAnswers (step_of c.args.tables.now state c.packet-packet.result.now) c.decode_counted-answer.result)
          (c.state_of-state.ensures ∙ ap (λ (o : Option Kept). option_map (λ (k : Kept). k.state) o) c.outcome_before-before.ensures
          ∙ state_told xs (cached_in c.self.inside.kept.entries c.args.source) c.args.place ∙ ap (λ (kept : View). state_from xs kept c.args.place) (ap (view_of c.args.source) c.self.view_is)) c.decode_counted-answer.ensures.answers)),
    )
