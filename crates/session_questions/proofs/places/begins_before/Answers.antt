use Rattle.std.proofs.Common.{ℕ, ap, sym, ◌∙◌}
use Rattle.stream_facts.specs.Facts.{end_of_record}
use Rattle.session_questions.proofs.Steps.{begins_next}
use Rattle.session_questions.proofs.places.begins_before.Goals as goal

pub loop-place-preserved : goal.loop-place-preserved
loop-place-preserved c =
    c.end_of_record-begins.ensures ∙ ap (λ (n : ℕ). end_of_record n c.packet.result.now) c.loop-place.invariant
    ∙ sym (begins_next c.args.store.now.list c.loop-place.place c.packet.result.now c.packet.ensures)
