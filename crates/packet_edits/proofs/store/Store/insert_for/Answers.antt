use Rattle.std.proofs.Common.{◌≡◌, ◌+◌, ◌<◌, ◌≤◌, ◌∙◌, Bool, List, false, ap, length, arith, rules}
use Rattle.std.specs.List.{remove}
use Rattle.packet_edits.specs.Indexes.{inserted_to, removed_from}
use Rattle.packet_edits.specs.Marks.{marked_at}
use Rattle.packet_edits.proofs.Indexed.{index_back}
use Rattle.packet_edits.proofs.Mapped.{remove_inserted}
use Rattle.packet_edits.proofs.Whole.{whole_insert, whole_same}
use Rattle.packet_edits.proofs.store.Store.insert_for.Goals as goal

pub returns-in_default-insert-clause-marks : goal.returns-in_default-insert-clause-marks
returns-in_default-insert-clause-marks c =
    let es = c.self.inside.entries in
    let marks = c.self.inside.marks in
    let within : c.args.at ≤ length es = search (rules, arith) in
    let same : length marks ≡ length es = c.self.invariant.marked in
    rw (← c.self.view_is) (c.remove.ensures ∙ ap (λ (bs : List Bool). remove bs c.args.at) c.in-Ok.ensures ∙ remove_inserted marks c.args.at false (omega (arith, within, same)))

pub invariant_of-self-in_default-insert-2 : goal.invariant_of-self-in_default-insert-2
invariant_of-self-in_default-insert-2 c =
    let es = c.self.inside.entries in
    let index = c.self.inside.index in
    let marks = c.self.inside.marks in
    let within : c.args.at ≤ length es = search (rules, arith) in
    let same : length marks ≡ length es = c.self.invariant.marked in
    whole_same es c.insert-3.new.self c.self.inside.next_id marks c.remove-in_default-insert-2-2.new.self index c.remove-in_default-insert-2.new.self c.self.invariant c.in_default-insert-2.ensures
    (c.remove-in_default-insert-2-2.ensures ∙ ap (λ (bs : List Bool). remove bs c.args.at) c.in-Ok.ensures ∙ remove_inserted marks c.args.at false (omega (arith, within, same)))
    (c.remove-in_default-insert-2.ensures ∙ ap (removed_from c.args.at) c.in-Ok-insert.ensures ∙ index_back es index c.args.at c.as_slice.result.now c.self.invariant.indexed within)

pub returns-in_default-insert-2-clause-marks : goal.returns-in_default-insert-2-clause-marks
returns-in_default-insert-2-clause-marks c =
    let es = c.self.inside.entries in
    let marks = c.self.inside.marks in
    let within : c.args.at ≤ length es = search (rules, arith) in
    let same : length marks ≡ length es = c.self.invariant.marked in
    rw (← c.self.view_is) (c.remove-in_default-insert-2-2.ensures ∙ ap (λ (bs : List Bool). remove bs c.args.at) c.in-Ok.ensures ∙ remove_inserted marks c.args.at false (omega (arith, within, same)))

pub invariant_of-self-2 : goal.invariant_of-self-2
invariant_of-self-2 c =
    let es = c.self.inside.entries in
    let within : c.args.at ≤ length es = search (rules, arith) in
    let few : length es < 1048576 = search (rules, arith) in
    whole_insert es c.insert-3.new.self c.self.inside.next_id c.self.inside.marks c.mark.new.marks c.self.inside.index c.insert-2.new.self c.self.invariant c.args.at c.args.stamp c.args.duration c.args.bytes within few
    c.in-Ok-insert-2.ensures (c.mark.ensures ∙ ap (marked_at (c.args.at + 1)) c.in-Ok.ensures) (c.in-Ok-insert.ensures ∙ ap (λ bytes. inserted_to c.args.at bytes c.self.inside.index) c.as_slice.ensures)
