use Rattle.std.proofs.Common.{◌<◌, ◌∙◌, ap, length, arith, rules}
use Rattle.packet_edits.specs.Marks.{marked_at}
use Rattle.packet_edits.proofs.Whole.{whole_remove}
use Rattle.packet_edits.proofs.store.Store.take.Goals as goal

pub invariant_of-self : goal.invariant_of-self
invariant_of-self c =
    let es = c.self.inside.entries in
    let within : c.args.at < length es = search (rules, arith) in
    whole_remove es c.remove-entry.new.self c.self.inside.next_id c.self.inside.marks c.mark.new.marks c.self.inside.index c.remove.new.self c.self.invariant c.args.at within c.remove-entry.ensures.items
    (c.mark.ensures ∙ ap (marked_at c.args.at) c.remove-2.ensures) c.remove.ensures
