use Rattle.std.proofs.Common.{◌+◌, ◌∙◌, ap}
use Rattle.packet_edits.specs.Indexes.{set_in}
use Rattle.packet_edits.specs.Marks.{marked_at}
use Rattle.packet_edits.proofs.Whole.{whole_set}
use Rattle.packet_edits.proofs.store.Store.replace.Goals as goal

pub invariant_of-self : goal.invariant_of-self
invariant_of-self c =
    let es = c.self.inside.entries in
    whole_set es c.set-2.new.self c.self.inside.next_id c.self.inside.marks c.mark.new.marks c.self.inside.index c.set.new.self c.self.invariant c.args.at c.get-old.result.now.stamp c.get-old.result.now.duration c.args.bytes c.set-2.ensures
    (c.mark.ensures ∙ ap (marked_at (c.args.at + 1)) c.set-3.ensures) (c.set.ensures ∙ ap (λ bytes. set_in c.args.at bytes c.self.inside.index) c.as_slice.ensures)
