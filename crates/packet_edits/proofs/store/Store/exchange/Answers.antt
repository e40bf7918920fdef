use Rattle.std.proofs.Common.{◌≡◌, ◌+◌, ◌∙◌, List, length, ap, refl, subst, sym}
use Rattle.std.specs.List.{remove}
use Rattle.packet_edits.specs.Indexes.{set_in}
use Rattle.packet_edits.specs.Marks.{StoreValue, marked_at, unmarked_at}
use Rattle.packet_edits.specs.Returns.{MayReturn}
use Rattle.packet_edits.proofs.Mapped.{length_set}
use Rattle.packet_edits.proofs.Returns.{whole_exchange}
use Rattle.packet_edits.proofs.store.Store.exchange.Goals as goal

pub invariant_of-self : goal.invariant_of-self
invariant_of-self c =
    let es = c.self.inside.entries in
    let marks = c.self.inside.marks in
    let may : MayReturn c.args.entry c.self.inside.next_id (remove es c.args.at) = subst (λ (v : StoreValue). MayReturn c.args.entry v.list.next_id (remove v.list.entries c.args.at)) (sym c.self.view_is) c.requires.may in
    whole_exchange es c.replace-old.new.self c.self.inside.next_id marks c.mark.new.marks c.self.inside.index c.set.new.self c.self.invariant c.args.at c.args.entry may c.replace-old.ensures.items
    (ap length (c.mark.ensures ∙ ap (marked_at (c.args.at + 1)) c.set-then-cuts.ensures) ∙ length_set (unmarked_at c.args.at marks) (c.args.at + 1) _ ∙ length_set marks c.args.at _)
    (c.set.ensures ∙ ap (λ bytes. set_in c.args.at bytes c.self.inside.index) c.as_slice.ensures)

pub invariant_of-self-else-cuts : goal.invariant_of-self-else-cuts
invariant_of-self-else-cuts c =
    let es = c.self.inside.entries in
    let may : MayReturn c.args.entry c.self.inside.next_id (remove es c.args.at) = subst (λ (v : StoreValue). MayReturn c.args.entry v.list.next_id (remove v.list.entries c.args.at)) (sym c.self.view_is) c.requires.may in
    whole_exchange es c.replace-old.new.self c.self.inside.next_id c.self.inside.marks c.self.inside.marks c.self.inside.index c.set.new.self c.self.invariant c.args.at c.args.entry may c.replace-old.ensures.items
    refl (c.set.ensures ∙ ap (λ bytes. set_in c.args.at bytes c.self.inside.index) c.as_slice.ensures)
