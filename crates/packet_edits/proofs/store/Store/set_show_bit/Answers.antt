use Rattle.std.specs.Prelude.{Some, option_map, slice_get}
use Rattle.std.proofs.Common.{refl, sym, ap, subst, ◌≡◌, ◌∙◌}
use Rattle.packet_edits.specs.Edits.{showing}
use Rattle.packet_edits.specs.Indexes.{set_in}
use Rattle.packet_edits.specs.Marks.{StoreValue}
use Rattle.packet_edits.proofs.Whole.{whole_showing}
use Rattle.packet_edits.proofs.store.Store.set_show_bit.Goals as goal

pub invariant_of-self : goal.invariant_of-self
invariant_of-self c =
    whole_showing c.self.inside.entries c.set-2.new.self c.self.inside.next_id c.self.inside.marks c.self.inside.marks c.self.inside.index c.set.new.self c.self.invariant c.args.at c.args.shown c.in_ok-entry.entry
    (subst (λ (v : StoreValue). option_map (showing c.args.shown) (slice_get v.list.entries c.args.at) ≡ Some c.in_ok-entry.entry) (sym c.self.view_is) c.in_ok-entry.ensures.copy)
    c.set-2.ensures refl (c.set.ensures ∙ ap (λ bytes. set_in c.args.at bytes c.self.inside.index) c.as_slice.ensures)
