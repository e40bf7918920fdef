use Rattle.std.proofs.Common.{◌≡◌, ◌+◌, ◌<◌, ◌≤◌, ◌∙◌, Bool, List, ℕ, false, ap, length, subst, sym, arith, rules}
use Rattle.std.specs.List.{insert, remove}
use Rattle.packet_edits.specs.declared.entry.Entry.{Entry}
use Rattle.packet_edits.specs.Indexes.{inserted_to, removed_from}
use Rattle.packet_edits.specs.Marks.{StoreValue}
use Rattle.packet_edits.specs.Returns.{MayReturn, vacant}
use Rattle.packet_edits.proofs.Indexed.{index_back}
use Rattle.packet_edits.proofs.Mapped.{remove_inserted}
use Rattle.packet_edits.proofs.Returns.{whole_return}
use Rattle.packet_edits.proofs.Whole.{whole_same}
use Rattle.packet_edits.proofs.store.Store.make_place.Goals as goal

pub invariant_of-self-in-Ok-insert-2 : goal.invariant_of-self-in-Ok-insert-2
invariant_of-self-in-Ok-insert-2 c =
    let es = c.self.inside.entries in
    let end = c.len-end.result in
    let place = c.vacant-vacant.result in
    let is : end ≡ length es = c.len-end.ensures in
    let few : length es < 1048576 = subst (λ (v : StoreValue). length v.list.entries < 1048576) (sym c.self.view_is) c.requires.few in
    let may : MayReturn c.args.entry.now c.self.inside.next_id es = subst (λ (v : StoreValue). MayReturn c.args.entry.now v.list.next_id v.list.entries) (sym c.self.view_is) c.requires.may in
    let may' : MayReturn place c.self.inside.next_id es = subst (λ (e : Entry). MayReturn e c.self.inside.next_id es) (sym c.vacant-vacant.ensures) (record { below = may.below; away = may.away }) in
    whole_return es c.insert-3.new.self c.self.inside.next_id c.self.inside.marks c.insert.new.self c.self.inside.index c.insert-2.new.self c.self.invariant end place (omega (arith, is)) few may'
    c.in-Ok-insert-2.ensures c.in-Ok.ensures (c.in-Ok-insert.ensures ∙ ap (λ bytes. inserted_to end bytes c.self.inside.index) c.as_slice.ensures)

pub invariant_of-self-in_default-insert-2 : goal.invariant_of-self-in_default-insert-2
invariant_of-self-in_default-insert-2 c =
    let es = c.self.inside.entries in
    let index = c.self.inside.index in
    let marks = c.self.inside.marks in
    let end = c.len-end.result in
    let is : end ≡ length es = c.len-end.ensures in
    let same : length marks ≡ length es = c.self.invariant.marked in
    whole_same es c.insert-3.new.self c.self.inside.next_id marks c.remove-in_default-insert-2-2.new.self index c.remove-in_default-insert-2.new.self c.self.invariant c.in_default-insert-2.ensures
    (c.remove-in_default-insert-2-2.ensures ∙ ap (λ (bs : List Bool). remove bs end) c.in-Ok.ensures ∙ remove_inserted marks end false (omega (arith, is, same)))
    (c.remove-in_default-insert-2.ensures ∙ ap (removed_from end) c.in-Ok-insert.ensures ∙ index_back es index end c.as_slice.result.now c.self.invariant.indexed (omega (arith, is)))

pub returns-in_default-insert-2-clause-marks : goal.returns-in_default-insert-2-clause-marks
returns-in_default-insert-2-clause-marks c =
    let marks = c.self.inside.marks in
    let end = c.len-end.result in
    let is : end ≡ length c.self.inside.entries = c.len-end.ensures in
    let same : length marks ≡ length c.self.inside.entries = c.self.invariant.marked in
    rw (← c.self.view_is) (c.remove-in_default-insert-2-2.ensures ∙ ap (λ (bs : List Bool). remove bs end) c.in-Ok.ensures ∙ remove_inserted marks end false (omega (arith, is, same)))
