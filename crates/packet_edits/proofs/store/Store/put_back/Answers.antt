use Rattle.std.proofs.Common.{◌≡◌, ◌+◌, ◌<◌, ◌∙◌, Bool, List, false, length, ap, subst, sym, arith}
use Rattle.std.specs.List.{insert, remove}
use Rattle.chunked_list.specs.Moves.{moved}
use Rattle.packet_edits.specs.declared.entry.Entry.{Entry}
use Rattle.packet_edits.specs.declared.packet_index.PacketIndex.{PacketIndex}
use Rattle.packet_edits.specs.Edits.{Listing}
use Rattle.packet_edits.specs.Indexes.{moved_in, set_in}
use Rattle.packet_edits.specs.Marks.{StoreValue, marked_at, marks_inserted}
use Rattle.packet_edits.specs.Returns.{MayReturn}
use Rattle.packet_edits.proofs.Returns.{marks_put, moved_put, whole_put}
use Rattle.packet_edits.proofs.store.Store.put_back.Goals as goal

pub invariant_of-self : goal.invariant_of-self
invariant_of-self c =
    let es = c.self.inside.entries in
    let place = c.args.place in
    let at = c.args.at in
    let out : place < length es = subst (λ (v : StoreValue). place < length v.list.entries) (sym c.self.view_is) c.requires.place in
    let in_ : at < length es = subst (λ (v : StoreValue). at < length v.list.entries) (sym c.self.view_is) c.requires.at in
    let may : MayReturn c.args.entry c.self.inside.next_id (remove es place) = subst (λ (v : StoreValue). MayReturn c.args.entry v.list.next_id (remove v.list.entries place)) (sym c.self.view_is) c.requires.may in
    whole_put es c.move_to-2.new.self c.self.inside.next_id c.self.inside.marks c.mark.new.marks c.self.inside.index c.move_to.new.self c.self.invariant place at c.args.entry out in_ may
    (c.move_to-2.ensures ∙ ap (λ (xs : List Entry). moved place at xs) c.set-2.ensures)
    (c.mark.ensures ∙ ap (λ (ms : List Bool). marked_at (at + 1) ms) (c.move_to-3.ensures ∙ ap (λ (ms : List Bool). moved place at ms) c.set-3.ensures))
    (c.move_to.ensures ∙ ap (moved_in place at) (c.set.ensures ∙ ap (λ bytes. set_in place bytes c.self.inside.index) c.as_slice.ensures))

pub returns-clause-list : goal.returns-clause-list
returns-clause-list c =
    let es = c.self.inside.entries in
    let place = c.args.place in
    let at = c.args.at in
    let out : place < length es = subst (λ (v : StoreValue). place < length v.list.entries) (sym c.self.view_is) c.requires.place in
    let is : c.move_to-2.new.self ≡ insert (remove es place) at c.args.entry = c.move_to-2.ensures ∙ ap (λ (xs : List Entry). moved place at xs) c.set-2.ensures ∙ moved_put place at es c.args.entry out in
    let with : List Entry → Listing = λ xs. record { entries = xs; next_id = c.self.inside.next_id; usual = c.self.inside.usual } in
    ap with is ∙ ap (λ (v : StoreValue). record v.list { entries = insert (remove v.list.entries place) at c.args.entry }) c.self.view_is

pub returns-clause-marks : goal.returns-clause-marks
returns-clause-marks c =
    let marks = c.self.inside.marks in
    let place = c.args.place in
    let at = c.args.at in
    let out : place < length c.self.inside.entries = subst (λ (v : StoreValue). place < length v.list.entries) (sym c.self.view_is) c.requires.place in
    let same : length marks ≡ length c.self.inside.entries = c.self.invariant.marked in
    c.mark.ensures ∙ ap (λ (ms : List Bool). marked_at (at + 1) ms) (c.move_to-3.ensures ∙ ap (λ (ms : List Bool). moved place at ms) c.set-3.ensures) ∙ marks_put place at marks (omega (arith, out, same))
    ∙ ap (λ (v : StoreValue). marks_inserted at (remove v.marks place)) c.self.view_is
