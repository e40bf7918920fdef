use Rattle.std.proofs.Common.{◌≡◌, ◌∙◌, None, Some, Option, ℕ, ap, length, min, slice_get, sym, subst, arith, rules}
use Rattle.frame_header.specs.Tags.{key_size_of}
use Rattle.packet_edits.specs.declared.entry.Entry.{Entry}
use Rattle.packet_edits.specs.Edits.{Listing}
use Rattle.packet_edits.specs.Marks.{StoreValue}
use Rattle.packet_edits.specs.Nearest.{IsLast}
use Rattle.packet_edits.specs.Shown.{stream_of}
use Rattle.packet_edits.specs.Sizes.{key_tag_at}
use Rattle.packet_edits.proofs.Keys.{size_none, size_some}
use Rattle.packet_edits.proofs.Mapped.{get_map}
use Rattle.packet_edits.proofs.store.Store.size_at.Goals as goal

pub returns-in_err-place : goal.returns-in_err-place
returns-in_err-place c =
    let list : Listing = record { entries = c.self.inside.entries; next_id = c.self.inside.next_id; usual = c.self.inside.usual } in
    let is : c.min-end.result ≡ min c.args.at (length c.self.inside.entries) = search (rules, arith) in
    let found : IsLast (key_tag_at (stream_of list)) 0 c.min-end.result c.last_key.result = subst (λ (s : StoreValue). IsLast (key_tag_at (stream_of s.list)) 0 c.min-end.result c.last_key.result) (sym c.self.view_is) c.last_key.ensures in
    let none : c.last_key.result ≡ None = search rules in
    let told : c.from_residual.result ≡ None = search rules in
    rw (← c.self.view_is) (told ∙ sym (size_none list c.args.at c.min-end.result is (subst (λ (r : Option ℕ). IsLast (key_tag_at (stream_of list)) 0 c.min-end.result r) none found)))

pub returns : goal.returns
returns c =
    let list : Listing = record { entries = c.self.inside.entries; next_id = c.self.inside.next_id; usual = c.self.inside.usual } in
    let is : c.min-end.result ≡ min c.args.at (length c.self.inside.entries) = search (rules, arith) in
    let found : IsLast (key_tag_at (stream_of list)) 0 c.min-end.result c.last_key.result = subst (λ (s : StoreValue). IsLast (key_tag_at (stream_of s.list)) 0 c.min-end.result c.last_key.result) (sym c.self.view_is) c.last_key.ensures in
    let some : c.last_key.result ≡ Some c.in_ok-place.place = search rules in
    let here : slice_get (stream_of list) c.in_ok-place.place ≡ Some c.get.result.now.bytes = get_map (λ (e : Entry). e.bytes) c.self.inside.entries c.in_ok-place.place c.get.result.now c.get.ensures in
    let told : c.key_size.result ≡ key_size_of c.get.result.now.bytes = c.key_size.ensures ∙ ap key_size_of c.as_slice.ensures in
    rw (← c.self.view_is) (told ∙ sym (size_some list c.args.at c.min-end.result c.in_ok-place.place c.get.result.now.bytes is (subst (λ (r : Option ℕ). IsLast (key_tag_at (stream_of list)) 0 c.min-end.result r) some found) here))
