use Rattle.std.proofs.Common.{◌≡◌, ◌<◌, List, length, OnOk, arith, ap, subst, sym, ◌∙◌}
use Rattle.std.specs.Io.KnownBytes.{Appends}
use Rattle.stream_files.specs.Texts.{written_text}
use Rattle.packet_edits.specs.Edits.{Listing}
use Rattle.packet_edits.specs.Marks.{StoreValue}
use Rattle.packet_edits.specs.Saved.{restamped}
use Rattle.frame_session.specs.Cached.{SessionValue, lists_of, store_at}
use Rattle.frame_session.specs.Edits.{list_at}
use Rattle.frame_session.proofs.Stores.{found, list_of_store}
use Rattle.frame_session.proofs.session.Session.save_restamped.Goals as goal

pub returns : goal.returns
returns g c =
    let stores : List StoreValue = c.self.inside.stores.items in
    let store : StoreValue = c.index.result.now in
    let within : 0 < length stores = omega (arith, c.self.invariant.session.current_exists) in
    let own : store ≡ store_at stores 0 = c.index.ensures ∙ found stores 0 store within in
    let listed : store.list ≡ list_at (lists_of stores) 0 = ap (λ (s : StoreValue). s.list) own ∙ sym (list_of_store stores 0) in
    let P : SessionValue → Type 0 = λ v. OnOk c.save_restamped.result (Appends (g.W.Write.contents c.args.w.now) (g.W.Write.contents c.save_restamped.new.w) (written_text v.state.head (restamped c.args.pads v.state.head (list_at v.state.lists 0).entries))) in
    subst P c.self.view_is
    (subst (λ (list : Listing). OnOk c.save_restamped.result (Appends (g.W.Write.contents c.args.w.now) (g.W.Write.contents c.save_restamped.new.w) (written_text c.self.inside.head (restamped c.args.pads c.self.inside.head list.entries)))) listed c.save_restamped.ensures)
