use Rattle.std.proofs.Common.{List, slice_get, subst, sym}
use Rattle.packet_edits.specs.Edits.{Listing}
use Rattle.packet_edits.specs.Marks.{StoreValue}
use Rattle.packet_edits.specs.Shown.{stream_of}
use Rattle.stream_steps.specs.Decoding.{outcomes}
use Rattle.frame_session.specs.Cached.{SessionValue, lists_of, store_at}
use Rattle.frame_session.specs.Edits.{list_at}
use Rattle.frame_session.specs.IsOrNoMemory.{IsOrNoMemory}
use Rattle.frame_session.specs.Sessions.{picture_from}
use Rattle.frame_session.proofs.Stores.{list_of_store}
use Rattle.frame_session.proofs.session.Session.decoded_at.Goals as goal

pub returns-clause-returned : goal.returns-clause-returned
returns-clause-returned c =
    let s = c.self.inside in
    let source = c.args.source in
    let stores : List StoreValue = s.stores.items in
    let L : Listing → Type 0 = λ list. IsOrNoMemory (picture_from source (slice_get (outcomes s.tables (stream_of list)) c.args.place)) c.picture_at.result in
    let P : List StoreValue → Type 0 = λ all. L (store_at all source).list in
    let V : SessionValue → Type 0 = λ v. IsOrNoMemory (picture_from source (slice_get (outcomes v.state.tables (stream_of (list_at v.state.lists source))) c.args.place)) c.picture_at.result in
    let here : P stores = subst P c.deref_mut.ensures.value c.picture_at.ensures.returned in
    let listed : L (list_at (lists_of stores) source) = subst L (sym (list_of_store stores source)) here in
    subst V c.self.view_is listed
