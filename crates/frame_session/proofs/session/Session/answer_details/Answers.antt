use Rattle.std.proofs.Common.{◌≡◌, ◌≤◌, ◌⊎◌, ◌∙◌, List, OnOk, length, ap, arith, subst, sym}
use Rattle.std.specs.Io.KnownBytes.{Appends}
use Rattle.packet_edits.specs.Edits.{Listing}
use Rattle.packet_edits.specs.Marks.{StoreValue}
use Rattle.frame_session.specs.declared.refusal.Refusal.TheVariants as refusals
use Rattle.frame_session.specs.Cached.{SessionValue, lists_of}
use Rattle.frame_session.specs.Edits.{list_at}
use Rattle.frame_session.specs.Questions.{detail_answer}
use Rattle.frame_session.specs.Replies.{refused_line}
use Rattle.frame_session.specs.Sessions.{current_list}
use Rattle.frame_session.proofs.Listed.{detail_outside}
use Rattle.frame_session.proofs.Stores.{found, list_of_store}
use Rattle.frame_session.proofs.session.Session.answer_details.Goals as goal

pub returns-then-len-at-clause-wrote : goal.returns-then-len-at-clause-wrote
returns-then-len-at-clause-wrote g c =
    let s = c.self.inside in
    let stores : List StoreValue = s.stores.items in
    let store : StoreValue = c.index-store.result.now in
    let here : store.list ≡ list_at (lists_of stores) s.current =
    ap (λ (found : StoreValue). found.list) (c.index-store.ensures ∙ found stores s.current store c.self.invariant.session.current_exists) ∙ sym (list_of_store stores s.current) in
    let r = g.W.Write.contents c.args.w.now in
    let r' = g.W.Write.contents c.write_refused.new.w in
    let L : Listing → Type 0 = λ list. OnOk c.write_refused.result (Appends r r' (detail_answer c.args.what s.tables list c.args.at) ⊎ Appends r r' (refused_line refusals.NoMemory)) in
    let V : SessionValue → Type 0 = λ v. OnOk c.write_refused.result (Appends r r' (detail_answer c.args.what v.state.tables (current_list v.state) c.args.at) ⊎ Appends r r' (refused_line refusals.NoMemory)) in
    let past : length store.list.entries ≤ c.args.at = omega (arith, c.if-len-at.true, c.len.ensures.value) in
    let listed : L (list_at (lists_of stores) s.current) = subst L here (detail_outside c.write_refused.result c.args.what s.tables store.list c.args.at r r' past c.write_refused.ensures.wrote) in
    subst V c.self.view_is listed
