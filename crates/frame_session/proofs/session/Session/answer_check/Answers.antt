use Rattle.std.proofs.Common.{◌≡◌, ◌<◌, ◌≤◌, ◌⊎◌, ◌∙◌, List, OnOk, length, ap, arith, inr, subst, sym}
use Rattle.std.specs.Io.KnownBytes.{Appends}
use Rattle.std.proofs.lemmas.Result.{on_ok_weaker}
use Rattle.packet_edits.specs.Edits.{Listing}
use Rattle.packet_edits.specs.Marks.{StoreValue}
use Rattle.frame_session.specs.declared.refusal.Refusal.TheVariants as refusals
use Rattle.frame_session.specs.Cached.{SessionValue, lists_of}
use Rattle.frame_session.specs.Edits.{list_at}
use Rattle.frame_session.specs.Questions.{check_answer}
use Rattle.frame_session.specs.Replies.{refused_line}
use Rattle.frame_session.specs.Sessions.{current_list}
use Rattle.frame_session.proofs.Listed.{check_outside, check_wrote}
use Rattle.frame_session.proofs.Stores.{found, list_of_store}
use Rattle.frame_session.proofs.session.Session.answer_check.Goals as goal
use Rattle.frame_session.proofs.session.Session.answer_check.Goals.{in-Ok, in-Err}

pub returns-then-len-first-clause-wrote : goal.returns-then-len-first-clause-wrote
returns-then-len-first-clause-wrote g c =
    let s = c.self.inside in
    let stores : List StoreValue = s.stores.items in
    let store : StoreValue = c.index-store.result.now in
    let here : store.list ≡ list_at (lists_of stores) s.current =
    ap (λ (found : StoreValue). found.list) (c.index-store.ensures ∙ found stores s.current store c.self.invariant.session.current_exists) ∙ sym (list_of_store stores s.current) in
    let r = g.W.Write.contents c.args.w.now in
    let r' = g.W.Write.contents c.write_refused.new.w in
    let L : Listing → Type 0 = λ list. OnOk c.write_refused.result (Appends r r' (check_answer s.tables list c.args.first c.args.count) ⊎ Appends r r' (refused_line refusals.NoMemory)) in
    let V : SessionValue → Type 0 = λ v. OnOk c.write_refused.result (Appends r r' (check_answer v.state.tables (current_list v.state) c.args.first c.args.count) ⊎ Appends r r' (refused_line refusals.NoMemory)) in
    let past : length store.list.entries < c.args.first = omega (arith, c.if-len-first.true, c.len-len.ensures.value) in
    let listed : L (list_at (lists_of stores) s.current) = subst L here (check_outside c.write_refused.result s.tables store.list c.args.first c.args.count r r' past c.write_refused.ensures.wrote) in
    subst V c.self.view_is listed

pub returns-clause-wrote : goal.returns-clause-wrote
returns-clause-wrote g c =
    let s = c.self.inside in
    let stores : List StoreValue = s.stores.items in
    let store : StoreValue = c.index-store.result.now in
    let here : store.list ≡ list_at (lists_of stores) s.current =
    ap (λ (found : StoreValue). found.list) (c.index-store.ensures ∙ found stores s.current store c.self.invariant.session.current_exists) ∙ sym (list_of_store stores s.current) in
    let r = g.W.Write.contents c.args.w.now in
    let r' = g.W.Write.contents c.match-check_text.w in
    let first = c.args.first in
    let count = c.args.count in
    let L : Listing → Type 0 = λ list. OnOk c.match-check_text.result (Appends r r' (check_answer s.tables list first count) ⊎ Appends r r' (refused_line refusals.NoMemory)) in
    let V : SessionValue → Type 0 = λ v. OnOk c.match-check_text.result (Appends r r' (check_answer v.state.tables (current_list v.state) first count) ⊎ Appends r r' (refused_line refusals.NoMemory)) in
    let within : first ≤ length store.list.entries = omega (arith, c.if-len-first.false, c.len-len.ensures.value) in
    let plain : L store.list = elim c.match-check_text.branch [
      | in-Ok w ↦ rw (w.result-is, w.w-is) (check_wrote w.write_whole.result s.tables store.list first count c.min-cut.result w.in-Ok.lines w.as_slice.result.now r _
          within (omega (arith, c.min-cut.ensures, c.len-len.ensures.value)) w.in-Ok.ensures.lines (w.as_slice.ensures.value ∙ w.in-Ok.ensures.text) w.write_whole.ensures.wrote)
      | in-Err w ↦ rw (w.result-is, w.w-is) (on_ok_weaker w.write_refused-in-Err.result (λ said. inr said) w.write_refused-in-Err.ensures.wrote)
    ] in
    let listed : L (list_at (lists_of stores) s.current) = subst L here plain in
    subst V c.self.view_is listed
