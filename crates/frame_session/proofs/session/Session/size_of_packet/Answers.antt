use Rattle.std.proofs.Common.{◌≡◌, ◌<◌, ◌+◌, ◌∙◌, ℕ, List, [], Option, length, slice_index_or, ap, subst, sym, rules}
use Rattle.std.specs.Prelude.{IfSome, unwrap_or}
use Rattle.frame_header.specs.Tags.{key_size_of}
use Rattle.packet_edits.specs.Shown.{stream_of}
use Rattle.stream_refusals.specs.Refusals.{HaveNoCause, run_start}
use Rattle.frame_session.specs.Cached.{SessionValue, store_at}
use Rattle.frame_session.specs.Edits.{list_at}
use Rattle.frame_session.specs.Exported.{HasPicture}
use Rattle.frame_session.specs.Sessions.{SessionState}
use Rattle.frame_session.proofs.AcceptedFrames.{IsAccepted, accepted_before, picture_has, store-is, stream_in, within-is}
use Rattle.frame_session.proofs.session.Session.size_of_packet.Goals as goal

pub break_at-requires-clause-before : goal.break_at-requires-clause-before
break_at-requires-clause-before c =
    let now : SessionState = c.args.self.now.state in
    let source : ℕ = c.args.source in
    let inside : source < length c.self.inside.stores.items = subst (λ (v : SessionValue). source < length v.stores) (sym c.self.view_is) c.requires.source in
    let at : c.index-list.result.now ≡ slice_index_or c.self.inside.stores.items source c.index-list.result.now = search rules in
    let streams : stream_of c.index-list.result.now.list ≡ stream_in now source = store-is c.self.inside.stores.items source c.index-list.result.now inside at ∙ ap (λ (v : SessionValue). stream_of (list_at v.state.lists source)) c.self.view_is in
    let P : List (List ℕ) → Type 0 = λ packets. IfSome c.index_in.result (λ earlier. HaveNoCause packets (run_start packets earlier) (earlier + 1)) in
    subst P (sym streams) (subst (λ (o : Option ℕ). IfSome o (IsAccepted (stream_in now source))) (sym c.index_in.ensures) (accepted_before c.refusals_are_by_bytes.ensures.accepted now c.args.before source c.requires.before))

pub returns-in-None-clause-accepted : goal.returns-in-None-clause-accepted
returns-in-None-clause-accepted c =
    let now : SessionState = c.args.self.now.state in
    let source : ℕ = c.args.source in
    let place : ℕ = c.args.place in
    let inside : source < length c.self.inside.stores.items = subst (λ (v : SessionValue). source < length v.stores) (sym c.self.view_is) c.requires.source in
    let at : c.index-list.result.now ≡ slice_index_or c.self.inside.stores.items source c.index-list.result.now = search rules in
    let streams : stream_of c.index-list.result.now.list ≡ stream_in now source = store-is c.self.inside.stores.items source c.index-list.result.now inside at ∙ ap (λ (v : SessionValue). stream_of (list_at v.state.lists source)) c.self.view_is in
    let here : place < length (store_at c.self.inside.stores.items source).list.entries = subst (λ (v : SessionValue). place < length (store_at v.stores source).list.entries) (sym c.self.view_is) c.requires.place in
    let less : place < length (stream_in now source) = subst (λ (v : SessionValue). place < length (stream_of (list_at v.state.lists source))) c.self.view_is (within-is c.self.inside.stores.items source place here) in
    let accepted : IsAccepted (stream_in now source) place = subst (λ (packets : List (List ℕ)). IsAccepted packets place) streams c.in-None.ensures.accepted in
    let size : c.unwrap_or.result ≡ unwrap_or (key_size_of (slice_index_or (stream_in now source) (run_start (stream_in now source) place) [])) (0, 0) =
    c.unwrap_or.ensures ∙ ap (λ (o : Option (ℕ × ℕ)). unwrap_or o (0, 0)) (c.run_size.ensures ∙ ap (λ (packets : List (List ℕ)). key_size_of (slice_index_or packets (run_start packets place) [])) streams) in
    subst (HasPicture now source place) (sym size) (picture_has c.refusals_are_by_bytes.ensures.accepted c.pictures_are_of_runs.ensures now source place less accepted)
