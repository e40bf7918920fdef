use Rattle.std.proofs.Common.{◌≡◌, ◌∙◌, ℕ, Option, slice_index, unwrap_or, ap}
use Rattle.std.proofs.lemmas.Option.{unwrap_or-slice_get}
use Rattle.packet_edits.specs.Shown.{shown_indexes, stream_of}
use Rattle.script_nodes.specs.declared.origins.FrameOrigin.{FrameOrigin}
use Rattle.frame_session.specs.Edits.{list_at}
use Rattle.frame_session.proofs.session.Session.origin_from.Goals as goal

pub returns-clause-value : goal.returns-clause-value
returns-clause-value c =
    let shown = shown_indexes (stream_of (list_at c.args.self.now.state.lists c.args.source)) in
    let F : ℕ → FrameOrigin = λ packet. record { frame = c.args.n; source = c.args.source; source_frame = c.args.frame; packet = packet } in
    let packet : c.unwrap_or.result ≡ slice_index shown c.args.frame = c.unwrap_or.ensures ∙ ap (λ (o : Option ℕ). unwrap_or o 0) c.shown_place.ensures.place ∙ unwrap_or-slice_get shown c.args.frame 0 in
    ap F packet
