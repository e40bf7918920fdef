use Rattle.std.proofs.Common.{◌≡◌, ◌∙◌, ℕ, List, ap, map, slice_get, sym}
use Rattle.packet_edits.specs.declared.packet_index.PacketIndex.{PacketIndex}
use Rattle.packet_edits.specs.FlagCounts.{indexes_from}
use Rattle.packet_edits.specs.Shown.{shown_indexes}
use Rattle.packet_edits.proofs.Shown.{answer_within, places_of_flags}
use Rattle.packet_edits.proofs.store.Store.shown.Goals as goal

pub returns-clause-place : goal.returns-clause-place
returns-clause-place c = rw (← c.self.view_is) (c.place.ensures ∙ ap (λ (i : PacketIndex). slice_get (indexes_from 0 i.shown) c.args.n) c.self.invariant.indexed ∙ ap (λ (places : List ℕ). slice_get places c.args.n) (sym (places_of_flags 0 c.self.inside.entries)))

pub returns-clause-within : goal.returns-clause-within
returns-clause-within c =
    let es = c.self.inside.entries in
    let reported : c.place.result ≡ slice_get (shown_indexes (map (λ e. e.bytes) es)) c.args.n =
    c.place.ensures ∙ ap (λ (i : PacketIndex). slice_get (indexes_from 0 i.shown) c.args.n) c.self.invariant.indexed ∙ ap (λ (places : List ℕ). slice_get places c.args.n) (sym (places_of_flags 0 es)) in
    rw (← c.self.view_is) (answer_within es c.args.n c.place.result reported)
