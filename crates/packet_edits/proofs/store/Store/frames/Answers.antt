use Rattle.std.proofs.Common.{◌∙◌, ap, length, sym}
use Rattle.packet_edits.specs.declared.packet_index.PacketIndex.{PacketIndex}
use Rattle.packet_edits.specs.FlagCounts.{indexes_from}
use Rattle.packet_edits.proofs.Shown.{places_of_flags}
use Rattle.packet_edits.proofs.store.Store.frames.Goals as goal

pub returns : goal.returns
returns c = rw (← c.self.view_is) (c.count.ensures ∙ ap (λ (i : PacketIndex). length (indexes_from 0 i.shown)) c.self.invariant.indexed ∙ ap length (sym (places_of_flags 0 c.self.inside.entries)))
