use Rattle.std.proofs.Common.{ap, ◌∙◌}
use Rattle.packet_edits.specs.FlagCounts.{flag_at}
use Rattle.packet_edits.specs.declared.packet_index.PacketIndex.{PacketIndex}
use Rattle.packet_edits.proofs.Keys.{flag_got, key_flag}
use Rattle.packet_edits.proofs.store.Store.has_key_tag.Goals as goal

pub returns : goal.returns
returns c =
    rw (← c.self.view_is) (flag_got c.self.inside.index.keys c.args.place c.get.result c.get.ensures ∙ ap (λ (i : PacketIndex). flag_at i.keys c.args.place) c.self.invariant.indexed ∙ key_flag c.self.inside.entries c.args.place)
