use Rattle.std.proofs.Common.{ap, map, ◌∙◌}
use Rattle.packet_edits.specs.FlagCounts.{flag_at}
use Rattle.packet_edits.specs.Sizes.{key_tag_at}
use Rattle.packet_edits.specs.declared.packet_index.PacketIndex.{PacketIndex}
use Rattle.packet_edits.proofs.Keys.{key_flag}
use Rattle.packet_edits.proofs.Nearest.{first_as}
use Rattle.packet_edits.proofs.store.Store.next_key.Goals as goal

pub returns : goal.returns
returns c =
    let es = c.self.inside.entries in
    rw (← c.self.view_is) (first_as (flag_at c.self.inside.index.keys) (key_tag_at (map (λ e. e.bytes) es)) c.args.from c.args.end (λ p less. ap (λ (i : PacketIndex). flag_at i.keys p) c.self.invariant.indexed ∙ key_flag es p) c.first_in.result c.first_in.ensures)
