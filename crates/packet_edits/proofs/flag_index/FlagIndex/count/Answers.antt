use Rattle.std.proofs.Common.{ap, ◌∙◌}
use Rattle.packet_edits.specs.FlagCounts.{flagged_before}
use Rattle.packet_edits.proofs.Counts.{count_told}
use Rattle.packet_edits.proofs.flag_index.FlagIndex.count.Goals as goal

pub returns : goal.returns
returns c = c.count_before.ensures ∙ ap (λ n. flagged_before n c.args.self.now) c.len.ensures ∙ count_told 0 c.args.self.now
