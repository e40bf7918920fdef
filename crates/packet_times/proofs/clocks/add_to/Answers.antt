use Rattle.std.proofs.Common.{ap, arith, ◌∙◌}
use Rattle.std.proofs.Math.ListN.{set}
use Rattle.std.proofs.lemmas.List.Edits.{map_over_more}
use Rattle.packet_times.specs.Clocks.{added}
use Rattle.packet_times.specs.declared.clocks.Sum.{Sum}
use Rattle.packet_times.proofs.clocks.add_to.Goals as goal

pub loop-at-preserved : goal.loop-at-preserved
loop-at-preserved c =
    ap (λ (sum : Sum). set c.loop-at.sums.items c.loop-at.at sum) c.added.ensures
    ∙ map_over_more (added c.args.duration) c.args.sums.now.items c.loop-at.sums.items c.loop-at.at c.index.result.now (omega arith) c.loop-at.invariant c.index.ensures
