use Rattle.std.proofs.Common.{ℕ, Bool, List, take, sym, subst}
use Rattle.packet_edits.specs.FlagCounts.{AreCounts}
use Rattle.packet_edits.proofs.Runs.{counts_taken}
use Rattle.packet_edits.proofs.flag_index.FlagIndex.truncate.Goals as goal

pub invariant_of-self : goal.invariant_of-self
invariant_of-self c =
    subst (λ (flags : List Bool). AreCounts c.truncate-2.new.self.items flags) (sym c.truncate.ensures)
    (subst (λ (counts : List ℕ). AreCounts counts (take c.args.len c.self.inside.flags)) (sym c.truncate-2.ensures.items) (counts_taken c.self.inside.counts.items c.self.inside.flags c.args.len c.self.invariant))
