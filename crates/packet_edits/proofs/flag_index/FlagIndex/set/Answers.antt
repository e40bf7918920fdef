use Rattle.std.proofs.Common.{◌≡◌, Bool, List, length, sym, subst, arith, rules}
use Rattle.packet_edits.specs.FlagCounts.{AreCounts}
use Rattle.packet_edits.proofs.Runs.{counts_set, counts_small}
use Rattle.packet_edits.proofs.flag_index.FlagIndex.set.Goals as goal

pub recount-requires : goal.recount-requires
recount-requires c = record { small = counts_small c.self.inside.counts.items c.self.inside.flags c.self.invariant }

pub invariant_of-self : goal.invariant_of-self
invariant_of-self c =
    let old = c.self.inside.counts.items in
    let new = c.recount.new.counts.items in
    let old_len : length old ≡ c.self.inside.counts.len = search rules in
    let new_len : length new ≡ c.recount.new.counts.len = search rules in
    let long : length new ≡ length old = omega (arith, old_len, new_len, c.recount.ensures.len) in
    subst (λ (flags : List Bool). AreCounts new flags) (sym c.set.ensures)
    (counts_set old new c.self.inside.flags c.args.at c.get-was.result.now c.args.flag c.self.invariant c.get-was.ensures long c.recount.ensures.before
    (λ k more less. c.recount.ensures.after k more (omega (arith, old_len, less))))
