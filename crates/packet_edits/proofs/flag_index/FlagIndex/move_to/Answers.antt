use Rattle.std.proofs.Common.{◌≡◌, ◌+◌, ◌-◌, ◌*◌, Bool, List, length, slice_get, sym, ap, ◌∙◌, subst, arith, rules}
use Rattle.packet_edits.specs.FlagCounts.{AreCounts}
use Rattle.packet_edits.proofs.Runs.{counts_down, counts_small, counts_up}
use Rattle.packet_edits.proofs.flag_index.FlagIndex.move_to.Goals as goal

pub moved_up-requires-clause-small : goal.moved_up-requires-clause-small
moved_up-requires-clause-small c = counts_small c.self.inside.counts.items c.self.inside.flags c.self.invariant

pub moved_down-requires-clause-small : goal.moved_down-requires-clause-small
moved_down-requires-clause-small c = counts_small c.self.inside.counts.items c.self.inside.flags c.self.invariant

pub invariant_of-self : goal.invariant_of-self
invariant_of-self c =
    let old = c.self.inside.counts.items in
    let new = c.moved_up.new.counts.items in
    let old_len : length old ≡ c.self.inside.counts.len = search rules in
    let new_len : length new ≡ c.moved_up.new.counts.len = search rules in
    let long : length new ≡ length old = omega (arith, old_len, new_len, c.moved_up.ensures.len) in
    let same : length c.self.inside.flags ≡ length c.args.self.now = ap length c.self.view_is in
    let is = c.move_to.ensures in
    subst (λ (flags : List Bool). AreCounts new flags) (sym is)
    (counts_up old new c.self.inside.flags c.args.from c.args.to c.get-flag.result.now c.self.invariant c.get-flag.ensures c.if-from-to.true (omega (arith, same, c.requires.1)) long c.moved_up.ensures.before
    (λ k now more less here. c.moved_up.ensures.within k now more less (ap (λ (xs : List Bool). slice_get xs ((k + 1) * 1024 - 1)) is ∙ here)) c.moved_up.ensures.after)

pub invariant_of-self-else-from-to : goal.invariant_of-self-else-from-to
invariant_of-self-else-from-to c =
    let old = c.self.inside.counts.items in
    let new = c.moved_down.new.counts.items in
    let old_len : length old ≡ c.self.inside.counts.len = search rules in
    let new_len : length new ≡ c.moved_down.new.counts.len = search rules in
    let long : length new ≡ length old = omega (arith, old_len, new_len, c.moved_down.ensures.len) in
    let same : length c.self.inside.flags ≡ length c.args.self.now = ap length c.self.view_is in
    let is = c.move_to.ensures in
    subst (λ (flags : List Bool). AreCounts new flags) (sym is)
    (counts_down old new c.self.inside.flags c.args.from c.args.to c.get-flag.result.now c.self.invariant c.get-flag.ensures c.if-from-to.false (omega (arith, same, c.requires.0)) long c.moved_down.ensures.before
    (λ k was more less here. c.moved_down.ensures.within k was more less (ap (λ (xs : List Bool). slice_get xs ((k + 1) * 1024)) is ∙ here)) c.moved_down.ensures.after)
