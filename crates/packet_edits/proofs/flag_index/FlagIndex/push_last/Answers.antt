use Rattle.std.proofs.Common.{◌≡◌, ℕ, ◌+◌, ◌%◌, ◌<◌, Bool, List, length, [], ◌∷◌, ◌++◌, sym, ap, ◌∙◌, subst, arith, rules}
use Rattle.packet_edits.specs.FlagCounts.{AreCounts, count_with, flagged_before}
use Rattle.packet_edits.proofs.Runs.{count_small, counts_filled}
use Rattle.packet_edits.proofs.flag_index.FlagIndex.push_last.Goals as goal

pub with_flag-count-requires : goal.with_flag-count-requires
with_flag-count-requires c = count_small c.self.inside.counts.items c.self.inside.flags c.len-len.result c.count_before.result c.self.invariant (omega (arith, c.len-len.ensures)) (c.count_before.ensures ∙ ap (λ (flags : List Bool). flagged_before c.len-len.result flags) (sym c.self.view_is))

pub invariant_of-self-else-is_err : goal.invariant_of-self-else-is_err
invariant_of-self-else-is_err c =
    let flags = c.self.inside.flags in
    let same : length flags ≡ length c.args.self.now = ap length c.self.view_is in
    let few : length flags < 1048576 = omega (arith, same, c.requires.few) in
    let whole : (length flags + 1) % 1024 ≡ 0 = ap (λ (n : ℕ). (n + 1) % 1024) same ∙ c.requires.last in
    let put : c.push-2.new.self.items ≡ c.self.inside.counts.items ++ c.with_flag-count.result ∷ [] = search rules in
    let counted : c.count_before.result ≡ flagged_before (length flags) flags = c.count_before.ensures ∙ ap (λ (n : ℕ). flagged_before n c.args.self.now) c.len-len.ensures ∙ ap (λ (fs : List Bool). flagged_before (length flags) fs) (sym c.self.view_is) in
    subst (λ (fs : List Bool). AreCounts c.push-2.new.self.items fs) (sym c.in-Ok.ensures)
    (counts_filled c.self.inside.counts.items c.push-2.new.self.items flags c.args.flag c.with_flag-count.result c.self.invariant few whole (c.with_flag-count.ensures ∙ ap (λ (n : ℕ). count_with n c.args.flag) counted) put)
