use Rattle.std.proofs.Common.{◌≡◌, ◌+◌, ◌≤◌, ◌∙◌, ap, suc, sym, arith}
use Rattle.packet_edits.specs.FlagCounts.{count_with, flagged_before}
use Rattle.packet_edits.proofs.Counts.{count_most, flagged_few, flagged_more}
use Rattle.packet_edits.proofs.starts.count_on.Goals as goal

pub loop-at-init : goal.loop-at-init
loop-at-init c = record { counted = c.requires.counted; few = omega (arith, c.requires.counted, flagged_few c.args.from c.args.flags.now) }

pub loop-at-preserved : goal.loop-at-preserved
loop-at-preserved c =
    let one : c.loop-at.at + 1 ≡ suc c.loop-at.at = omega arith in
    let most : count_with c.loop-at.count c.get.result.now ≤ c.loop-at.count + 1 = count_most c.loop-at.count c.get.result.now in
    record {
      counted = c.with_flag-count.ensures ∙ ap (λ n. count_with n c.get.result.now) c.loop-at.invariant.counted ∙ sym (ap (λ n. flagged_before n c.args.flags.now) one ∙ flagged_more c.loop-at.at c.args.flags.now c.get.result.now c.get.ensures);
      few = omega (arith, c.with_flag-count.ensures, most, c.loop-at.invariant.few);
    }

pub returns : goal.returns
returns c =
    let end : c.loop-at.at ≡ c.args.to = omega (arith, c.requires.range.0, c.loop-at.auto.at-end, c.loop-at-test.false) in
    c.loop-at.invariant.counted ∙ ap (λ n. flagged_before n c.args.flags.now) end
