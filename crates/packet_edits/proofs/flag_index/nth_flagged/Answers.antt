use Rattle.std.proofs.Common.{◌≡◌, ℕ, suc, ◌+◌, ◌-◌, Bool, drop, slice_get, Some, true, false, sym, ap, ◌∙◌, arith}
use Rattle.packet_edits.specs.FlagCounts.{indexes_from}
use Rattle.packet_edits.proofs.Counts.{one_found, one_passed, one_skipped}
use Rattle.packet_edits.proofs.flag_index.nth_flagged.Goals.{then-get+else-left-eq0, else-get}
use Rattle.packet_edits.proofs.flag_index.nth_flagged.Goals as goal

pub returns-then-left-eq0 : goal.returns-then-left-eq0
returns-then-left-eq0 c =
    let here : slice_get c.args.flags.now c.loop-at.at ≡ Some true = c.get.ensures ∙ ap (λ (b : Bool). Some b) c.if-get.true in
    sym (sym c.loop-at.invariant ∙ ap (λ (n : ℕ). slice_get (indexes_from c.loop-at.at (drop c.loop-at.at c.args.flags.now)) n) c.if-left-eq0.true ∙ one_found c.loop-at.at c.args.flags.now here)

pub loop-at-preserved : goal.loop-at-preserved
loop-at-preserved c =
    elim c.if-get.branch [
      | then-get+else-left-eq0 w ↦ (
          let here : slice_get c.args.flags.now c.loop-at.at ≡ Some true = c.get.ensures ∙ ap (λ (b : Bool). Some b) w.if-get.true in
          let some : c.loop-at.left ≡ suc (c.loop-at.left - 1) = omega (arith, w.if-left-eq0.false) in
          ap (λ (n : ℕ). slice_get (indexes_from (c.loop-at.at + 1) (drop (c.loop-at.at + 1) c.args.flags.now)) n) w.left-is
          ∙ sym (sym c.loop-at.invariant ∙ ap (λ (n : ℕ). slice_get (indexes_from c.loop-at.at (drop c.loop-at.at c.args.flags.now)) n) some ∙ one_passed c.loop-at.at (c.loop-at.left - 1) c.args.flags.now here))
      | else-get w ↦ (
          let here : slice_get c.args.flags.now c.loop-at.at ≡ Some false = c.get.ensures ∙ ap (λ (b : Bool). Some b) w.if-get.false in
          ap (λ (n : ℕ). slice_get (indexes_from (c.loop-at.at + 1) (drop (c.loop-at.at + 1) c.args.flags.now)) n) w.left-is
          ∙ sym (sym c.loop-at.invariant ∙ one_skipped c.loop-at.at c.loop-at.left c.args.flags.now here))
    ]
