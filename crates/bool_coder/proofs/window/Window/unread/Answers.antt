use Rattle.std.proofs.Common.{ℕ, ◌<◌, ◌-◌, ◌++◌, ap, sym, ◌∙◌, arith, take, get_or, length}
use Rattle.bool_coder.specs.Reader.{bits_of, bit_string, trimmed}
use Rattle.bool_coder.proofs.Ends.{drop_zero, unread-none, unread-some}
use Rattle.bool_coder.proofs.window.Window.unread.Goals as goal
use Rattle.bool_coder.proofs.window.Window.unread.Goals.{then-loop-count-test+else-self-count-eq0, else-loop-count-test}

pub loop-count-preserved : goal.loop-count-preserved
loop-count-preserved c = record {
  same = drop_zero (bits_of c.args.self.now.left c.args.self.now.value) c.args.self.now.bytes.now c.loop-count.count c.loop-count-test.true c.loop-count.invariant.within c.if-self-count-eq0.true ∙ c.loop-count.invariant.same;
  within = omega (arith, c.loop-count.invariant.within);
}

pub returns-then-count-eq0 : goal.returns-then-count-eq0
returns-then-count-eq0 c = λ range.
    c.saturating_sub.ensures ∙ sym (unread-none c.args.self.now.left c.args.self.now.value c.requires)
    ∙ ap (λ (k : ℕ). length (trimmed (bits_of c.args.self.now.left c.args.self.now.value ++ bit_string (take k c.args.self.now.bytes.now)))) (sym c.if-count-eq0.true)
    ∙ ap length c.loop-count.invariant.same

pub returns : goal.returns
returns c = λ range.
    let some : 0 < c.loop-count.count = omega (arith, c.if-count-eq0.false) in
    let last : 0 < get_or c.args.self.now.bytes.now (c.loop-count.count - 1) 0 = elim c.loop-count-test.branch [
      | then-loop-count-test+else-self-count-eq0 w ↦ omega (arith, w.if-self-count-eq0.false)
      | else-loop-count-test w ↦ absurd (omega (arith, w.loop-count-test.false))
    ] in
    sym (unread-some c.args.self.now.left c.args.self.now.value c.args.self.now.bytes.now c.loop-count.count some c.loop-count.invariant.within last (omega arith))
    ∙ ap length c.loop-count.invariant.same
