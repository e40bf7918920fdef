use Rattle.std.proofs.Common.{◌≡◌, length}
use Rattle.explanations.specs.Lines.{has_no_break_space}
use Rattle.explanations.proofs.lines.has_no_break_space.Given as goal

abbrev pub invariant-loop-left : goal.invariant-loop-left
invariant-loop-left l = has_no_break_space l.line ≡ has_no_break_space l.left

abbrev pub decreases-loop-left : goal.decreases-loop-left
decreases-loop-left l = length l.left
