use Rattle.std.proofs.Common.{◌≡◌, ◌+◌, length}
use Rattle.command_lines.specs.InLine.{line_length}
use Rattle.command_lines.proofs.in_line.line_length.Given as goal

abbrev pub invariant-loop-left : goal.invariant-loop-left
invariant-loop-left l = record {
  passed : line_length l.text ≡ l.count + line_length l.left;
  within : l.count + length l.left ≡ length l.text;
}

abbrev pub decreases-loop-left : goal.decreases-loop-left
decreases-loop-left l = length l.left
