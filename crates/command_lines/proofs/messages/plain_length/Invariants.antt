use Rattle.std.proofs.Common.{◌≡◌, ◌+◌, length}
use Rattle.command_lines.specs.Controls.{plain_length}
use Rattle.command_lines.proofs.messages.plain_length.Given as goal

abbrev pub invariant-loop-left : goal.invariant-loop-left
invariant-loop-left l = record {
  passed : plain_length l.text ≡ l.count + plain_length l.left;
  within : l.count + length l.left ≡ length l.text;
}

abbrev pub decreases-loop-left : goal.decreases-loop-left
decreases-loop-left l = length l.left
