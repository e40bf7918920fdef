use Rattle.std.proofs.Common.{◌≡◌, ◌≤◌, ◌++◌, length, take}
use Rattle.bool_coder.specs.Reader.{bits_of, bit_string, trimmed}
use Rattle.bool_coder.proofs.window.Window.unread.Given as goal

abbrev pub invariant-loop-count : goal.invariant-loop-count
invariant-loop-count l = record {
  same : trimmed (bits_of l.self.left l.self.value ++ bit_string (take l.count l.self.bytes.now)) ≡ trimmed (bits_of l.self.left l.self.value ++ bit_string l.self.bytes.now);
  within : l.count ≤ length l.self.bytes.now;
}

abbrev pub decreases-loop-count : goal.decreases-loop-count
decreases-loop-count l = l.count
