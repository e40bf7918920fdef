use Rattle.std.proofs.Common.{ℕ, ◌≡◌, ◌+◌, ◌-◌, ◌<◌, ◌≤◌, ◌^◌}
use Rattle.bool_coder.specs.Window.{reader_of}
use Rattle.bool_coder.proofs.window.Window.pull.Given as goal

abbrev pub invariant-loop-self : goal.invariant-loop-self
invariant-loop-self l = ((range : ℕ) → reader_of l.self.value l.self.left l.self.bytes.now range ≡ reader_of l.fn.self.value l.fn.self.left l.fn.self.bytes.now range) × (l.self.value < 2 ^ (l.self.left + 8)) × (l.self.left ≤ 56)

abbrev pub decreases-loop-self : goal.decreases-loop-self
decreases-loop-self l = 56 - l.self.left
