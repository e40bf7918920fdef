use Rattle.std.proofs.Common.{◌≡◌}
use Rattle.header_bits.specs.Bits.{skip}
use Rattle.header_bits.proofs.reading.skip.Given as goal

abbrev pub invariant-loop-bits : goal.invariant-loop-bits
invariant-loop-bits l = skip l._bits l.fn.reader ≡ (l._bits, l.reader)
