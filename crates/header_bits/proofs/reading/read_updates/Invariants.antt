use Rattle.std.proofs.Common.{◌≡◌, ◌*◌, ◌≤◌}
use Rattle.header_bits.specs.Bits.{update_bits}
use Rattle.header_bits.proofs.reading.read_updates.Given as goal

abbrev pub invariant-loop-place : goal.invariant-loop-place
invariant-loop-place l = record {
  read : update_bits l.more l.place l.updates l.fn.reader ≡ (l.bits, l.reader);
  most : l.bits ≤ 33 * l.place;
}
