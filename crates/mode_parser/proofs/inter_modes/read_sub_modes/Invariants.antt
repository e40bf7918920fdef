use Rattle.std.proofs.Common.{◌≡◌, length, take}
use Rattle.mode_parser.specs.InterRecords.{first_inter_sub_modes}
use Rattle.mode_parser.proofs.inter_modes.read_sub_modes.Given as goal

abbrev pub invariant-loop-n : goal.invariant-loop-n
invariant-loop-n l = record {
  same : first_inter_sub_modes l.n l.fn.reader ≡ (take l.n l.modes, l.local);
  room : length l.modes ≡ 16;
}
