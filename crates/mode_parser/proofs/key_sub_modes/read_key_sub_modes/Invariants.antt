use Rattle.std.proofs.Common.{◌≡◌, length, take}
use Rattle.mode_parser.specs.RecordList.{neighbour_of}
use Rattle.mode_parser.specs.SubModes.{first_sub_modes}
use Rattle.mode_parser.proofs.key_sub_modes.read_key_sub_modes.Given as goal

abbrev pub invariant-loop-n : goal.invariant-loop-n
invariant-loop-n l = record {
  same : first_sub_modes l.n l.tables (neighbour_of l.above) (neighbour_of l.left) l.fn.reader ≡ (take l.n l.modes, l.reader);
  room : length l.modes ≡ 16;
}
