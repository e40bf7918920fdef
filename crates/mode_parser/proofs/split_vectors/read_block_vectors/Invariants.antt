use Rattle.std.proofs.Common.{◌≡◌, length, take}
use Rattle.mode_parser.specs.RecordList.{neighbour_of}
use Rattle.mode_parser.specs.InterRecords.{first_vectors}
use Rattle.mode_parser.proofs.split_vectors.read_block_vectors.Given as goal

abbrev pub invariant-loop-n : goal.invariant-loop-n
invariant-loop-n l = record {
  same : first_vectors l.n l.starts l.probabilities l.best (neighbour_of l.above) (neighbour_of l.left) l.fn.reader ≡ (take l.n l.vectors, l.local);
  room : length l.vectors ≡ 16;
}
