use Rattle.std.proofs.Common.{◌≡◌, ◌+◌, drop, length, map}
use Rattle.webm_writing.specs.Pieces.{text_of}
use Rattle.webm_writing.specs.Written.{part_piece, seeks_from}
use Rattle.webm_writing.proofs.Grouped.{Has}
use Rattle.webm_writing.proofs.indexes.write_seeks.Given as goal

abbrev pub invariant-loop-part : goal.invariant-loop-part
invariant-loop-part g l = record {
  has : Has (g.W.Write.contents l.fn.w) (g.W.Write.contents l.w) (seeks_from l.first (map part_piece l.parts)) (seeks_from l.at (map part_piece (drop l.part-index l.parts)));
  place : l.at + length (text_of (map part_piece (drop l.part-index l.parts))) ≡ l.first + length (text_of (map part_piece l.parts));
}
