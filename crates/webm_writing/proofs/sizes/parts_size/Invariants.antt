use Rattle.std.proofs.Common.{◌≡◌, ◌+◌, drop, length, map}
use Rattle.webm_writing.specs.Pieces.{text_of}
use Rattle.webm_writing.specs.Written.{part_piece}
use Rattle.webm_writing.proofs.sizes.parts_size.Given as goal

abbrev pub invariant-loop-part : goal.invariant-loop-part
invariant-loop-part l = l.size + length (text_of (map part_piece (drop l.part-index l.parts))) ≡ length (text_of (map part_piece l.parts))
