use Rattle.std.proofs.Common.{map, take}
use Rattle.std.specs.Io.KnownBytes.{Appends}
use Rattle.webm_writing.specs.Pieces.{text_of}
use Rattle.webm_writing.specs.Written.{block_piece}
use Rattle.webm_writing.proofs.clusters.write_blocks.Given as goal

abbrev pub invariant-loop-sample : goal.invariant-loop-sample
invariant-loop-sample g l = Appends (g.W.Write.contents l.fn.w) (g.W.Write.contents l.w) (text_of (map (block_piece l.base) (take l.sample-index l.samples)))
