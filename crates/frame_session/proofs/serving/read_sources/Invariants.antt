use Rattle.std.proofs.Common.{map, take}
use Rattle.frame_session.specs.Answers.{AreStreams}
use Rattle.frame_session.proofs.serving.read_sources.Given as goal

abbrev pub invariant-loop-bytes : goal.invariant-loop-bytes
invariant-loop-bytes g l = AreStreams (map g.B.FileBytes.bytes (take l.bytes-index l.fn.sources)) l.files.items
