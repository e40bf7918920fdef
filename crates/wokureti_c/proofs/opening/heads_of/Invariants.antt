use Rattle.std.proofs.Common.{◌≡◌, map, take}
use Rattle.stream_files.specs.declared.streams.Stream.{Stream}
use Rattle.wokureti_c.proofs.opening.heads_of.Given as goal

abbrev pub invariant-loop-stream : goal.invariant-loop-stream
invariant-loop-stream l = l.heads.items ≡ map (λ (stream : Stream). stream.head) (take l.stream-index l.streams)
