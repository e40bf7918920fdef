use Rattle.std.proofs.Common.{◌≡◌, min, take}
use Rattle.webm_writing.specs.Written.{cluster_bytes}
use Rattle.webm_writing.proofs.clusters.cluster_bytes.Given as goal

abbrev pub invariant-loop-sample : goal.invariant-loop-sample
invariant-loop-sample l = l.size ≡ min (cluster_bytes (take l.sample-index l.samples)) 18446744073709551615
