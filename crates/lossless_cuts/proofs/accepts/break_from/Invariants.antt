use Rattle.packet_edits.specs.Shown.{stream_of}
use Rattle.stream_refusals.specs.Refusals.{HaveNoCause}
use Rattle.lossless_cuts.proofs.accepts.break_from.Given as goal

abbrev pub invariant-packets : goal.invariant-packets
invariant-packets l = HaveNoCause (stream_of l.fn.list.list) l.fn.first l.k
