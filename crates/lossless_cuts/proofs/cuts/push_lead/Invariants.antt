use Rattle.std.proofs.Common.{◌≡◌, ◌++◌}
use Rattle.std.specs.Prelude.{slice_range}
use Rattle.packet_edits.specs.Shown.{stream_of}
use Rattle.lossless_cuts.specs.Plans.{hidden}
use Rattle.lossless_cuts.proofs.cuts.push_lead.Given as goal

abbrev pub invariant-loop-place : goal.invariant-loop-place
invariant-loop-place l = l.out.items ≡ l.initial.out.items ++ hidden (slice_range (stream_of l.fn.list.list) l.fn.first l.place)
