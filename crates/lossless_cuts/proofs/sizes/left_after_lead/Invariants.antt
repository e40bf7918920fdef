use Rattle.std.proofs.Common.{◌≡◌, ◌+◌}
use Rattle.std.specs.Prelude.{slice_range}
use Rattle.packet_edits.specs.Shown.{stream_of}
use Rattle.lossless_cuts.specs.Limits.{records_size}
use Rattle.lossless_cuts.specs.Plans.{hidden}
use Rattle.lossless_cuts.proofs.sizes.left_after_lead.Given as goal

abbrev pub invariant-loop-place : goal.invariant-loop-place
invariant-loop-place l =
    l.left + records_size (hidden (slice_range (stream_of l.fn.list.list) l.fn.first l.fn.end)) ≡ l.fn.bytes + records_size (hidden (slice_range (stream_of l.fn.list.list) l.place l.fn.end))
