use Rattle.std.proofs.Common.{◌<◌, ℕ, List, rules, arith}
use Rattle.std.specs.Prelude.{slice_range}
use Rattle.packet_edits.specs.Shown.{stream_of}
use Rattle.lossless_cuts.specs.Limits.{records_size}
use Rattle.lossless_cuts.specs.Plans.{hidden}
use Rattle.lossless_cuts.proofs.HiddenSizes.{lead_size-more}
use Rattle.lossless_cuts.proofs.sizes.left_after_lead.Goals as goal

pub loop-place-preserved : goal.loop-place-preserved
loop-place-preserved c =
    let xs : List (List ℕ) = stream_of c.args.list.now.list in
    let more = lead_size-more xs c.loop-place.place c.args.end c.packet.result.now c.loop-place-test.true c.packet.ensures in
    omega (arith, more, c.hidden_size.ensures, c.loop-place.invariant, c.in_ok-left.ensures)

pub returns-in_err-left-clause-none : goal.returns-in_err-left-clause-none
returns-in_err-left-clause-none c =
    let xs : List (List ℕ) = stream_of c.args.list.now.list in
    let more = lead_size-more xs c.loop-place.place c.args.end c.packet.result.now c.loop-place-test.true c.packet.ensures in
    let less : c.args.bytes < records_size (hidden (slice_range xs c.args.first c.args.end)) = omega (arith, more, c.hidden_size.ensures, c.loop-place.invariant, c.in_err-left.ensures) in
    search rules
