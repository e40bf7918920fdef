use Rattle.packet_edits.specs.Shown.{stream_of}
use Rattle.lossless_cuts.proofs.HiddenLeads.{lead_more}
use Rattle.lossless_cuts.proofs.cuts.push_lead.Goals as goal

pub loop-place-preserved : goal.loop-place-preserved
loop-place-preserved c = lead_more c.args.out.now.items c.loop-place.out.items c.push_hidden.new.out.items (stream_of c.args.list.now.list) c.args.first c.loop-place.place c.bytes.result.now c.loop-place.auto.place c.bytes.ensures c.loop-place.invariant c.in_ok-push_hidden.ensures
