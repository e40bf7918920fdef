use Rattle.std.proofs.Common.{◌<◌, length, rules, arith, refl}
use Rattle.packet_edits.specs.Saved.{padded_packet_of}
use Rattle.packet_edits.proofs.Records.{element_is, record_added}
use Rattle.packet_edits.proofs.saving.write_padded_records.Goals as goal

pub loop-i-preserved : goal.loop-i-preserved
loop-i-preserved g c =
    let es = c.args.entries.now in
    let entry = c.get.result.now in
    let within : c.loop-i.i < length es = search (rules, arith) in
    record_added padded_packet_of es c.loop-i.i entry entry (padded_packet_of entry) (g.W.Write.contents c.args.w.now) (g.W.Write.contents c.loop-i.w) (g.W.Write.contents c.write_padded.new.w) within (element_is es c.loop-i.i entry c.get.ensures) refl c.loop-i.invariant c.in_ok-write_padded.ensures
