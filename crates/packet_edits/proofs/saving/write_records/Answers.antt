use Rattle.std.proofs.Common.{◌≡◌, ◌<◌, List, ℕ, length, rules, arith, ap}
use Rattle.stream_files.specs.declared.packets.Packet.{Packet}
use Rattle.packet_edits.specs.Saved.{packet_of}
use Rattle.packet_edits.proofs.Records.{element_is, record_added}
use Rattle.packet_edits.proofs.saving.write_records.Goals as goal

pub loop-i-preserved : goal.loop-i-preserved
loop-i-preserved g c =
    let es = c.args.entries.now in
    let entry = c.get-entry.result.now in
    let within : c.loop-i.i < length es = search (rules, arith) in
    let packet : List ℕ → Packet = λ bytes. record { stamp = entry.stamp; bytes = bytes } in
    let same : packet c.as_slice.result.now ≡ packet_of entry = ap packet c.as_slice.ensures in
    record_added packet_of es c.loop-i.i entry entry (packet c.as_slice.result.now) (g.W.Write.contents c.args.w.now) (g.W.Write.contents c.loop-i.w) (g.W.Write.contents c.ivf_packet.new.w) within (element_is es c.loop-i.i entry c.get-entry.ensures) same c.loop-i.invariant c.in_ok-ivf_packet.ensures
