use Rattle.frame_session.proofs.ExportRecords.{record_added}
use Rattle.frame_session.proofs.export.write_records.Goals as goal

pub loop-packet-preserved : goal.loop-packet-preserved
loop-packet-preserved g c =
    let w = g.W.Write.contents in
    record_added c.args.packets.now c.loop-packet.packet-index c.packet-item.result c.packet-item.result (w c.args.w.now) (w c.loop-packet.w) (w c.write_record.new.w) c.loop-packet-test.true c.packet-item.is c.loop-packet.invariant c.in_ok-write_record.ensures
