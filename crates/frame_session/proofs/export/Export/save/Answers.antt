use Rattle.std.proofs.lemmas.Result.{on_ok_weaker}
use Rattle.frame_session.proofs.ExportRecords.{whole_written}
use Rattle.frame_session.proofs.export.Export.save.Goals as goal

pub returns : goal.returns
returns g c =
    let w = g.W.Write.contents in
    on_ok_weaker c.write_records.result
    (λ records. whole_written c.args.self.now.head c.args.self.now.packets c.as_slice.result.now c.len.result (w c.args.w.now) (w c.ivf_start.new.w) (w c.write_records.new.w) c.len.ensures c.as_slice.ensures c.in_ok-ivf_start.ensures records)
    c.write_records.ensures
