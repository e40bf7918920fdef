use Rattle.webm_writing.proofs.Composed.{on_ok}
use Rattle.webm_writing.proofs.Entered.{info_written}
use Rattle.webm_writing.proofs.entries.write_info.Goals as goal

pub returns : goal.returns
returns g c =
    let w = g.W.Write.contents in
    on_ok c.write_all-2.result (
    info_written (w c.args.w.now) (w c.write_all.new.self) (w c.write_u32.new.self) (w c.write_all-2.new.self) c.args.scale c.in_ok-write_all.ensures.bytes c.in_ok-write_u32.ensures.bytes
    ) c.write_all-2.ensures.bytes
