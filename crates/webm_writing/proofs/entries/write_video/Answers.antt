use Rattle.webm_writing.proofs.Composed.{on_ok}
use Rattle.webm_writing.proofs.Entered.{video_written}
use Rattle.webm_writing.proofs.entries.write_video.Goals as goal

pub returns : goal.returns
returns g c =
    let w = g.W.Write.contents in
    on_ok c.write_u16-2.result (
    video_written (w c.args.w.now) (w c.write_all.new.self) (w c.write_u16.new.self) (w c.write_all-2.new.self) (w c.write_u16-2.new.self) c.args.head
    c.in_ok-write_all.ensures.bytes c.in_ok-write_u16.ensures.bytes c.in_ok-write_all-2.ensures.bytes
    ) c.write_u16-2.ensures.bytes
