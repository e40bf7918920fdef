use Rattle.webm_writing.proofs.Composed.{on_ok}
use Rattle.webm_writing.proofs.Entered.{tracks_written}
use Rattle.webm_writing.proofs.entries.write_tracks.Goals as goal

pub returns : goal.returns
returns g c =
    let w = g.W.Write.contents in
    on_ok c.write_video.result (
    tracks_written (w c.args.w.now) (w c.write_all.new.self) (w c.write_u64.new.self) (w c.write_video.new.w) c.args.head c.args.duration c.in_ok-write_all.ensures.bytes c.in_ok-write_u64.ensures.bytes
    ) c.write_video.ensures
