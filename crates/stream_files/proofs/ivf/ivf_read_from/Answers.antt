use Rattle.stream_files.proofs.Files.{reads_ivf, lacks_ivf}
use Rattle.stream_files.proofs.ivf.ivf_read_from.Goals as goal

pub returns-in_default-read_records : goal.returns-in_default-read_records
returns-in_default-read_records g c =
    let head = c.in_ok-head.ensures in
    lacks_ivf _ _ _ _ c.whole-bytes.ensures (head.header, head.length) c.in-Some.ensures.some c.in-Some.ensures.few

pub returns : goal.returns
returns g c =
    let head = c.in_ok-head.ensures in
    let read = c.in-Ok.ensures in
    rw c.frame_rate.ensures (reads_ivf _ _ _ _ _ _ _ c.whole-bytes.ensures (head.header, head.head, head.length) c.in-Some.ensures.some c.in-Some.ensures.few read.records read.over read.end)
