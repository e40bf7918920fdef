use Rattle.stream_files.proofs.Walks.{record_at}
use Rattle.stream_files.proofs.records.read_records.Goals as goal

pub loop-record-preserved : goal.loop-record-preserved
loop-record-preserved g c =
    let first = c.in-Some.ensures in
    let more = record_at _ _ _ c.args.start _ _ _ _ c.whole-bytes.ensures c.loop-record.invariant.so_far (first.whole, first.stamp, first.size) c.in_ok-part.ensures in record {
      so_far = rw c.in_ok-push.ensures.items more.0;
      inside = more.1;
    }
