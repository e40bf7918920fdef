use Rattle.std.proofs.Common.{arith}
use Rattle.webm_writing.proofs.Composed.{cluster_is_written, group_samples, on_ok}
use Rattle.webm_writing.proofs.clusters.write_cluster.Goals as goal

pub cluster_bytes-requires : goal.cluster_bytes-requires
cluster_bytes-requires g c = group_samples c.args.samples.now c.requires.group

pub returns : goal.returns
returns g c =
    let w = g.W.Write.contents in
    on_ok c.write_blocks.result (
    cluster_is_written (w c.args.w.now) (w c.write_open.new.w) (w c.write_time.new.w) (w c.write_blocks.new.w) c.in-Some.first.now c.args.samples.now c.cluster_bytes.result
    c.in-Some.ensures.value (omega (arith, c.cluster_bytes.ensures, c.requires.size)) c.in_ok-write_open.ensures c.in_ok-write_time.ensures
    ) c.write_blocks.ensures
