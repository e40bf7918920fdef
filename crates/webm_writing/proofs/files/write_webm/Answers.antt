use Rattle.std.proofs.Common.{◌+◌, arith}
use Rattle.webm_writing.specs.Written.{Written}
use Rattle.webm_writing.proofs.Composed.{on_ok}
use Rattle.webm_writing.proofs.Filed.{clusters_at, file_is_written, sizes_are}
use Rattle.webm_writing.proofs.files.write_webm.Goals as goal

pub write_open-requires : goal.write_open-requires
write_open-requires g c =
    let file : Written = record { parts = c.args.parts.now; most = c.args.most; samples = c.args.samples.now } in
    omega (arith, (sizes_are file c.requires).whole, c.index_size-first.ensures, c.parts_size.ensures, c.clusters_size.ensures, (sizes_are file c.requires).clusters, c.cues_size.ensures (clusters_at file))

pub returns : goal.returns
returns g c =
    let w = g.W.Write.contents in
    let file : Written = record { parts = c.args.parts.now; most = c.args.most; samples = c.args.samples.now } in
    on_ok c.write_cues.result (
    file_is_written (w c.args.w.now) (w c.write_header.new.w) (w c.write_open.new.w) (w c.write_index.new.w) (w c.write_parts.new.w) (w c.write_clusters.new.w) (w c.write_cues.new.w) file
    (((c.index_size-first.result + c.parts_size.result) + c.clusters_size.result) + 8 + c.cues_size.result) c.index_size-first.result (c.index_size-first.result + c.parts_size.result) ((c.index_size-first.result + c.parts_size.result) + c.clusters_size.result)
    c.index_size-first.ensures (omega (arith, c.index_size-first.ensures, c.parts_size.ensures)) (omega (arith, c.index_size-first.ensures, c.parts_size.ensures, c.clusters_size.ensures, (sizes_are file c.requires).clusters))
    (omega (arith, c.index_size-first.ensures, c.parts_size.ensures, c.clusters_size.ensures, (sizes_are file c.requires).clusters, c.cues_size.ensures (clusters_at file)))
    c.in_ok-write_header.ensures c.in_ok-write_open.ensures c.in_ok-write_index.ensures c.in_ok-write_parts.ensures c.in_ok-write_clusters.ensures
    ) c.write_cues.ensures
