use Rattle.std.proofs.Common.{arith}
use Rattle.webm_writing.proofs.Composed.{on_ok}
use Rattle.webm_writing.proofs.Indexed.{index_written}
use Rattle.webm_writing.proofs.indexes.write_index.Goals as goal

pub returns : goal.returns
returns g c =
    let w = g.W.Write.contents in
    on_ok c.write_seek.result (
    index_written (w c.args.w.now) (w c.write_head.new.w) (w c.write_seeks.new.w) (w c.write_seek.new.w) c.args.first c.args.cues _ c.args.parts.now (omega arith)
    c.in_ok-write_head.ensures c.in_ok-write_seeks.ensures
    ) c.write_seek.ensures
