use Rattle.std.proofs.Common.{◌+◌}
use Rattle.webm_writing.proofs.Composed.{on_ok, opened_written}
use Rattle.webm_writing.proofs.heads.write_open.Goals as goal

pub returns : goal.returns
returns g c =
    let w = g.W.Write.contents in
    on_ok c.write_u64.result (opened_written (w c.args.w.now) (w c.write_u32.new.self) (w c.write_u64.new.self) c.args.id (72057594037927936 + c.args.size) c.in_ok-write_u32.ensures.bytes) c.write_u64.ensures.bytes
