use Rattle.std.proofs.Common.{subst, ◌≡◌}
use Rattle.std.proofs.KnownBytes.{Appends-trans}
use Rattle.std.proofs.lemmas.Result.{on_ok_weaker}
use Rattle.std.specs.Io.KnownBytes.{Appends}
use Rattle.byteorder.specs.Endian.{little_bytes}
use Rattle.stream_files.proofs.LowBytes.{low_bytes}
use Rattle.stream_files.proofs.ivf_writing.write_front.Goals as goal

pub returns : goal.returns
returns g c =
    let size : little_bytes 4 c.field_of.result ≡ little_bytes 4 c.args.size = rw c.field_of.ensures (low_bytes c.args.size) in
    let grown = Appends (g.W.Write.contents c.args.w.now) (g.W.Write.contents c.write_u32.new.self) in
    on_ok_weaker c.write_u64.result (λ p. Appends-trans _ _ _ _ _ (subst grown size c.in_ok-write_u32.ensures.bytes) p) c.write_u64.ensures.bytes
