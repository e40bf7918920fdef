use Rattle.std.proofs.Common.{subst, codes}
use Rattle.std.specs.Fmt.{decimal}
use Rattle.std.specs.Io.KnownBytes.{Appends}
use Rattle.stream_checks.proofs.HashHeads.{joined}
use Rattle.stream_checks.proofs.hash_lines.write_head.Goals as goal

pub returns-in-Ok : goal.returns-in-Ok
returns-in-Ok g c =
    let grown = Appends (g.W.Write.contents c.args.w.now) (g.W.Write.contents c.write.new.self) in
    subst grown (joined (codes "#format: frame checksums\n#version: 2\n#hash: MD5\n#tb 0: ") (decimal c.args.base.numerator) (codes "/") (decimal c.args.base.denominator)
    (codes "\n#media_type 0: video\n#codec_id 0: rawvideo\n#dimensions 0: ") (decimal c.args.width) (codes "x") (decimal c.args.height)
    (codes "\n#sar 0: 0/1\n#stream#, dts,        pts, duration,     size, hash\n")) c.in-Ok.ensures.bytes
