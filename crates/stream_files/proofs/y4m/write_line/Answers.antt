use Rattle.std.proofs.Common.{subst}
use Rattle.std.specs.Fmt.{decimal}
use Rattle.std.specs.Io.KnownBytes.{Appends}
use Rattle.stream_files.proofs.Lines.{line_parts}
use Rattle.stream_files.proofs.y4m.write_line.Goals as goal

pub returns-in-Ok : goal.returns-in-Ok
returns-in-Ok g c =
    let grown = Appends (g.W.Write.contents c.args.w.now) (g.W.Write.contents c.writeln.new.self) in
    subst grown (line_parts (decimal c.args.width) (decimal c.args.height) (decimal c.args.rate) (decimal c.args.scale)) c.in-Ok.ensures.bytes
