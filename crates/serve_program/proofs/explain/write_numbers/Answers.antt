use Rattle.std.proofs.lemmas.Result.{on_ok_weaker}
use Rattle.std.proofs.KnownBytes.{Appends-trans}
use Rattle.serve_program.specs.Reports.{packets_part, size_part}
use Rattle.serve_program.proofs.explain.write_numbers.Goals as goal

pub returns : goal.returns
returns g c =
    let text = g.E.Write.contents in
    on_ok_weaker c.writeln.result
    (λ said. Appends-trans (text c.args.errors.now) (text c.write.new.self) (text c.writeln.new.self) (packets_part c.args.frames c.args.packets c.args.hidden) (size_part c.args.bytes c.args.steps) c.in_ok-write.ensures.bytes said) c.writeln.ensures.bytes
