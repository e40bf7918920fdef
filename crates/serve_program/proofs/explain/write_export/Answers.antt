use Rattle.std.proofs.Common.{ℕ, List, subst}
use Rattle.std.proofs.lemmas.Result.{on_ok_weaker}
use Rattle.std.specs.Io.KnownBytes.{Appends}
use Rattle.serve_program.proofs.ExportLines.{same_line}
use Rattle.serve_program.proofs.explain.write_export.Goals as goal

pub returns : goal.returns
returns g c =
    let same = same_line c.args.export.now c.args.frames c.len-packets.result c.hidden-hidden.result c.bytes-bytes.result c.args.steps c.len-packets.ensures c.hidden-hidden.ensures c.bytes-bytes.ensures in
    on_ok_weaker c.write_numbers.result (λ said. subst (λ (text : List ℕ). Appends (g.E.Write.contents c.args.errors.now) (g.E.Write.contents c.write_numbers.new.errors) text) same said) c.write_numbers.ensures
