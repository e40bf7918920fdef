use Rattle.std.proofs.Common.{List, ℕ, ◌++◌, codes, ap, subst, ◌∙◌}
use Rattle.std.specs.Io.KnownBytes.{Appends}
use Rattle.std.specs.Fmt.{styled_decimal}
use Rattle.stream_checks.proofs.HashAligned.{right_of_ten}
use Rattle.stream_checks.proofs.hash_lines.write_time.Goals as goal

pub returns-in-Ok : goal.returns-in-Ok
returns-in-Ok g c =
    let grown : List ℕ → Type 0 = λ text. Appends (g.W.Write.contents c.args.w.now) (g.W.Write.contents c.write.new.self) (text ++ codes ", ") in
    subst grown (ap (λ spec. styled_decimal spec c.args.stamp) c.laid_out.ensures ∙ right_of_ten c.args.stamp) c.in-Ok.ensures.bytes
