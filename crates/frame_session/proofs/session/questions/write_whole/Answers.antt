use Rattle.std.proofs.Common.{◌++◌, arith, refl}
use Rattle.std.proofs.lemmas.Grind.{common_steps}
use Rattle.std.specs.Io.KnownBytes.{Appends}
use Rattle.frame_session.specs.Replies.{lines_line}
use Rattle.frame_session.proofs.session.questions.write_whole.Goals as goal

pub returns-clause-told : goal.returns-clause-told
returns-clause-told g c =
    let wrote : Appends (g.W.Write.contents c.args.w.now) (g.W.Write.contents c.write_all.new.self) (lines_line c.args.lines ++ c.args.text.now) = grind (arith, common_steps) in
    (lines_line c.args.lines ++ c.args.text.now, wrote, refl)
