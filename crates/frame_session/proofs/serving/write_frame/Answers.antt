use Rattle.std.proofs.Common.{List, ℕ, ◌++◌}
use Rattle.std.specs.Io.KnownBytes.{Appends}
use Rattle.std.proofs.KnownBytes.{Appends-trans}
use Rattle.std.proofs.lemmas.Result.{on_ok_weaker}
use Rattle.stream_files.specs.Y4m.{frame_text}
use Rattle.frame_session.specs.Answers.{opening}
use Rattle.frame_session.proofs.serving.write_frame.Goals as goal

pub returns : goal.returns
returns g c =
    let f = g.F.Write.contents c.args.frames.now in
    let mid = g.F.Write.contents c.write_opening.new.frames in
    let f' = g.F.Write.contents c.y4m_frame.new.w in
    let line : List ℕ = opening c.args.rate_due c.args.picture.now.width c.args.picture.now.height in
    let text : List ℕ = frame_text c.args.picture.now in
    let both : Appends mid f' text → Appends f f' (line ++ text) = Appends-trans f mid f' line text c.in_ok-write_opening.ensures in
    on_ok_weaker c.y4m_frame.result both c.y4m_frame.ensures
