use Rattle.std.proofs.Common.{arith, refl}
use Rattle.std.proofs.lemmas.Grind.{common_steps}
use Rattle.std.specs.Io.KnownBytes.{Appends}
use Rattle.frame_session.specs.Replies.{packet_line}
use Rattle.frame_session.proofs.replies.write_packet.Goals as goal

pub returns-clause-told : goal.returns-clause-told
returns-clause-told g c =
    let wrote : Appends (g.W.Write.contents c.args.w.now) (g.W.Write.contents c.write_text.new.w) (packet_line c.args.stamp c.args.bytes.now) = grind (arith, common_steps) in
    (packet_line c.args.stamp c.args.bytes.now, wrote, refl)
