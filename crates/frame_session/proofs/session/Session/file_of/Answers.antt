use Rattle.std.proofs.Common.{◌≡◌, length, arith, ap, ◌∙◌}
use Rattle.frame_session.proofs.ExportedFrames.{stamped_length}
use Rattle.frame_session.proofs.session.Session.file_of.Goals as goal

pub invariant_of-result : goal.invariant_of-result
invariant_of-result c =
    let long : length c.in_ok-packets.packets ≡ length c.args.packets.items = ap length c.in_ok-packets.ensures ∙ stamped_length c.deref.result.now c.args.packets.items in
    record { few = omega (arith, long, c.requires.few) }
