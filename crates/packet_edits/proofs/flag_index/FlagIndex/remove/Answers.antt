use Rattle.std.proofs.Common.{◌≡◌, ◌+◌, ◌-◌, length, take, ap, ◌∙◌, arith}
use Rattle.packet_edits.proofs.Runs.{moved_cut}
use Rattle.packet_edits.proofs.flag_index.FlagIndex.remove.Goals as goal

pub returns : goal.returns
returns c =
    let last : c.len-last.result - 1 + 1 ≡ length c.args.self.now = omega (arith, c.len-last.ensures, c.requires) in
    c.truncate.ensures ∙ ap (take (c.len-last.result - 1)) c.move_to.ensures ∙ moved_cut c.args.self.now c.args.at (c.len-last.result - 1) c.requires last
