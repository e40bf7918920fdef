use Rattle.std.proofs.Common.{ℕ, ap, ◌∙◌, rules}
use Rattle.packet_edits.proofs.Runs.{pushed_moved}
use Rattle.chunked_list.specs.Moves.{moved}
use Rattle.packet_edits.proofs.flag_index.FlagIndex.insert.Goals as goal

pub returns : goal.returns
returns c =
    c.move_to.ensures ∙ ap (λ (n : ℕ). moved n c.args.at c.push.new.self) c.len-len.ensures ∙ pushed_moved c.args.self.now c.push.new.self c.args.at c.args.flag (search rules)
