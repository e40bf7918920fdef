use Rattle.std.proofs.Common.{◌≡◌, ◌∙◌, ap, length, min, sym, arith, rules}
use Rattle.packet_edits.specs.declared.packet_index.PacketIndex.{PacketIndex}
use Rattle.packet_edits.specs.FlagCounts.{flagged_before}
use Rattle.packet_edits.proofs.Shown.{shown_are_flagged}
use Rattle.packet_edits.proofs.store.Store.shown_before.Goals as goal

pub returns : goal.returns
returns c =
    let es = c.self.inside.entries in
    let end : c.min-end.result ≡ min c.args.at (length es) = search (rules, arith) in
    rw (← c.self.view_is) (c.count_before.ensures ∙ ap (λ (i : PacketIndex). flagged_before c.min-end.result i.shown) c.self.invariant.indexed ∙ sym (shown_are_flagged 0 es c.args.at c.min-end.result end))
