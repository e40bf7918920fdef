use Rattle.std.proofs.Common.{◌≡◌, ◌+◌, ◌%◌, ◌<◌, ℕ, Bool, List, length, sym, ap, ◌∙◌, subst, arith}
use Rattle.packet_edits.specs.FlagCounts.{AreCounts}
use Rattle.packet_edits.proofs.Runs.{counts_pushed}
use Rattle.packet_edits.proofs.flag_index.FlagIndex.push.Goals.{in-Ok, in-Err}
use Rattle.packet_edits.proofs.flag_index.FlagIndex.push.Goals as goal

pub invariant_of-self : goal.invariant_of-self
invariant_of-self c =
    let flags = c.self.inside.flags in
    let same : length flags ≡ length c.args.self.now = ap length c.self.view_is in
    let few : length flags < 1048576 = omega (arith, same, c.requires) in
    elim c.match-push.branch [
      | in-Ok w ↦ subst (λ (fs : List Bool). AreCounts c.self.inside.counts.items fs) (sym w.in-Ok.ensures)
          (counts_pushed c.self.inside.counts.items flags c.args.flag c.self.invariant few (λ whole. c.if-len-eq0.false (ap (λ (n : ℕ). (n + 1) % 1024) c.len.ensures ∙ whole)))
      | in-Err w ↦ subst (λ (fs : List Bool). AreCounts c.self.inside.counts.items fs) (sym w.in-Err.ensures) c.self.invariant
    ]
