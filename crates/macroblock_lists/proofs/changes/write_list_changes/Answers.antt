use Rattle.std.proofs.Common.{ℕ, List, sym, subst, arith}
use Rattle.std.proofs.KnownBytes.{Appends-trans}
use Rattle.std.specs.Io.KnownBytes.{Appends}
use Rattle.macroblock_lists.specs.Changes.{change_at}
use Rattle.macroblock_lists.proofs.Loops.{texts_more}
use Rattle.macroblock_lists.proofs.changes.write_list_changes.Goals as goal

pub loop-index-preserved : goal.loop-index-preserved
loop-index-preserved g c =
    let n = c.loop-index.index in
    let text : ℕ → List ℕ = change_at c.args.form c.args.packet c.args.name.now c.args.old.now c.args.new.now in
    subst (λ (t : List ℕ). Appends (g.W.Write.contents c.args.w.now) (g.W.Write.contents c.write_change_if.new.w) t) (sym (texts_more text 0 n n (omega arith)))
    (Appends-trans _ _ _ _ _ c.loop-index.invariant c.in_ok-write_change_if.ensures)
