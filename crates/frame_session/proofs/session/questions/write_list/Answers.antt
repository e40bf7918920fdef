use Rattle.std.proofs.Common.{ℕ, List, refl, sym, subst, arith}
use Rattle.std.proofs.KnownBytes.{Appends-trans}
use Rattle.std.specs.Io.KnownBytes.{Appends}
use Rattle.frame_session.proofs.Listed.{list_replied}
use Rattle.frame_session.proofs.session.questions.write_list.Goals as goal

pub returns-clause-wrote : goal.returns-clause-wrote
returns-clause-wrote g c =
    let list = c.args.store.now.list in
    let whole = list_replied list c.args.first c.args.count _ (omega arith) (omega arith) in
    subst (λ (t : List ℕ). Appends (g.W.Write.contents c.args.w.now) (g.W.Write.contents c.write_lines.new.w) t) (sym whole)
    (Appends-trans _ _ _ _ _ c.in_ok-write_lines_line.ensures c.in_ok-write_lines.ensures.written)

pub returns-clause-told : goal.returns-clause-told
returns-clause-told g c = (_, Appends-trans _ _ _ _ _ c.in_ok-write_lines_line.ensures c.in_ok-write_lines.ensures.written, refl)
