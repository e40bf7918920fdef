use Rattle.std.proofs.Common.{ℕ, List, refl, sym, subst, arith}
use Rattle.std.proofs.KnownBytes.{Appends-trans}
use Rattle.std.specs.Io.KnownBytes.{Appends}
use Rattle.frame_session.proofs.Listed.{origins_replied}
use Rattle.frame_session.proofs.session.Session.write_origins.Goals as goal

pub returns-clause-wrote : goal.returns-clause-wrote
returns-clause-wrote g c =
    let whole = origins_replied c.args.self.now.state c.args.first c.args.count _ (omega arith) (omega arith) in
    subst (λ (t : List ℕ). Appends (g.W.Write.contents c.args.w.now) (g.W.Write.contents c.write_origin_lines.new.w) t) (sym whole)
    (Appends-trans _ _ _ _ _ c.in_ok-write_lines_line.ensures c.in_ok-write_origin_lines.ensures)

pub returns-clause-told : goal.returns-clause-told
returns-clause-told g c = (_, Appends-trans _ _ _ _ _ c.in_ok-write_lines_line.ensures c.in_ok-write_origin_lines.ensures, refl)
