use Rattle.std.proofs.Common.{◌≡◌, ℕ, ◌+◌, ◌-◌, List, map, sym, subst, ap, ◌∙◌, arith}
use Rattle.std.specs.List.{concat, range_with_len}
use Rattle.std.proofs.KnownBytes.{Appends-trans}
use Rattle.std.specs.Io.KnownBytes.{Appends}
use Rattle.frame_session.specs.Origins.{origin_line}
use Rattle.frame_session.proofs.Listed.{origins_more}
use Rattle.frame_session.proofs.session.Session.write_origin_lines.Goals as goal

pub loop-n-preserved : goal.loop-n-preserved
loop-n-preserved g c =
    let now = c.args.self.now.state in
    let first = c.args.first in
    let n = c.loop-n.n in
    let one : n + 1 - first ≡ n - first + 1 = omega arith in
    let more = ap (λ (k : ℕ). concat (map (origin_line now) (range_with_len first k))) one ∙ origins_more now first (n - first) n (omega arith) in
    subst (λ (t : List ℕ). Appends (g.W.Write.contents c.args.w.now) (g.W.Write.contents c.write_origin_line.new.w) t) (sym more)
    (Appends-trans _ _ _ _ _ c.loop-n.invariant c.in_ok-write_origin_line.ensures)
