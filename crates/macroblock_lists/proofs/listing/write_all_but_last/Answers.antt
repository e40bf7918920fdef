use Rattle.std.proofs.Common.{◌≡◌, ◌+◌, ◌-◌, ◌++◌, ℕ, List, ap, sym, subst, ◌∙◌, arith}
use Rattle.std.proofs.KnownBytes.{Appends-trans}
use Rattle.std.proofs.lemmas.Result.{err_from_is_err_and}
use Rattle.std.specs.List.{flat_map, range_with_len}
use Rattle.std.specs.Io.KnownBytes.{Appends}
use Rattle.macroblock_lists.specs.Texts.{text_at}
use Rattle.macroblock_lists.proofs.Fronts.{end-within}
use Rattle.macroblock_lists.proofs.Loops.{texts_more}
use Rattle.macroblock_lists.proofs.listing.write_all_but_last.Goals as goal

pub loop-place-preserved : goal.loop-place-preserved
loop-place-preserved g c =
    let n = c.loop-place.place in
    let first = c.args.wanted.first in
    let text : ℕ → List ℕ = text_at c.args.wanted.what c.args.wanted.form c.args.tables.now c.args.packets.now in
    let at : first + (n - first) ≡ n = omega arith in
    let one : n + 1 - first ≡ n - first + 1 = omega arith in
    let more : flat_map text (range_with_len first (n + 1 - first)) ≡ flat_map text (range_with_len first (n - first)) ++ text n =
    ap (λ (k : ℕ). flat_map text (range_with_len first k)) one ∙ texts_more text first (n - first) n at in
    record {
      said = subst (λ (t : List ℕ). Appends (g.W.Write.contents c.args.w.now) (g.W.Write.contents c.write_next.new.w) t) (sym more) (Appends-trans _ _ _ _ _ c.loop-place.invariant.said c.in_ok-progress.ensures.written);
      enough = c.in_ok-progress.ensures.after;
    }

pub returns-in_err-progress-clause-early : goal.returns-in_err-progress-clause-early
returns-in_err-progress-clause-early g c =
    let text : ℕ → List ℕ = text_at c.args.wanted.what c.args.wanted.form c.args.tables.now c.args.packets.now in
    let p = err_from_is_err_and c.from_residual.result c.from_residual.ensures.1 in
    let early = rw c.in_err-progress.was at c.write_next.ensures.early in
    rw (p.1, p.2) (end-within text c.args.wanted.first (c.args.wanted.count - 1) c.loop-place.place _ _ _ _ (omega arith) (omega arith) c.loop-place.invariant.said early)
