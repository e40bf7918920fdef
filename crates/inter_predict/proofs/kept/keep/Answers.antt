use Rattle.std.proofs.Common.{◌≡◌, ℕ, [], List, subst, sym, inl, inr, ◌∙◌, arith}
use Rattle.std.proofs.lemmas.Bool.{cases_lt}
use Rattle.std.proofs.lemmas.List.{get_or-set_same, get_or-set_other, length-set}
use Rattle.inter_predict.specs.Kernels.{IsLine}
use Rattle.inter_predict.proofs.kept.keep.Goals as goal

pub loop-number-preserved : goal.loop-number-preserved
loop-number-preserved g c =
    let long = c.loop-number.invariant.0 in (
      length-set c.loop-number.kept c.loop-number.number c.line.result ∙ long,
      λ number less.
          elim (cases_lt number c.loop-number.number) [
            | inl before ↦ subst (λ (lanes : List ℕ). IsLine g.row.N (g.L.Lines.sample c.args.lines number) lanes) (sym (get_or-set_other c.loop-number.kept c.loop-number.number number c.line.result [] (λ same. omega (arith, same)))) (c.loop-number.invariant.1 number before)
            | inr from ↦
                let same : number ≡ c.loop-number.number = omega arith in
                rw same (subst (λ (lanes : List ℕ). IsLine g.row.N (g.L.Lines.sample c.args.lines c.loop-number.number) lanes) (sym (get_or-set_same c.loop-number.kept c.loop-number.number c.line.result [] (omega (arith, long)))) c.line.ensures)
          ],
    )
