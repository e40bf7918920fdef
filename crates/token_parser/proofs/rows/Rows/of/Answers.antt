use Rattle.std.proofs.Common.{◌≡◌, [], inl, inr, arith, refl, ◌∙◌}
use Rattle.std.proofs.lemmas.Bool.{cases_eq}
use Rattle.std.proofs.lemmas.List.{get_or-set_same, get_or-set_other, length-set}
use Rattle.token_parser.proofs.rows.Rows.of.Goals as goal

pub loop-row-init : goal.loop-row-init
loop-row-init c = record {
  count = refl;
  each = λ row less. (let first : row ≡ 0 = omega arith in rw first c.row_of-rows.ensures);
}

pub loop-row-preserved : goal.loop-row-preserved
loop-row-preserved c = record {
  count = length-set c.loop-row.rows c.loop-row.row c.row_of.result ∙ c.loop-row.invariant.count;
  each = λ row less. elim (cases_eq row c.loop-row.row) [
    | inl same ↦ rw same (get_or-set_same c.loop-row.rows c.loop-row.row c.row_of.result (record { contexts = [] }) (omega (arith, c.loop-row.invariant.count, c.loop-row-test.true)) ∙ c.row_of.ensures)
    | inr apart ↦ get_or-set_other c.loop-row.rows c.loop-row.row row c.row_of.result (record { contexts = [] }) apart ∙ c.loop-row.invariant.each row (omega (arith, less, apart))
  ];
}

pub invariant_of-result : goal.invariant_of-result
invariant_of-result c = (c.fits-probabilities, λ row less. c.loop-row.invariant.each row (omega (arith, less, c.loop-row-test.false)))
