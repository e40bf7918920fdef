use Rattle.std.proofs.Common.{◌≡◌, length, inl, inr, rules, arith, ◌∙◌}
use Rattle.std.proofs.lemmas.Bool.{cases_eq}
use Rattle.std.proofs.lemmas.List.{get_or-set_same, get_or-set_other, length-set}
use Rattle.bool_coder.specs.Odds.{odds_of}
use Rattle.token_parser.proofs.RowLemmas.{context-all}
use Rattle.token_parser.proofs.rows.context_at.Goals as goal

pub loop-node-preserved : goal.loop-node-preserved
loop-node-preserved c = record {
  count = length-set c.loop-node.odds c.loop-node.node c.of.result ∙ c.loop-node.invariant.count;
  each = λ k less. elim (cases_eq k c.loop-node.node) [
    | inl same ↦ rw same (get_or-set_same c.loop-node.odds c.loop-node.node c.of.result (odds_of 0) (omega (arith, c.loop-node.invariant.count, c.loop-node-test.true)) ∙ c.of.ensures.value)
    | inr apart ↦ get_or-set_other c.loop-node.odds c.loop-node.node k c.of.result (odds_of 0) apart ∙ c.loop-node.invariant.each k (omega (arith, less, apart))
  ];
}

pub returns : goal.returns
returns c =
    let all : length c.args.probs.now ≡ 1056 = search rules in
    context-all c.args.probs.now c.loop-node.odds c.args.start (omega (arith, c.requires, all)) c.loop-node.invariant.count (λ k less. c.loop-node.invariant.each k (omega (arith, less, c.loop-node-test.false)))
