use Rattle.std.proofs.Common.{[], map, ap, ◌∙◌}
use Rattle.bool_coder.specs.Odds.{odds_of, prob_in}
use Rattle.std.proofs.lemmas.List.{length-map}
use Rattle.bool_coder.proofs.Chains.{part-probabilities}
use Rattle.token_parser.proofs.RowLemmas.{all-odds, length-nodes, odds-in_row, probs-odds}
use Rattle.token_parser.proofs.rows.Rows.nodes_at.Goals as goal

pub invariant_of-result : goal.invariant_of-result
invariant_of-result c =
    rw (odds-in_row c.self.inside.probs c.self.inside.rows c.args.kind c.args.place c.args.context (record { odds = [] }) c.self.invariant.1 c.requires.kind c.requires.place c.requires.context) (length-map _ odds_of ∙ length-nodes c.self.inside.probs c.args.kind c.args.place c.args.context c.self.told c.requires.kind c.requires.place c.requires.context, all-odds _ (part-probabilities c.self.inside.probs _ _ c.self.invariant.0))

pub returns : goal.returns
returns c = rw (← c.self.view_is) (ap (map prob_in) (odds-in_row c.self.inside.probs c.self.inside.rows c.args.kind c.args.place c.args.context (record { odds = [] }) c.self.invariant.1 c.requires.kind c.requires.place c.requires.context) ∙ probs-odds _)
