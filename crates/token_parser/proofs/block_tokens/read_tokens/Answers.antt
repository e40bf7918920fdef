use Rattle.std.proofs.Common.{◌≡◌, true, false, sym, ◌∙◌}
use Rattle.token_parser.proofs.Fresh.{cleared_first, never_first}
use Rattle.token_parser.proofs.Steps.{end-step, more-step}
use Rattle.token_parser.proofs.block_tokens.read_tokens.Goals.{then-clears, else-clears}
use Rattle.token_parser.proofs.block_tokens.read_tokens.Goals as goal

pub returns-then-not-bit-clause-over : goal.returns-then-not-bit-clause-over
returns-then-not-bit-clause-over c = λ is. end-step _ _ _ _ _ _ _ _ _ c.nodes_at-nodes.ensures c.requires.first c.bit.ensures c.if-not-bit.true

pub returns-then-not-bit-clause-cleared : goal.returns-then-not-bit-clause-cleared
returns-then-not-bit-clause-cleared c = λ is. never_first _ _ _ _ _ _ _ (end-step _ _ _ _ _ _ _ _ _ c.nodes_at-nodes.ensures c.requires.first c.bit.ensures c.if-not-bit.true)

pub returns-clause-over : goal.returns-clause-over
returns-clause-over c = λ is. more-step _ _ _ _ _ _ _ _ _ c.nodes_at-nodes.ensures c.requires.first c.bit.ensures c.if-not-bit.false ∙ elim c.if-clears.branch [
  | then-clears w ↦ (let clash : true ≡ false = sym w.if-clears.true ∙ is in absurd (cc))
  | else-clears w ↦ rw w.coefficients-is at c.read_more_tokens.ensures.value
]

pub returns-clause-cleared : goal.returns-clause-cleared
returns-clause-cleared c = λ is. cleared_first _ _ _ _ _ _ _ _ (more-step _ _ _ _ _ _ _ _ _ c.nodes_at-nodes.ensures c.requires.first c.bit.ensures c.if-not-bit.false ∙ elim c.if-clears.branch [
  | then-clears w ↦ rw w.coefficients-is at c.read_more_tokens.ensures.value
  | else-clears w ↦ (let clash : true ≡ false = sym is ∙ w.if-clears.false in absurd (cc))
])
