use Rattle.std.proofs.Common.{◌≡◌, ◌+◌, ◌<◌, sym, ◌∙◌, SFits, w16, rules, arith}
use Rattle.std.specs.Prelude.{min}
use Rattle.std.proofs.lemmas.Int.{to_z-of_z}
use Rattle.token_parser.proofs.Steps.{end-step, more-step, zero-step, some-step, last-step}
use Rattle.token_parser.proofs.Zigzag.{zigzag-small}
use Rattle.token_parser.proofs.block_tokens.read_more_tokens.Goals.{then-size-gt1, else-size-gt1}
use Rattle.token_parser.proofs.block_tokens.read_more_tokens.Goals as goal

pub offset_bounds-coefficients-place : goal.offset_bounds-coefficients-place
offset_bounds-coefficients-place c = grind (arith, zigzag-small c.tokens.place)

pub bounds-coefficients-place : goal.bounds-coefficients-place
bounds-coefficients-place c = zigzag-small c.tokens.place

pub returns-then-place-eq16-clause-value : goal.returns-then-place-eq16-clause-value
returns-then-place-eq16-clause-value c =
    let fits : SFits w16 c.read_sign.result = search rules in
    rw (to_z-of_z w16 _ fits) (sym c.tokens.invariant.same ∙ some-step _ _ _ _ _ _ _ _ _ _ _ _ _ c.tokens.invariant.nodes c.tokens.invariant.most c.bit.ensures c.if-bit.true c.read_size-size.ensures.value c.read_sign.ensures ∙ last-step _ _ _ _ _ _ _ c.if-place-eq16.true)

pub returns-then-not-bit-clause-value : goal.returns-then-not-bit-clause-value
returns-then-not-bit-clause-value c =
    let context : c.if-size-gt1.context ≡ min c.read_size-size.result 2 = elim c.if-size-gt1.branch [ then-size-gt1 w ↦ omega (arith, w.context-is, w.if-size-gt1.true) | else-size-gt1 w ↦ omega (arith, w.context-is, w.if-size-gt1.false, c.read_size-size.ensures.some) ] in
    let fits : SFits w16 c.read_sign.result = search rules in
    let below : c.tokens.place + 1 < 16 = omega (arith, c.tokens.invariant.most, c.if-place-eq16.false) in
    rw (to_z-of_z w16 _ fits) (sym c.tokens.invariant.same ∙ some-step _ _ _ _ _ _ _ _ _ _ _ _ _ c.tokens.invariant.nodes c.tokens.invariant.most c.bit.ensures c.if-bit.true c.read_size-size.ensures.value c.read_sign.ensures ∙ end-step _ _ _ _ _ _ _ _ _ (rw context at c.nodes_at-nodes-then-bit.ensures) below c.bit-then-bit.ensures c.if-not-bit.true)

pub tokens-preserved-else-not-bit : goal.tokens-preserved-else-not-bit
tokens-preserved-else-not-bit c =
    let context : c.if-size-gt1.context ≡ min c.read_size-size.result 2 = elim c.if-size-gt1.branch [ then-size-gt1 w ↦ omega (arith, w.context-is, w.if-size-gt1.true) | else-size-gt1 w ↦ omega (arith, w.context-is, w.if-size-gt1.false, c.read_size-size.ensures.some) ] in
    let fits : SFits w16 c.read_sign.result = search rules in
    let below : c.tokens.place + 1 < 16 = omega (arith, c.tokens.invariant.most, c.if-place-eq16.false) in
    record {
      same = rw (to_z-of_z w16 _ fits, context) (sym (some-step _ _ _ _ _ _ _ _ _ _ _ _ _ c.tokens.invariant.nodes c.tokens.invariant.most c.bit.ensures c.if-bit.true c.read_size-size.ensures.value c.read_sign.ensures ∙ more-step _ _ _ _ _ _ _ _ _ (rw context at c.nodes_at-nodes-then-bit.ensures) below c.bit-then-bit.ensures c.if-not-bit.false) ∙ c.tokens.invariant.same);
      nodes = c.nodes_at-nodes-then-bit.ensures;
      least = omega (arith, c.tokens.invariant.least);
      most = below;
    }

pub returns-then-place-eq16-2-clause-value : goal.returns-then-place-eq16-2-clause-value
returns-then-place-eq16-2-clause-value c =
    sym c.tokens.invariant.same ∙ zero-step _ _ _ _ _ _ _ _ _ c.tokens.invariant.nodes c.tokens.invariant.most c.bit.ensures c.if-bit.false ∙ last-step _ _ _ _ _ _ _ c.if-place-eq16-2.true

pub tokens-preserved : goal.tokens-preserved
tokens-preserved c = record {
  same = sym (zero-step _ _ _ _ _ _ _ _ _ c.tokens.invariant.nodes c.tokens.invariant.most c.bit.ensures c.if-bit.false) ∙ c.tokens.invariant.same;
  nodes = c.nodes_at-nodes-else-bit.ensures;
  least = omega (arith, c.tokens.invariant.least);
  most = omega (arith, c.tokens.invariant.most, c.if-place-eq16-2.false);
}
