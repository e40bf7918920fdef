use Rattle.std.proofs.Common.{SFits, w32, ◌∙◌, ap, sym, rules}
use Rattle.std.proofs.lemmas.Int.{to_z-of_z}
use Rattle.inter_predict.specs.InterSample.{fraction}
use Rattle.inter_predict.proofs.blocks.columns.Goals as goal

pub copied-requires-clause-whole : goal.copied-requires-clause-whole
copied-requires-clause-whole g c =
    let right_fits : SFits w32 c.args.source.vector.0 = search rules in
    let below_fits : SFits w32 c.args.source.vector.1 = search rules in (
      sym (ap fraction (to_z-of_z w32 _ right_fits)) ∙ sym c.fraction.ensures.value ∙ c.if-fraction-eq0.true,
      sym (ap fraction (to_z-of_z w32 _ below_fits)) ∙ sym c.fraction-then-fraction-eq0.ensures.value ∙ c.if-fraction-eq0-2.true,
    )
