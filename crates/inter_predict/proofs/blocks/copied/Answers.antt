use Rattle.std.proofs.Common.{SFits, w32, to_z, of_z, ◌∙◌, ap, refl, rules}
use Rattle.std.proofs.lemmas.Int.{to_z-of_z}
use Rattle.inter_predict.specs.InterSample.{fraction}
use Rattle.inter_predict.proofs.Predicted.{copied_is}
use Rattle.inter_predict.proofs.blocks.copied.Goals as goal

pub returns-in-Some : goal.returns-in-Some
returns-in-Some g c =
    let right_fits : SFits w32 c.args.vector.0 = search rules in
    let below_fits : SFits w32 c.args.vector.1 = search rules in
    copied_is c.args.reference.kind c.args.reference.plane.now.shown c.args.place.x c.args.place.y c.args.vector.0 c.args.vector.1 c.first_tap-left.result c.first_tap-top.result (fraction (to_z w32 (of_z w32 c.args.vector.0))) (fraction (to_z w32 (of_z w32 c.args.vector.1))) c.in-Some.window.samples.now c.in-Some.window.stride g.row.N c.args.height c.args.stride c.args.out.now c.copy.new.out
    refl refl (ap fraction (to_z-of_z w32 _ right_fits) ∙ c.requires.whole.0) (ap fraction (to_z-of_z w32 _ below_fits) ∙ c.requires.whole.1) (search rules) (search rules) (search rules) (search rules) c.first_tap-left.ensures.value c.first_tap-top.ensures.value c.first_tap-left.ensures.near c.first_tap-top.ensures.near c.in-Some.ensures.samples (λ k. (c.type_inv.out k).fits) c.copy.ensures
