use Rattle.std.proofs.Common.{SFits, w32, ◌∙◌, ap, rules}
use Rattle.std.proofs.lemmas.Int.{to_z-of_z}
use Rattle.inter_predict.specs.InterSample.{fraction}
use Rattle.inter_predict.proofs.FarPieces.{near_within, whole_apart, whole_there}
use Rattle.inter_predict.proofs.blocks.near.Goals as goal

pub returns : goal.returns
returns c = record {
  near = (near_within c.first_tap.result c.first_tap.ensures.near, near_within c.first_tap-2.result c.first_tap-2.ensures.near);
  eighths = (c.fraction.ensures.bound, c.fraction-2.ensures.bound);
  samples = λ column row.
      let x_fits : SFits w32 c.args.source.x = search rules in
      let y_fits : SFits w32 c.args.source.y = search rules in
      let right_fits : SFits w32 c.args.source.vector.0 = search rules in
      let below_fits : SFits w32 c.args.source.vector.1 = search rules in
      whole_apart c.args.source.kind c.args.source.plane.now.shown c.args.source.x c.args.source.y c.args.source.vector.0 c.args.source.vector.1 _ _ c.fraction.result c.fraction-2.result column row
      (whole_there c.args.source.x c.args.source.vector.0 c.first_tap.result x_fits right_fits c.first_tap.ensures.value c.first_tap.ensures.near)
      (whole_there c.args.source.y c.args.source.vector.1 c.first_tap-2.result y_fits below_fits c.first_tap-2.ensures.value c.first_tap-2.ensures.near)
      (c.fraction.ensures.value ∙ ap fraction (to_z-of_z w32 _ right_fits)) (c.fraction-2.ensures.value ∙ ap fraction (to_z-of_z w32 _ below_fits));
}
