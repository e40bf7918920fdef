use Rattle.std.specs.Int.{int_shr}
use Rattle.std.proofs.Common.{◌≡◌, ◌∙◌, ap, to_z, of_z, w32, arith}
use Rattle.std.proofs.lemmas.Int.{to_z-of_z, ints}
use Rattle.inter_predict.proofs.Predicted.{first_tap_is, whole_fits}
use Rattle.inter_predict.proofs.blocks.first_tap.Goals as goal

pub returns : goal.returns
returns c =
    let whole = whole_fits c.args.eighths c.ranges.eighths in
    let eighths : to_z w32 (of_z w32 c.args.eighths) ≡ c.args.eighths = to_z-of_z w32 c.args.eighths c.ranges.eighths in
    let one : c.from.result ≡ to_z w32 (of_z w32 c.args.place) = c.from.ensures in
    let other : c.from-2.result ≡ to_z w32 (of_z w32 (int_shr (to_z w32 (of_z w32 c.args.eighths)) 3)) = c.from-2.ensures in
    let back : to_z w32 (of_z w32 (int_shr c.args.eighths 3)) ≡ int_shr c.args.eighths 3 = omega (arith, ints) in
    let tap = first_tap_is c.args.place (int_shr c.args.eighths 3) c.from.result c.from-2.result c.ranges.place whole (one ∙ to_z-of_z w32 c.args.place c.ranges.place) (other ∙ ap (λ z. to_z w32 (of_z w32 (int_shr z 3))) eighths ∙ back) in
    record { value = tap.0; near = rw tap.0 tap.1 }
