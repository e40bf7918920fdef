use Rattle.std.proofs.Common.{◌≡◌, ◌+ℤ◌, ◌*ℤ◌, ◌-◌, ◌+◌, ◌*◌, pos, negsuc, neg_ℤ, arith, to_z, of_z, w32}
use Rattle.std.proofs.lemmas.Int.{ints}
use Rattle.mode_parser.proofs.NearLemmas.{clamped_component-is}
use Rattle.mode_parser.proofs.nearby.clamped_component.Goals as goal

pub returns-clause-value : goal.returns-clause-value
returns-clause-value c =
    let least : to_z w32 (of_z w32 (negsuc 63 *ℤ to_z w32 (of_z w32 (to_z w32 c.args.place +ℤ pos 1)))) ≡ neg_ℤ (pos (64 * (c.args.place + 1))) = omega (arith, ints, c.requires.inside, c.requires.most) in
    let most : to_z w32 (of_z w32 (pos 64 *ℤ to_z w32 (c.args.count - c.args.place))) ≡ pos (64 * (c.args.count - c.args.place)) = omega (arith, ints, c.requires.inside, c.requires.most) in
    let component : to_z w32 (of_z w32 c.args.component) ≡ c.args.component = omega (arith, ints) in
    let same : to_z w32 (of_z w32 c.clamp.result) ≡ c.clamp.result = omega (arith, ints, c.clamp.ensures) in
    clamped_component-is c.args.place c.args.count _ _ _ _ _ _ least most component c.clamp.ensures.value same
