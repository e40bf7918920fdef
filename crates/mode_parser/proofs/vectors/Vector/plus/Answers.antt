use Rattle.std.proofs.Common.{◌≡◌, ◌+ℤ◌, arith, to_z, of_z, w32, refl, ◌∙◌}
use Rattle.std.proofs.lemmas.Int.{ints}
use Rattle.mode_parser.proofs.vectors.Vector.plus.Goals as goal

pub returns : goal.returns
returns c =
    let x : to_z w32 (of_z w32 (to_z w32 (of_z w32 c.x.result) +ℤ to_z w32 (of_z w32 c.x-2.result))) ≡ c.x.result +ℤ c.x-2.result = omega (arith, ints, c.x.ensures.within, c.x-2.ensures.within) in
    let y : to_z w32 (of_z w32 (to_z w32 (of_z w32 c.y.result) +ℤ to_z w32 (of_z w32 c.y-2.result))) ≡ c.y.result +ℤ c.y-2.result = omega (arith, ints, c.y.ensures.within, c.y-2.ensures.within) in
    c.new.ensures ∙ rw (x, y, c.x.ensures.value, c.x-2.ensures.value, c.y.ensures.value, c.y-2.ensures.value) refl
