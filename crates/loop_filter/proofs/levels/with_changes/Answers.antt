use Rattle.std.proofs.Common.{◌≡◌, ◌∙◌, pos, ◌+ℤ◌, ap, w16, to_z, of_z, arith}
use Rattle.std.proofs.lemmas.Int.{ints}
use Rattle.loop_filter.specs.Levels.{clamped_level}
use Rattle.loop_filter.proofs.levels.with_changes.Goals as goal

pub returns-clause-value : goal.returns-clause-value
returns-clause-value c =
    let by_both : to_z w16 (of_z w16 (to_z w16 (of_z w16 c.from.result) +ℤ to_z w16 (of_z w16 c.from-2.result))) ≡ c.args.by_reference +ℤ c.args.by_mode = omega (arith, ints, c.from.ensures, c.from-2.ensures) in
    let changed : to_z w16 (of_z w16 (to_z w16 (of_z w16 c.from-3.result) +ℤ to_z w16 (of_z w16 (to_z w16 (of_z w16 c.from.result) +ℤ to_z w16 (of_z w16 c.from-2.result))))) ≡ (pos c.args.level +ℤ c.args.by_reference) +ℤ c.args.by_mode = omega (arith, ints, by_both, c.from-3.ensures) in
    c.clamped.ensures.value ∙ ap clamped_level changed
