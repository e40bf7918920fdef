use Rattle.std.proofs.Common.{SFits, w16, rules, arith}
use Rattle.std.proofs.lemmas.Int.{ints, to_z-of_z}
use Rattle.loop_filter.proofs.LevelLemmas.{clamped-is}
use Rattle.loop_filter.proofs.levels.clamped.Goals as goal

pub returns-clause-value : goal.returns-clause-value
returns-clause-value c =
    let fits : SFits w16 c.clamp.result = search rules in
    rw (to_z-of_z w16 c.clamp.result fits, c.clamp.ensures.value, to_z-of_z w16 c.args.level c.ranges.level) (clamped-is c.args.level)

pub returns-clause-small : goal.returns-clause-small
returns-clause-small c = omega (arith, ints, c.clamp.ensures)
