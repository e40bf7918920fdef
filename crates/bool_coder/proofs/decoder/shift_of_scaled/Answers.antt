use Rattle.std.proofs.Common.{arith}
use Rattle.std.specs.Int.Count.{count_leading_zeros}
use Rattle.bool_coder.proofs.Products.{Highest, highest_of}
use Rattle.bool_coder.proofs.Shifts.{scaled-large, scaled-small}
use Rattle.bool_coder.proofs.decoder.shift_of_scaled.Goals as goal

pub returns-clause-few : goal.returns-clause-few
returns-clause-few c = let found : Highest c.args.scaled = highest_of c.args.scaled c.requires (omega (arith, c.ranges.scaled)) in omega arith

pub returns-clause-large : goal.returns-clause-large
returns-clause-large c =
    let found : Highest c.args.scaled = highest_of c.args.scaled c.requires (omega (arith, c.ranges.scaled)) in
    scaled-large _ found.top (count_leading_zeros 32 c.args.scaled) (omega arith) found.above

pub returns-clause-small : goal.returns-clause-small
returns-clause-small c =
    let found : Highest c.args.scaled = highest_of c.args.scaled c.requires (omega (arith, c.ranges.scaled)) in
    scaled-small _ found.top (count_leading_zeros 32 c.args.scaled) (omega arith) found.below
