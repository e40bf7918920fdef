use Rattle.std.proofs.Common.{refl, arith}
use Rattle.transforms.specs.Residuals.{firsts_residual}
use Rattle.reference_frames.proofs.Added.{added_at, firsts_are, two_pairs}
use Rattle.reference_frames.proofs.residuals.add_four.Goals as goal

pub returns-in-Some : goal.returns-in-Some
returns-in-Some c =
    let is = added_at (firsts_residual c.in-Some.firsts) c.args.corner.across 16 c.args.corner.column c.args.corner.row c.args.samples.now c.dct_add_four_firsts.new.samples _ (omega arith) c.requires.column c.requires.room c.dct_add_four_firsts.ensures refl in
    firsts_are c.args.blocks.now c.in-Some.firsts c.args.corner.across 4 c.args.k c.args.corner.column c.args.corner.row c.args.samples.now _ c.in-Some.ensures is

pub returns-in-None : goal.returns-in-None
returns-in-None c =
    two_pairs c.args.blocks.now c.args.corner.across c.args.k c.args.corner.column c.args.corner.row c.args.samples.now c.add_two.new.samples c.add_two-in-None.new.samples c.requires.column c.add_two.ensures c.add_two-in-None.ensures
