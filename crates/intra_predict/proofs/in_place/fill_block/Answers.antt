use Rattle.std.specs.Prelude.{slice_index}
use Rattle.std.proofs.Common.{refl, arith}
use Rattle.intra_predict.specs.InPlace.{start_of}
use Rattle.intra_predict.proofs.InPlace.{part_from}
use Rattle.intra_predict.proofs.in_place.fill_block.Goals as goal

pub returns : goal.returns
returns g c =
    part_from (λ column row. slice_index c.args.line column) (start_of c.args.corner) g.row.N g.row.N c.args.corner.across c.args.samples.now c.fill_rows.new.out _ (omega (arith, c.requires.block.3)) refl c.fill_rows.ensures
