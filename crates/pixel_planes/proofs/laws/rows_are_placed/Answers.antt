use Rattle.pixel_planes.proofs.BlockRows.{sample_of_rows}
use Rattle.pixel_planes.proofs.laws.rows_are_placed.Goals as goal

pub returns : goal.returns
returns c = sample_of_rows
