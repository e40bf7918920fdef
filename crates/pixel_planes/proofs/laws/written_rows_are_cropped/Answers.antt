use Rattle.pixel_planes.proofs.Written.{rows_written}
use Rattle.pixel_planes.proofs.laws.written_rows_are_cropped.Goals as goal

pub returns : goal.returns
returns c = rows_written
