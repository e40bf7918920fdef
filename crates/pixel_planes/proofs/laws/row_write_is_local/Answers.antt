use Rattle.pixel_planes.proofs.Rows.{row_write_local}
use Rattle.pixel_planes.proofs.laws.row_write_is_local.Goals as goal

pub returns : goal.returns
returns c = row_write_local
