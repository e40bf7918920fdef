use Rattle.pixel_planes.proofs.InBlock.{row_of_laid_out}
use Rattle.pixel_planes.proofs.planes.Plane.row.Goals as goal

pub returns-clause-value : goal.returns-clause-value
returns-clause-value c = rw (← c.self.view_is, c.deref.ensures.value) (row_of_laid_out _ _ c.args.y c.self.invariant.0 (rw (← c.self.view_is) at c.requires))
