use Rattle.intra_predict.specs.InPlace.{start_of, above_among, left_among, corner_among, IsBlockFrom}
use Rattle.intra_predict.specs.Means.{gradient}
use Rattle.intra_predict.specs.WholeSample.{above_at, left_at}
use Rattle.intra_predict.proofs.in_place.fill_by_gradients.Given as goal

abbrev pub invariant-loop-row : goal.invariant-loop-row
invariant-loop-row g l =
    IsBlockFrom (λ column row. gradient (left_at (left_among l.fn.samples l.fn.corner g.row.N) row) (above_at (above_among l.fn.samples l.fn.corner g.row.N) column) (corner_among l.fn.samples l.fn.corner)) (start_of l.fn.corner) g.row.N l.row l.fn.corner.across l.fn.samples l.samples
