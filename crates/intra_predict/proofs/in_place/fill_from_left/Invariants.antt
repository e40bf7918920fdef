use Rattle.intra_predict.specs.InPlace.{start_of, left_among, IsBlockFrom}
use Rattle.intra_predict.specs.WholeSample.{left_at}
use Rattle.intra_predict.proofs.in_place.fill_from_left.Given as goal

abbrev pub invariant-loop-row : goal.invariant-loop-row
invariant-loop-row g l = IsBlockFrom (λ column row. left_at (left_among l.fn.samples l.fn.corner g.row.N) row) (start_of l.fn.corner) g.row.N l.row l.fn.corner.across l.fn.samples l.samples
