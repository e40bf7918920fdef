use Rattle.std.specs.Prelude.{slice_index}
use Rattle.intra_predict.specs.Blocks.{IsBlockAmong}
use Rattle.intra_predict.proofs.lanes.fill_columns.Given as goal

abbrev pub invariant-loop-row : goal.invariant-loop-row
invariant-loop-row g l = IsBlockAmong (λ column row. slice_index l.fn.left row) g.row.N l.row l.fn.stride l.fn.out l.out
