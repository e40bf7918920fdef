use Rattle.transforms.proofs.MovedRows.{RowsMoved}
use Rattle.transforms.proofs.firsts.move_rows.Given as goal

abbrev pub invariant-loop-row : goal.invariant-loop-row
invariant-loop-row g l = RowsMoved l.fn.more l.fn.less g.row.N l.fn.stride l.row l.fn.samples l.samples
