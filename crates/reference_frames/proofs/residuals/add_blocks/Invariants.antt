use Rattle.intra_predict.specs.WholeSample.{side_of}
use Rattle.reference_frames.proofs.AddedRows.{HasRows}
use Rattle.reference_frames.proofs.residuals.add_blocks.Given as goal

abbrev pub invariant-loop-n : goal.invariant-loop-n
invariant-loop-n l = HasRows (side_of l.fn.size) l.first l.blocks l.corner.across l.corner.column l.corner.row l.n l.initial.samples l.samples
