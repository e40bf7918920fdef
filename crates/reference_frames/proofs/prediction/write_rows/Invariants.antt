use Rattle.std.proofs.Common.{◌≡◌, ◌+◌, ◌*◌}
use Rattle.std.specs.Prelude.{slice_index}
use Rattle.reference_frames.specs.WrittenBlocks.{block_rows_put}
use Rattle.reference_frames.proofs.prediction.write_rows.Given as goal

abbrev pub invariant-loop-row : goal.invariant-loop-row
invariant-loop-row l = l.samples ≡ block_rows_put l.initial.samples l.start l.stride l.side (λ column row. slice_index l.block (row * l.side + column)) l.row
