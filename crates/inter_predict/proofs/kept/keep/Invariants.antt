use Rattle.std.proofs.Common.{◌≡◌, ℕ, [], ◌<◌, length}
use Rattle.std.specs.Prelude.{slice_index_or}
use Rattle.inter_predict.specs.Kernels.{IsLine}
use Rattle.inter_predict.proofs.kept.keep.Given as goal

abbrev pub invariant-loop-number : goal.invariant-loop-number
invariant-loop-number g l = (length l.kept ≡ 21) × ((number : ℕ) → number < l.number → IsLine g.row.N (g.L.Lines.sample l.fn.lines number) (slice_index_or l.kept number []))
