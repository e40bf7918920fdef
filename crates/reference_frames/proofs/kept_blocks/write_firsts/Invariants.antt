use Rattle.std.specs.Prelude.{slice_index_or}
use Rattle.std.proofs.Common.{◌≡◌, ℕ, ◌<◌, ◌≤◌, false, length, pos, ◌*ℤ◌}
use Rattle.token_parser.specs.Stale.{own_coefficients}
use Rattle.transforms.specs.Transforms.{reduced}
use Rattle.reference_frames.proofs.kept_blocks.write_firsts.Given as goal

abbrev pub invariant-loop-k : goal.invariant-loop-k
invariant-loop-k l = record {
  long : length l.firsts ≡ 24;
  inside : (k : ℕ) → l.start ≤ k → k < l.k → slice_index_or l.firsts k (pos 0) ≡ reduced (slice_index_or (own_coefficients false l.tokens k) 0 (pos 0) *ℤ l.dc);
  before : (k : ℕ) → k < l.start → slice_index_or l.firsts k (pos 0) ≡ slice_index_or l.initial.firsts k (pos 0);
}
