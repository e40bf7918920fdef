use Rattle.std.proofs.Common.{◌≡◌, ℕ, ◌+◌, ◌<◌, length}
use Rattle.std.specs.Prelude.{slice_index, slice_index_or}
use Rattle.bool_coder.specs.Odds.{odds_of}
use Rattle.token_parser.proofs.rows.context_at.Given as goal

abbrev pub invariant-loop-node : goal.invariant-loop-node
invariant-loop-node l = record {
  count : length l.odds ≡ 11;
  each : (k : ℕ) → k < l.node → slice_index_or l.odds k (odds_of 0) ≡ odds_of (slice_index l.probs (l.start + k));
}
