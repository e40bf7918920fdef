use Rattle.std.proofs.Common.{◌≡◌, length}
use Rattle.token_parser.specs.Rows.{AreRows}
use Rattle.token_parser.proofs.rows.Rows.of.Given as goal

abbrev pub invariant-loop-row : goal.invariant-loop-row
invariant-loop-row l = record {
  count : length l.rows ≡ 64;
  each : AreRows l.row l.probabilities l.rows;
}
