use Rattle.std.proofs.Common.{◌≡◌, ◌<◌, length}
use Rattle.reference_frames.specs.FrameTokens.{token_state}
use Rattle.macroblock_lists.proofs.tokens.FrameTokens.read_first.Given as goal

abbrev pub invariant-loop-n : goal.invariant-loop-n
invariant-loop-n l = record {
  state : l.self ≡ token_state l.header l.columns l.initial.self l.records l.n;
  each : length l.self.readers ≡ length l.initial.self.readers;
  readers : 0 < length l.self.readers;
  above : length l.self.above ≡ l.columns;
}
