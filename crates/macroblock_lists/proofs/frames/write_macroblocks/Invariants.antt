use Rattle.std.proofs.Common.{◌≡◌}
use Rattle.std.specs.List.{flat_map, range_with_len}
use Rattle.std.specs.Io.KnownBytes.{Appends}
use Rattle.reference_frames.specs.FrameTokens.{token_state}
use Rattle.macroblock_lists.specs.Frames.{text_at}
use Rattle.macroblock_lists.specs.ProofsOnly.{IsAfter, own_after}
use Rattle.macroblock_lists.proofs.frames.write_macroblocks.Given as goal

abbrev pub invariant-loop-n : goal.invariant-loop-n
invariant-loop-n g l = record {
  said : Appends (g.W.Write.contents l.fn.w) (g.W.Write.contents l.w) (flat_map (text_at l.target.form l.target.place l.frame.header.now l.frame.columns l.initial.walk.own l.initial.walk.marked l.frame.records.now.modes.records l.frame.records.now.facts.items) (range_with_len 0 l.n));
  own : own_after l.frame.header.now l.frame.columns l.frame.records.now.modes.records l.n l.walk ≡ token_state l.frame.header.now l.frame.columns l.initial.walk.own l.frame.records.now.modes.records l.n;
  marked : l.walk.marked ≡ token_state l.frame.header.now l.frame.columns l.initial.walk.marked l.frame.records.now.modes.records l.n;
  after : IsAfter l.frame.header.now l.frame.columns l.frame.records.now.modes.records l.n l.walk;
}
