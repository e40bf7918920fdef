-- The state of a reader of a frame's tokens.
use Rattle.std.specs.Prelude.{if◌then◌else◌, None, Some}
use Rattle.mode_parser.specs.declared.records.MbMode.{MbMode}
use Rattle.reference_frames.specs.FrameTokens.{TokenState}
use Rattle.reference_frames.specs.Restored.{Residual}
use Rattle.reference_frames.specs.declared.frame_tokens.FrameTokens.{FrameTokens}

abbrev pub state_of : FrameTokens → TokenState
state_of tokens = record { readers = tokens.readers.items; above = tokens.above.items; left = tokens.left }

-- the residual that it keeps of the macroblock with this record, which was read last
abbrev pub kept_residual : FrameTokens → MbMode → Residual
kept_residual tokens mode = if mode.is_skipped then None else Some tokens.blocks
