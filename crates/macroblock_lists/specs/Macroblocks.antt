-- What a macroblock is made of: its record, the quantizer and the filter in force, its tokens, and the bits that these take.
use Rattle.std.specs.Prelude.{ℕ, ◌-◌, ◌==◌, ◌||◌, Bool, false, if◌then◌else◌, List, [], length, slice_index_or, Option, Some, None}
use Rattle.bool_coder.specs.Reader.{Reader, started}
use Rattle.frame_header.specs.declared.header.Header.{Header}
use Rattle.mode_parser.specs.declared.records.MbMode.{MbMode}
use Rattle.mode_parser.specs.declared.record_facts.RecordFacts.{RecordFacts}
use Rattle.transforms.specs.Factors.{index_of}
use Rattle.loop_filter.specs.Frames.{has_subblock_modes}
use Rattle.loop_filter.specs.Levels.{level_of}
use Rattle.loop_filter.specs.Strengths.{limits_of}
use Rattle.loop_filter.specs.declared.edge_limits.Limits.{Limits}
use Rattle.reference_frames.specs.FrameTokens.{TokenState, flag_with, partition_of, tokens_at}
use Rattle.macroblock_lists.specs.declared.macroblocks.Macroblock.{Macroblock}

-- the filter level in force: a frame of level 0 is not filtered (RFC 6386, section 9.6)
abbrev pub level_in_force : Header → MbMode → ℕ
level_in_force header mode = if header.filter.level == 0 then 0 else level_of header mode

-- the limits of this level, if there is a filter
abbrev pub limits_in_force : Header → ℕ → Option Limits
limits_in_force header level = if level == 0 then None else Some (limits_of level header.filter.sharpness header.is_key)

-- whether the inner edges of a macroblock are filtered, given whether one of its blocks has a token (section 15.1)
abbrev pub filters_inside : MbMode → ℕ → Bool → Bool
filters_inside mode level has_tokens = if level == 0 then false else has_subblock_modes mode.y_mode || has_tokens

-- the reader of the partition of a row, and the bits that it has left
abbrev pub reader_at : TokenState → ℕ → Reader
reader_at state row = slice_index_or state.readers (partition_of state row) (started [])

abbrev pub left_at : TokenState → ℕ → ℕ
left_at state row = length (reader_at state row).rest

-- the bits of its partition that the tokens of a macroblock take in, by readers of partitions with zeros and a mark after each
-- (`marked` of bool_coder, law `marks_count_bits`)
abbrev pub bits_at : List ℕ → TokenState → ℕ → ℕ → MbMode → ℕ
bits_at probs state column row mode = left_at state row - length (tokens_at probs state column row mode).1.rest

-- the macroblock in this column and row, with this record and its facts: `state` is before it, and so is `marked`, with zeros and a mark
-- after each partition
abbrev pub macroblock_of : Header → ℕ → ℕ → TokenState → TokenState → MbMode → RecordFacts → Macroblock
macroblock_of header column row state marked mode facts =
    let probs = header.context.probabilities.coefficients in
    let tokens = (tokens_at probs state column row mode).0 in
    let level = level_in_force header mode in
    record {
      column = column;
      row = row;
      mode = mode;
      split = facts.split;
      quantizer = index_of header mode.segment;
      level = level;
      limits = limits_in_force header level;
      filters_inside = filters_inside mode level (flag_with mode tokens);
      coefficients = tokens.coefficients;
      mode_bits = facts.bits;
      token_bits = bits_at probs marked column row mode;
    }
