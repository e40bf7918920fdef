-- The macroblocks of a frame, in raster order.
use Rattle.std.specs.Prelude.{ℕ, ◌/◌, ◌%◌, List, [], length, slice_get, Option, Some, None}
use Rattle.std.specs.List.{flat_map, range_with_len}
use Rattle.vp8_tables.specs.Tables.{TableEntries}
use Rattle.frame_header.specs.declared.header.Header.{Header}
use Rattle.mode_parser.specs.declared.records.MbMode.{MbMode}
use Rattle.mode_parser.specs.declared.record_facts.RecordFacts.{RecordFacts}
use Rattle.pixel_planes.specs.Pictures.{macroblocks}
use Rattle.reference_frames.specs.FrameTokens.{TokenState, token_state, tokens_start}
use Rattle.macroblock_lists.specs.PartitionEnds.{marked_start, zeros_for}
use Rattle.macroblock_lists.specs.declared.layouts.Form.{Form}
use Rattle.macroblock_lists.specs.declared.layouts.Form.TheVariants.{Lines, Objects}
use Rattle.macroblock_lists.specs.declared.macroblocks.Macroblock.{Macroblock}
use Rattle.macroblock_lists.specs.Known.{Known, frame_modes, height_of, width_of}
use Rattle.macroblock_lists.specs.Lines.{line_of}
use Rattle.macroblock_lists.specs.Macroblocks.{macroblock_of}
use Rattle.macroblock_lists.specs.Objects.{object_of}
use Rattle.macroblock_lists.specs.Records.{facts_in, frame_facts}

abbrev pub macroblock_text : Form → ℕ → Macroblock → List ℕ
macroblock_text Lines packet macroblock = line_of packet macroblock
macroblock_text Objects packet macroblock = object_of packet macroblock

-- the text of the macroblock with this record
abbrev pub text_by : Form → ℕ → Header → ℕ → ℕ → TokenState → TokenState → RecordFacts → Option MbMode → List ℕ
text_by form packet header columns place state marked facts None = []
text_by form packet header columns place state marked facts (Some mode) =
    macroblock_text form packet (macroblock_of header (place % columns) (place / columns) state marked mode facts)

-- and of the macroblock at an index, by the tokens of those before it: `start` and `marked` are before the first
unfoldable pub text_at : Form → ℕ → Header → ℕ → TokenState → TokenState → List MbMode → List RecordFacts → ℕ → List ℕ
text_at form packet header columns start marked modes facts place =
    text_by form packet header columns place (token_state header columns start modes place) (token_state header columns marked modes place) (facts_in facts place) (slice_get modes place)

abbrev pub texts_of : Form → ℕ → Header → ℕ → TokenState → TokenState → List MbMode → List RecordFacts → List ℕ
texts_of form packet header columns start marked modes facts = flat_map (text_at form packet header columns start marked modes facts) (range_with_len 0 (length modes))

-- of a frame, by what is known before it
abbrev pub frame_text : Form → ℕ → TableEntries → List ℕ → Header → Option Known → List ℕ
frame_text form place tables packet header before =
    let columns = macroblocks (width_of header before) in
    let zeros = zeros_for columns (macroblocks (height_of header before)) in
    texts_of form place header columns (tokens_start header.partitions.items packet columns) (marked_start zeros header.partitions.items packet columns)
    (frame_modes tables header before).records (frame_facts tables packet header before)
