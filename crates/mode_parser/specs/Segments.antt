-- The segment of a macroblock, and the segment map after a frame (RFC 6386, sections 9.3 and 10).
use Rattle.std.specs.Prelude.{ℕ, Bool, true, false, Option, Some, None, List, map, replicate, slice_index_or, if◌then◌else◌}
use Rattle.bool_coder.specs.Reading.{Reading, give}
use Rattle.bool_coder.specs.Trees.{leaf}
use Rattle.vp8_tables.specs.declared.modes.TheConstants.{SEGMENT_TREE}
use Rattle.frame_header.specs.declared.header.Header.{Header}
use Rattle.mode_parser.specs.declared.records.MbMode.{MbMode}

-- the number of a segment, by the probabilities of the map's tree (section 10)
unfoldable pub segment_number : List ℕ → Reading ℕ
segment_number probabilities = leaf SEGMENT_TREE probabilities

-- the segment that the macroblock at an index has from the map before the frame; in a key frame it is 0 (section 9.3)
abbrev pub kept_segment : Bool → Option (List ℕ) → ℕ → ℕ
kept_segment true before place = 0
kept_segment false None place = 0
kept_segment false (Some before) place = slice_index_or before place 0

-- the segment of the macroblock at an index: read if the frame updates the map, and else kept; 0 in a frame without segments
unfoldable pub segment_at : Header → Option (List ℕ) → ℕ → Reading ℕ
segment_at header before place =
    if header.segmentation.updates_map then segment_number header.segmentation.map_probabilities
    else give (if header.segmentation.is_enabled then kept_segment header.is_key before place else 0)

-- the map that a frame keeps, of so many macroblocks: zeros in a key frame, and else the one before it (section 9.3)
abbrev pub kept_map : Bool → ℕ → Option (List ℕ) → List ℕ
kept_map true count before = replicate count 0
kept_map false count None = replicate count 0
kept_map false count (Some before) = before

-- the segment map after a frame: its records' segments if it updates the map, and else the one that it keeps
abbrev pub map_after : Header → ℕ → Option (List ℕ) → List MbMode → List ℕ
map_after header count before records =
    if header.segmentation.updates_map then map (λ macroblock. macroblock.segment) records else kept_map header.is_key count before
