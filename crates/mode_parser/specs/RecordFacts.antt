-- The bits that the record of each macroblock of a frame takes, and how the macroblock is split (RFC 6386, sections 16.3, 16.4 and 19.3).
use Rattle.std.specs.Prelude.{ℕ, ◌+◌, ◌-◌, ◌*◌, if◌then◌else◌, List, [], ◌∷◌, length, map, slice_index_or, Option, Some, None}
use Rattle.std.specs.List.{range_with_len}
use Rattle.bool_coder.specs.Reader.{read}
use Rattle.bool_coder.specs.Reading.{Reading, ◌>>=◌, give}
use Rattle.bool_coder.specs.Trees.{leaf}
use Rattle.vp8_tables.specs.Tables.{TableEntries}
use Rattle.vp8_tables.specs.declared.modes.TheConstants.{SPLIT_TREE, SPLIT_PROBABILITIES, SPLIT_STARTS}
use Rattle.frame_header.specs.declared.header.Header.{Header}
use Rattle.mode_parser.specs.declared.records.Split.{Split}
use Rattle.mode_parser.specs.declared.records.Split.TheVariants.{TopBottom, LeftRight, Quarters, Sixteenths}
use Rattle.mode_parser.specs.declared.records.VectorMode.{VectorMode}
use Rattle.mode_parser.specs.declared.records.VectorMode.TheVariants.{Zero, Nearest, Near as NearMode, New, Split as SplitMode}
use Rattle.mode_parser.specs.declared.records.MbMode.{MbMode}
use Rattle.mode_parser.specs.declared.nearby.MbPosition.{MbPosition}
use Rattle.mode_parser.specs.declared.record_facts.RecordFacts.{RecordFacts}
use Rattle.mode_parser.specs.Records.{skip}
use Rattle.mode_parser.specs.NearVectors.{near_of}
use Rattle.mode_parser.specs.InterRecords.{which_reference, vector_mode}
use Rattle.mode_parser.specs.Segments.{segment_at}
use Rattle.mode_parser.specs.FrameModes.{record_above, record_left, record_above_left, place_of, first_modes}

-- splits in the order of the leaves of their tree, and the blocks at which the parts of each start (section 16.4)
abbrev pub splits : List Split
splits = TopBottom ∷ LeftRight ∷ Quarters ∷ Sixteenths ∷ []

abbrev pub starts_of : Split → List ℕ
starts_of TopBottom = slice_index_or SPLIT_STARTS 0 []
starts_of LeftRight = slice_index_or SPLIT_STARTS 1 []
starts_of Quarters = slice_index_or SPLIT_STARTS 2 []
starts_of Sixteenths = slice_index_or SPLIT_STARTS 3 []

unfoldable pub which_split : Reading Split
which_split = do
  way ← leaf SPLIT_TREE SPLIT_PROBABILITIES
  give (slice_index_or splits way Sixteenths)

-- the split that follows a vector mode: only `mv_split` has one
unfoldable pub split_by : VectorMode → Reading (Option Split)
split_by SplitMode = do
  split ← which_split
  give (Some split)
split_by Zero = give None
split_by Nearest = give None
split_by NearMode = give None
split_by New = give None

-- the split of a macroblock with a reference, after the bit that says that it has one
unfoldable pub referenced_split : Header → MbPosition → Option MbMode → Option MbMode → Option MbMode → Reading (Option Split)
referenced_split header place above left above_left = do
  from ← which_reference header.reference_probabilities
  let near = near_of above left above_left from header.context.sign_biases place
  mode ← vector_mode near.counts
  split_by mode

-- the split of a macroblock of an inter frame, after its segment
unfoldable pub inter_split : Header → MbPosition → Option MbMode → Option MbMode → Option MbMode → Reading (Option Split)
inter_split header place above left above_left = do
  is_skipped ← skip header.skip_probability
  is_referenced ← read header.reference_probabilities.intra
  if is_referenced then referenced_split header place above left above_left else give None

-- the split of the macroblock at an index, after its segment; a key frame has none
abbrev pub split_in : Header → ℕ → ℕ → ℕ → List MbMode → Reading (Option Split)
split_in header columns rows place before =
    if header.is_key then give None
    else inter_split header (place_of columns rows place) (record_above before columns place) (record_left before columns place) (record_above_left before columns place)

-- the same by the start of its record, after a segment map
unfoldable pub split_at : Header → ℕ → ℕ → Option (List ℕ) → ℕ → List MbMode → Reading (Option Split)
split_at header columns rows segments place before = do
  segment ← segment_at header segments place
  split_in header columns rows place before

-- the bits of the first partition that are left after the records of the first n macroblocks
abbrev pub left_after : ℕ → TableEntries → Header → ℕ → ℕ → Option (List ℕ) → ℕ
left_after n tables header columns rows segments = length (first_modes n tables header columns rows segments header.reader).1.rest

-- the bits of the first partition that the record at an index takes
abbrev pub record_bits : TableEntries → Header → ℕ → ℕ → Option (List ℕ) → ℕ → ℕ
record_bits tables header columns rows segments place = left_after place tables header columns rows segments - left_after (place + 1) tables header columns rows segments

-- the bits of the record at an index, and the split that it says
abbrev pub facts_at : TableEntries → Header → ℕ → ℕ → Option (List ℕ) → ℕ → RecordFacts
facts_at tables header columns rows segments place =
    let before = first_modes place tables header columns rows segments header.reader in
    record { bits = record_bits tables header columns rows segments place; split = (split_at header columns rows segments place before.0 before.1).0 }

-- of each macroblock of a frame, in raster order
abbrev pub facts_of : TableEntries → Header → ℕ → ℕ → Option (List ℕ) → List RecordFacts
facts_of tables header columns rows segments = map (facts_at tables header columns rows segments) (range_with_len 0 (columns * rows))
