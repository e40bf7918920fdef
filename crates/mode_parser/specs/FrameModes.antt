-- The modes of a frame: one record for each macroblock, in raster order.
use Rattle.std.specs.Prelude.{ℕ, zero, suc, ◌-◌, ◌*◌, ◌/◌, ◌%◌, ◌==◌, ◌||◌, nat_lt, Option, None, List, [], ◌∷◌, ◌++◌, length, slice_get, if◌then◌else◌}
use Rattle.bool_coder.specs.Reading.{Reading, ◌>>=◌, give}
use Rattle.vp8_tables.specs.Tables.{TableEntries}
use Rattle.frame_header.specs.declared.header.Header.{Header}
use Rattle.mode_parser.specs.declared.records.MbMode.{MbMode}
use Rattle.mode_parser.specs.declared.nearby.MbPosition.{MbPosition}
use Rattle.mode_parser.specs.Records.{key_mode}
use Rattle.mode_parser.specs.InterRecords.{inter_mode}
use Rattle.mode_parser.specs.Segments.{segment_at, map_after}

-- the records above and to the left of an index, among those before it in a frame of so many columns
abbrev pub record_above : List MbMode → ℕ → ℕ → Option MbMode
record_above before columns place = if nat_lt place columns then None else slice_get before (place - columns)

abbrev pub record_left : List MbMode → ℕ → ℕ → Option MbMode
record_left before columns place = if place % columns == 0 then None else slice_get before (place - 1)

abbrev pub record_above_left : List MbMode → ℕ → ℕ → Option MbMode
record_above_left before columns place = if nat_lt place columns || place % columns == 0 then None else slice_get before (place - columns - 1)

abbrev pub place_of : ℕ → ℕ → ℕ → MbPosition
place_of columns rows place = record { column = place % columns; row = place / columns; columns = columns; rows = rows }

-- the record at the index after those before it, except its segment, in a frame of either kind
abbrev pub prediction_at : TableEntries → Header → ℕ → ℕ → ℕ → List MbMode → Reading MbMode
prediction_at tables header columns rows place before =
    let above = record_above before columns place in
    let left = record_left before columns place in
    if header.is_key then key_mode tables header.skip_probability above left
    else inter_mode header (place_of columns rows place) above left (record_above_left before columns place)

-- the record at an index, after a segment map: its segment, and then the rest (section 19.3)
unfoldable pub mode_at : TableEntries → Header → ℕ → ℕ → Option (List ℕ) → ℕ → List MbMode → Reading MbMode
mode_at tables header columns rows map place before = do
  segment ← segment_at header map place
  mode ← prediction_at tables header columns rows place before
  give (record mode { segment = segment })

-- the records of the first macroblocks, in raster order
unfoldable pub first_modes : ℕ → TableEntries → Header → ℕ → ℕ → Option (List ℕ) → Reading (List MbMode)
first_modes zero tables header columns rows map = give []
first_modes (suc place) tables header columns rows map = do
  before ← first_modes place tables header columns rows map
  mode ← mode_at tables header columns rows map place before
  give (before ++ mode ∷ [])

-- the records of a frame, the segment of each macroblock after it, and the number of bits of the first partition that are
-- left after the records
pub record FrameModes : Type 0 where
  pub records : List MbMode
  pub segment_map : List ℕ
  pub left : ℕ

-- the modes of a frame of so many macroblocks each way, after a segment map (section 19.3)
abbrev pub modes_of : TableEntries → Header → ℕ → ℕ → Option (List ℕ) → FrameModes
modes_of tables header columns rows before =
    let read = first_modes (columns * rows) tables header columns rows before header.reader in
    record { records = read.0; segment_map = map_after header (columns * rows) before read.0; left = length read.1.rest }
