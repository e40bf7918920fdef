-- How the code appends a record to those before it.
use Rattle.std.specs.Prelude.{ℕ, Bool, Option, List, [], ◌∷◌, ◌++◌, length}
use Rattle.bool_coder.specs.Reading.{Reading, ◌>>=◌, give}
use Rattle.vp8_tables.specs.Tables.{TableEntries}
use Rattle.frame_header.specs.declared.header.Header.{Header}
use Rattle.mode_parser.specs.declared.records.MbMode.{MbMode}
use Rattle.mode_parser.specs.declared.nearby.MbPosition.{MbPosition}
use Rattle.frame_header.specs.declared.references.Reference.{Reference}
use Rattle.intra_predict.specs.declared.modes.WholeMode.TheVariants.{Dc}
use Rattle.mode_parser.specs.declared.records.VectorMode.TheVariants.{Split}
use Rattle.mode_parser.specs.declared.records.YMode.TheVariants.{Inter}
use Rattle.mode_parser.specs.declared.record_list.Start.{Start}
use Rattle.mode_parser.specs.Vectors.{MotionVector}
use Rattle.mode_parser.specs.Records.{key_mode, no_sub_modes}
use Rattle.mode_parser.specs.InterRecords.{referenced_mode, inter_mode}
use Rattle.mode_parser.specs.FrameModes.{record_above, record_left, record_above_left, mode_at}

-- records with one more appended, which is read, except its segment
abbrev pub appended : ℕ → List MbMode → Reading MbMode → Reading (List MbMode)
appended segment before rest = do
  mode ← rest
  give (before ++ record mode { segment = segment } ∷ [])

-- the first records of a frame with the next one appended
abbrev pub one_more : TableEntries → Header → ℕ → ℕ → Option (List ℕ) → List MbMode → Reading (List MbMode)
one_more tables header columns rows map before = do
  mode ← mode_at tables header columns rows map (length before) before
  give (before ++ mode ∷ [])

-- the record of a macroblock of a key frame at the index after these
abbrev pub key_mode_at : TableEntries → Option ℕ → MbPosition → List MbMode → Reading MbMode
key_mode_at tables skip_probability place before =
    let here = length before in
    key_mode tables skip_probability (record_above before place.columns here) (record_left before place.columns here)

-- the record of a macroblock with a reference, and of one of an inter frame, at the index after these
abbrev pub referenced_mode_at : Bool → Header → MbPosition → List MbMode → Reading MbMode
referenced_mode_at is_skipped header place before =
    let here = length before in
    referenced_mode is_skipped header place (record_above before place.columns here) (record_left before place.columns here) (record_above_left before place.columns here)

abbrev pub inter_mode_at : Header → MbPosition → List MbMode → Reading MbMode
inter_mode_at header place before =
    let here = length before in
    inter_mode header place (record_above before place.columns here) (record_left before place.columns here) (record_above_left before place.columns here)

-- records with that of a split macroblock appended, of which the vectors are read
abbrev pub appended_split : Start → Reference → List MbMode → Reading (List MotionVector) → Reading (List MbMode)
appended_split start reference before rest = do
  vectors ← rest
  give (before ++ record { segment = start.segment; is_skipped = start.is_skipped; y_mode = Inter reference Split; sub_modes = no_sub_modes; uv_mode = Dc; vectors = vectors } ∷ [])
