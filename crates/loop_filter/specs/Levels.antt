-- The level of the loop filter for a macroblock (RFC 6386, sections 9.3, 9.4 and 15).
use Rattle.std.specs.Prelude.{ℕ, Bool, false, min, if◌then◌else◌, slice_index_or, ℤ, pos, negsuc, ◌+ℤ◌}
use Rattle.frame_header.specs.declared.context.FilterDeltas.{FilterDeltas}
use Rattle.frame_header.specs.declared.context.Segments.{Segments}
use Rattle.frame_header.specs.declared.header.Header.{Header}
use Rattle.frame_header.specs.declared.references.Reference.{Reference}
use Rattle.frame_header.specs.declared.references.Reference.TheVariants.{Last, Golden, Altref}
use Rattle.intra_predict.specs.declared.modes.WholeMode.TheVariants.{Dc}
use Rattle.mode_parser.specs.declared.records.MbMode.{MbMode}
use Rattle.mode_parser.specs.Records.{no_sub_modes, no_vectors}
use Rattle.mode_parser.specs.declared.records.VectorMode.{VectorMode}
use Rattle.mode_parser.specs.declared.records.VectorMode.TheVariants.{Zero, Nearest, Near, New, Split}
use Rattle.mode_parser.specs.declared.records.YMode.{YMode}
use Rattle.mode_parser.specs.declared.records.YMode.TheVariants.{Whole, B, Inter}

-- a number clamped to 0 to 63
abbrev pub clamped_level : ℤ → ℕ
clamped_level (pos n) = min n 63
clamped_level (negsuc n) = 0

-- the level in one of four segments: the frame's level; or with segments the segment's, which replaces it or is added to it (section 9.3)
abbrev pub level_in : ℕ → Bool → Segments → ℕ → ℕ
level_in level has_segments segments segment =
    let of_segment = slice_index_or segments.levels segment (pos 0) in
    clamped_level (if has_segments then (if segments.is_absolute then of_segment else pos level +ℤ of_segment) else pos level)

-- the index of a macroblock's change by reference (`ref_lf_deltas` in libvpx): the first if it is predicted from its own frame (section 9.4)
abbrev pub number_of_reference : Reference → ℕ
number_of_reference Last = 1
number_of_reference Golden = 2
number_of_reference Altref = 3

abbrev pub reference_number : YMode → ℕ
reference_number (Whole mode) = 0
reference_number B = 0
reference_number (Inter reference mode) = number_of_reference reference

abbrev pub reference_delta : FilterDeltas → YMode → ℤ
reference_delta deltas mode = slice_index_or deltas.reference (reference_number mode) (pos 0)

-- the change by the mode of vectors (`mode_lf_deltas` in libvpx, section 9.4)
abbrev pub vector_mode_delta : FilterDeltas → VectorMode → ℤ
vector_mode_delta deltas Zero = slice_index_or deltas.mode 1 (pos 0)
vector_mode_delta deltas Nearest = slice_index_or deltas.mode 2 (pos 0)
vector_mode_delta deltas Near = slice_index_or deltas.mode 2 (pos 0)
vector_mode_delta deltas New = slice_index_or deltas.mode 2 (pos 0)
vector_mode_delta deltas Split = slice_index_or deltas.mode 3 (pos 0)

-- the change by mode: of the intra modes, only B has one (section 9.4)
abbrev pub mode_delta : FilterDeltas → YMode → ℤ
mode_delta deltas (Whole mode) = pos 0
mode_delta deltas B = slice_index_or deltas.mode 0 (pos 0)
mode_delta deltas (Inter reference mode) = vector_mode_delta deltas mode

-- a level changed by reference and by mode
abbrev pub changed_level : FilterDeltas → YMode → ℕ → ℕ
changed_level deltas mode level = clamped_level ((pos level +ℤ reference_delta deltas mode) +ℤ mode_delta deltas mode)

-- the level of a macroblock: the level in its segment, changed if the frame adjusts levels
unfoldable pub level_of : Header → MbMode → ℕ
level_of header mode =
    let level = level_in header.filter.level header.segmentation.is_enabled header.context.segments mode.segment in
    if header.adjusts_level then changed_level header.context.deltas mode.y_mode level else level

-- a record of this segment and mode; no level depends on what else it has
abbrev pub record_by : ℕ → YMode → MbMode
record_by segment mode = record { segment = segment; is_skipped = false; y_mode = mode; sub_modes = no_sub_modes; uv_mode = Dc; vectors = no_vectors }
