-- One step of decoding: tables, a state or none, and a packet determine a state and a picture, or a cause (RFC 6386, section
-- 9).
use Rattle.std.specs.Prelude.{ℕ, ◌==◌, List, length, Option, Some, None, Result, Ok, Err, ◌≡◌, if◌then◌else◌}
use Rattle.std.specs.Option.{option_map}
use Rattle.vp8_tables.specs.Tables.{TableEntries}
use Rattle.frame_header.specs.declared.cause.Cause.{Cause}
use Rattle.frame_header.specs.declared.cause.Cause.TheVariants.{NoKeyFrame}
use Rattle.frame_header.specs.declared.header.Header.{Header}
use Rattle.frame_header.specs.Header.{header_of}
use Rattle.frame_header.specs.Tags.{has_key_tag}
use Rattle.mode_parser.specs.FrameModes.{FrameModes, modes_of}
use Rattle.pixel_planes.specs.Pictures.{PictureSamples, macroblocks}
use Rattle.pixel_planes.specs.PlaneSamples.{picture_of}
use Rattle.loop_filter.specs.Frames.{filtered_planes}
use Rattle.mode_parser.specs.declared.records.MbMode.{MbMode}
use Rattle.reference_frames.specs.FrameTokens.{flags_of, residual_at, tokens_start}
use Rattle.reference_frames.specs.References.{references_after}
use Rattle.reference_frames.specs.Unfiltered.{unfiltered}
use Rattle.reference_frames.specs.declared.references.References.{References}
use Rattle.reference_frames.specs.declared.states.State.{State}
use Rattle.reference_frames.specs.declared.step_fault.StepFault.{StepFault}
use Rattle.reference_frames.specs.declared.step_fault.StepFault.TheVariants.{Refused, NoMemory}

-- the state before a packet: none for a packet with a key tag
abbrev pub state_before : List ℕ → Option State → Option State
state_before packet state = if has_key_tag packet then None else state

abbrev pub references_before : Option State → Option References
references_before before = option_map (λ s. s.references) before

-- the shown size of a frame: its references' size, or a key frame's own
abbrev pub width_of : Header → Option State → ℕ
width_of header None = header.width
width_of header (Some before) = before.references.last.width

abbrev pub height_of : Header → Option State → ℕ
height_of header None = header.height
height_of header (Some before) = before.references.last.height

-- the picture of a frame of this shown size, by its references, its records and the residuals of its token partitions, after the loop filter, which depends on which macroblocks have tokens
unfoldable pub decoded_picture : List ℕ → Header → Option References → ℕ → ℕ → List MbMode → PictureSamples
decoded_picture packet header references width height modes =
    let columns = macroblocks width in
    let start = tokens_start header.partitions.items packet columns in
    let planes = unfiltered header.version references columns (macroblocks height) modes (residual_at header columns start modes) in
    picture_of width height (filtered_planes header modes (flags_of header columns start modes) planes)

-- the modes of a frame, by the segment map before it
abbrev pub frame_modes : TableEntries → Header → Option State → FrameModes
frame_modes tables header before =
    modes_of tables header (macroblocks (width_of header before)) (macroblocks (height_of header before)) (option_map (λ s. s.segment_map) before)

-- a key frame's picture becomes each of the references (section 9.7)
abbrev pub references_after_frame : Header → PictureSamples → Option State → References
references_after_frame header picture None = record { last = picture; golden = picture; altref = picture }
references_after_frame header picture (Some before) = references_after header.references picture before.references

abbrev pub state_with : Header → FrameModes → PictureSamples → Option State → State
state_with header modes picture before = record {
  context = header.context_after;
  segment_map = modes.segment_map;
  references = references_after_frame header picture before;
}

-- the state after a frame, and its picture, which is the same whether it refreshes a reference or not
abbrev pub decoded : TableEntries → List ℕ → Header → Option State → State × PictureSamples
decoded tables packet header before =
    let modes = frame_modes tables header before in
    let picture = decoded_picture packet header (references_before before) (width_of header before) (height_of header before) modes.records in
    (state_with header modes picture before, picture)

-- the result for an accepted header
abbrev pub decoded_by : TableEntries → List ℕ → Option State → Result Header Cause → Result (State × PictureSamples) Cause
decoded_by tables packet state (Ok header) = Ok (decoded tables packet header (state_before packet state))
decoded_by tables packet state (Err cause) = Err cause

-- a packet of no bytes drops a frame: the state stays and its last reference is shown; with no state there is no picture to show
abbrev pub repeated : Option State → Result (State × PictureSamples) Cause
repeated None = Err NoKeyFrame
repeated (Some state) = Ok (state, state.references.last)

-- the step of a packet with bytes
abbrev pub coded_step : TableEntries → Option State → List ℕ → Result (State × PictureSamples) Cause
coded_step tables state packet = decoded_by tables packet state (header_of tables (option_map (λ s. s.context) state) packet)

-- the step
unfoldable pub step_of : TableEntries → Option State → List ℕ → Result (State × PictureSamples) Cause
step_of tables state packet = if length packet == 0 then repeated state else coded_step tables state packet

-- the answer is the step's, or that there was no memory
abbrev pub StepAnswers : Result (State × PictureSamples) Cause → Result (State × PictureSamples) StepFault → Type 0
StepAnswers want (Ok decoded) = want ≡ Ok decoded
StepAnswers want (Err (Refused cause)) = want ≡ Err cause
StepAnswers want (Err NoMemory) = Unit {0}
