-- What decoding knows before a packet, except its samples: enough for the headers and the modes of the packets after it.
use Rattle.std.specs.Prelude.{◌≡◌, ℕ, ◌+◌, ◌*◌, ◌==◌, ◌≤◌, if◌then◌else◌, List, [], ◌∷◌, length, Option, Some, None, Result, Ok, Err}
use Rattle.std.specs.Option.{option_map}
use Rattle.vp8_tables.specs.Tables.{TableEntries}
use Rattle.frame_header.specs.declared.cause.Cause.{Cause}
use Rattle.frame_header.specs.declared.cause.Cause.TheVariants.{NoKeyFrame}
use Rattle.frame_header.specs.declared.context.Context.{Context}
use Rattle.frame_header.specs.declared.header.Header.{Header}
use Rattle.frame_header.specs.Header.{header_of}
use Rattle.frame_header.specs.Tags.{has_key_tag}
use Rattle.mode_parser.specs.FrameModes.{FrameModes, modes_of}
use Rattle.pixel_planes.specs.Pictures.{macroblocks}
use Rattle.stream_steps.specs.declared.broken.Broken.{Broken}

-- the context of the last header, the segment of each macroblock, and the size of the frames
pub record Known : Type 0 where
  pub context : Context
  pub segment_map : List ℕ
  pub width : ℕ
  pub height : ℕ

-- the size is one that a key frame has, and the map is of that size
pub record IsKnown (known : Known) : Type 0 where
  pub wide : (1 ≤ known.width) × (known.width ≤ 16383)
  pub high : (1 ≤ known.height) × (known.height ≤ 16383)
  pub map : length known.segment_map ≡ macroblocks known.width * macroblocks known.height

-- the shown size of a frame
abbrev pub width_of : Header → Option Known → ℕ
width_of header None = header.width
width_of header (Some before) = before.width

abbrev pub height_of : Header → Option Known → ℕ
height_of header None = header.height
height_of header (Some before) = before.height

-- the modes of a frame, by the segment map before it
abbrev pub frame_modes : TableEntries → Header → Option Known → FrameModes
frame_modes tables header before =
    modes_of tables header (macroblocks (width_of header before)) (macroblocks (height_of header before)) (option_map (λ k. k.segment_map) before)

abbrev pub known_after : TableEntries → Header → Option Known → Known
known_after tables header before = record {
  context = header.context_after;
  segment_map = (frame_modes tables header before).segment_map;
  width = width_of header before;
  height = height_of header before;
}

-- nothing is known before a packet with a key tag
abbrev pub known_before : List ℕ → Option Known → Option Known
known_before packet known = if has_key_tag packet then None else known

abbrev pub known_by : TableEntries → Option Known → Result Header Cause → Result Known Cause
known_by tables before (Ok header) = Ok (known_after tables header before)
known_by tables before (Err cause) = Err cause

-- a packet of no bytes changes nothing; without a key frame before it, it is refused
abbrev pub repeated : Option Known → Result Known Cause
repeated None = Err NoKeyFrame
repeated (Some known) = Ok known

-- the header of a packet with bytes, and what is known after the packet, or the first cause against it
abbrev pub header_after : TableEntries → Option Known → List ℕ → Result Header Cause
header_after tables known packet = header_of tables (option_map (λ k. k.context) known) packet

abbrev pub step_of : TableEntries → Option Known → List ℕ → Result Known Cause
step_of tables known packet = if length packet == 0 then repeated known else known_by tables (known_before packet known) (header_after tables known packet)

-- before a packet of a stream: what is known, or where the stream is broken
abbrev pub Knowledge : Type 0
Knowledge = Result (Option Known) Broken

abbrev pub left_at : ℕ → Result Known Cause → Knowledge
left_at place (Ok known) = Ok (Some known)
left_at place (Err cause) = Err (record { place = place; cause = cause })

abbrev pub following : TableEntries → ℕ → Knowledge → List ℕ → Knowledge
following tables place (Ok known) packet = left_at place (step_of tables known packet)
following tables place (Err broken) packet = Err broken

-- a packet with a key tag needs nothing before it
abbrev pub progress_after : TableEntries → ℕ → Knowledge → List ℕ → Knowledge
progress_after tables place progress packet = if has_key_tag packet then left_at place (step_of tables None packet) else following tables place progress packet

-- after packets, the first of which has the index `place`
abbrev pub progress_over : TableEntries → ℕ → Knowledge → List (List ℕ) → Knowledge
progress_over tables place progress [] = progress
progress_over tables place progress (packet ∷ packets) = progress_over tables (place + 1) (progress_after tables place progress packet) packets
