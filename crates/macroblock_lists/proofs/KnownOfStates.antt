-- What is known of a state after a step is known by the same step without samples.
use Rattle.std.proofs.Common.{◌≡◌, ℕ, ◌+◌, ◌==◌, Bool, true, false, List, [], ◌∷◌, length, Option, Some, None, Result, Ok, Err, ap, refl}
use Rattle.std.specs.Prelude.{if◌then◌else◌}
use Rattle.std.specs.Option.{option_map}
use Rattle.vp8_tables.specs.declared.tables.Tables.{Tables}
use Rattle.frame_header.specs.declared.cause.Cause.{Cause}
use Rattle.frame_header.specs.declared.context.Context.{Context}
use Rattle.frame_header.specs.declared.header.Header.{Header}
use Rattle.frame_header.specs.Tags.{has_key_tag}
use Rattle.pixel_planes.specs.Pictures.{PictureSamples}
use Rattle.reference_frames.specs.declared.states.State.{State}
use Rattle.reference_frames.specs.Steps as steps
use Rattle.stream_steps.specs.Decoding as decoding
use Rattle.macroblock_lists.specs.Known as known
use Rattle.macroblock_lists.specs.KnownLaws.{KnownIsDecoded, ModesAreDecoded, known_in, known_of}

-- the last reference has one size, whether a frame refreshes it or not
by_refresh : (refreshes : Bool) (context : Context) (map : List ℕ) (picture last : PictureSamples) → picture.width ≡ last.width → picture.height ≡ last.height
    → let after : known.Known = record { context = context; segment_map = map; width = last.width; height = last.height } in
    let kept = if refreshes then picture else last in
    let found : known.Known = record { context = context; segment_map = map; width = kept.width; height = kept.height } in
    after ≡ found
by_refresh true context map picture last wide high = rw (wide, high) refl
by_refresh false context map picture last wide high = refl

pub modes_known : ModesAreDecoded
modes_known tables header None = refl
modes_known tables header (Some before) = refl

after_frame : (tables : Tables) (packet : List ℕ) (header : Header) (before : Option State)
    → known.known_after tables header (option_map known_of before) ≡ known_of (steps.decoded tables packet header before).0
unfolding steps.decoded_picture
after_frame tables packet header None = refl
after_frame tables packet header (Some before) = by_refresh header.references.refreshes_last _ _ _ _ refl refl

-- a frame that is decoded, by whether its packet has a key tag
by_key : (key : Bool) (tables : Tables) (packet : List ℕ) (header : Header) (state : Option State)
    → known.known_after tables header (if key then None else option_map known_of state) ≡ known_of (steps.decoded tables packet header (if key then None else state)).0
by_key true tables packet header state = after_frame tables packet header None
by_key false tables packet header state = after_frame tables packet header state

abbrev left : ℕ → known.Known → known.Knowledge
left place found = known.left_at place (Ok found)

-- a packet with bytes, by its header
by_header : (tables : Tables) (place : ℕ) (packet : List ℕ) (state : Option State) (header : Result Header Cause)
    → known.left_at place (known.known_by tables (known.known_before packet (option_map known_of state)) header)
    ≡ known_in (decoding.left_by (decoding.reported_at place (steps.decoded_by tables packet state header)))
by_header tables place packet state (Err cause) = refl
by_header tables place packet state (Ok header) = ap (left place) (by_key (has_key_tag packet) tables packet header state)

coded : (tables : Tables) (place : ℕ) (packet : List ℕ) (state : Option State)
    → known.left_at place (known.known_by tables (known.known_before packet (option_map known_of state)) (known.header_after tables (option_map known_of state) packet))
    ≡ known_in (decoding.left_by (decoding.reported_at place (steps.coded_step tables state packet)))
coded tables place packet None = by_header tables place packet None _
coded tables place packet (Some state) = by_header tables place packet (Some state) _

empty : (place : ℕ) (state : Option State) → known.left_at place (known.repeated (option_map known_of state)) ≡ known_in (decoding.left_by (decoding.reported_at place (steps.repeated state)))
empty place None = refl
empty place (Some state) = refl

-- a step, by whether its packet has bytes
by_length : (is_empty : Bool) (tables : Tables) (place : ℕ) (packet : List ℕ) (state : Option State)
    → known.left_at place (if is_empty then known.repeated (option_map known_of state) else known.known_by tables (known.known_before packet (option_map known_of state)) (known.header_after tables (option_map known_of state) packet))
    ≡ known_in (decoding.left_by (decoding.reported_at place (if is_empty then steps.repeated state else steps.coded_step tables state packet)))
by_length true tables place packet state = empty place state
by_length false tables place packet state = coded tables place packet state

stepped : (tables : Tables) (place : ℕ) (packet : List ℕ) (state : Option State)
    → known.left_at place (known.step_of tables (option_map known_of state) packet) ≡ known_in (decoding.left_by (decoding.reported_at place (steps.step_of tables state packet)))
unfolding steps.step_of
stepped tables place packet state = by_length (length packet == 0) tables place packet state

-- a packet after decoding so far, by whether it has a key tag
after_packet : (key : Bool) (tables : Tables) (place : ℕ) (packet : List ℕ) (before : decoding.Progress)
    → (if key then known.left_at place (known.step_of tables None packet) else known.following tables place (known_in before) packet)
    ≡ known_in (decoding.left_by (if key then decoding.reported_at place (steps.step_of tables None packet) else decoding.following tables place before packet))
after_packet true tables place packet before = stepped tables place packet None
after_packet false tables place packet (Ok state) = stepped tables place packet state
after_packet false tables place packet (Err broken) = refl

pub after_one : (tables : Tables) (place : ℕ) (packet : List ℕ) (before : decoding.Progress)
    → known.progress_after tables place (known_in before) packet ≡ known_in (decoding.left_by (decoding.outcome tables place before packet))
after_one tables place packet before = after_packet (has_key_tag packet) tables place packet before

pub over_packets : KnownIsDecoded
over_packets tables place before [] = refl
over_packets tables place before (packet ∷ packets) =
    rw (after_one tables place packet before) (over_packets tables (place + 1) (decoding.left_by (decoding.outcome tables place before packet)) packets)
