-- What is known before a packet is what decoding has before it, except the samples.
use Rattle.std.specs.Prelude.{◌≡◌, ℕ, ◌+◌, List, [], ◌∷◌, Option, Ok, Err}
use Rattle.std.specs.Option.{option_map}
use Rattle.vp8_tables.specs.declared.tables.Tables.{Tables}
use Rattle.frame_header.specs.declared.header.Header.{Header}
use Rattle.reference_frames.specs.declared.states.State.{State}
use Rattle.reference_frames.specs.Steps.{frame_modes as modes_of_frame}
use Rattle.stream_steps.specs.Decoding.{Progress as Decoded, left_by, outcome}
use Rattle.macroblock_lists.specs.Known.{Known, Knowledge, frame_modes, progress_over}

-- what is known of a state
abbrev pub known_of : State → Known
known_of state = record { context = state.context; segment_map = state.segment_map; width = state.references.last.width; height = state.references.last.height }

-- and of what decoding has before a packet
abbrev pub known_in : Decoded → Knowledge
known_in (Ok state) = Ok (option_map known_of state)
known_in (Err broken) = Err broken

-- what decoding has after packets, the first of which has the index `place`
abbrev pub decoded_over : Tables → ℕ → Decoded → List (List ℕ) → Decoded
decoded_over tables place before [] = before
decoded_over tables place before (packet ∷ packets) = decoded_over tables (place + 1) (left_by (outcome tables place before packet)) packets

-- so the macroblocks and headers that are listed are those that decoding reads: after any packets
abbrev pub KnownIsDecoded : Type 0
KnownIsDecoded = (tables : Tables) (place : ℕ) (before : Decoded) (packets : List (List ℕ))
    → progress_over tables place (known_in before) packets ≡ known_in (decoded_over tables place before packets)

-- and the modes of a frame are those that are decoded
abbrev pub ModesAreDecoded : Type 0
ModesAreDecoded = (tables : Tables) (header : Header) (before : Option State) → frame_modes tables header (option_map known_of before) ≡ modes_of_frame tables header before
