-- Decoding of a stream: the steps over its packets in order, from no state.
use Rattle.std.specs.Prelude.{ℕ, ◌+◌, List, [], ◌∷◌, Option, Some, None, Result, Ok, Err, if◌then◌else◌}
use Rattle.vp8_tables.specs.declared.tables.Tables.{Tables}
use Rattle.frame_header.specs.declared.cause.Cause.{Cause}
use Rattle.frame_header.specs.Tags.{has_key_tag}
use Rattle.pixel_planes.specs.Pictures.{PictureSamples}
use Rattle.reference_frames.specs.declared.states.State.{State}
use Rattle.reference_frames.specs.Steps.{step_of}
use Rattle.stream_steps.specs.declared.broken.Broken.{Broken}

-- the outcome of a packet: good, with its state and picture, or broken at an index with its cause
abbrev pub Outcome : Type 0
Outcome = Result (State × PictureSamples) Broken

-- the situation before a packet: no state yet, a state, or a broken stream
abbrev pub Progress : Type 0
Progress = Result (Option State) Broken

-- the answer of a step at an index
abbrev pub reported_at : ℕ → Result (State × PictureSamples) Cause → Outcome
reported_at place (Ok decoded) = Ok decoded
reported_at place (Err cause) = Err (record { place = place; cause = cause })

-- a packet with no key tag is stepped from the state before it, and a broken stream stays broken
abbrev pub following : Tables → ℕ → Progress → List ℕ → Outcome
following tables place (Ok state) packet = reported_at place (step_of tables state packet)
following tables place (Err broken) packet = Err broken

-- a packet with a key tag is stepped from no state, whatever came before
abbrev pub outcome : Tables → ℕ → Progress → List ℕ → Outcome
outcome tables place progress packet =
    if has_key_tag packet then reported_at place (step_of tables None packet) else following tables place progress packet

abbrev pub left_by : Outcome → Progress
left_by (Ok decoded) = Ok (Some decoded.0)
left_by (Err broken) = Err broken

-- the outcomes of packets; the first has the index `place`
abbrev pub outcomes_from : Tables → ℕ → Progress → List (List ℕ) → List Outcome
outcomes_from tables place progress [] = []
outcomes_from tables place progress (packet ∷ packets) =
    outcome tables place progress packet ∷ outcomes_from tables (place + 1) (left_by (outcome tables place progress packet)) packets

-- the outcome at each index of a stream
abbrev pub outcomes : Tables → List (List ℕ) → List Outcome
outcomes tables packets = outcomes_from tables 0 (Ok None) packets
