-- Laws about decoding.
use Rattle.std.specs.Prelude.{◌≡◌, ℕ, ◌≤◌, true, List, length, Some, None, Err, slice_get}
use Rattle.vp8_tables.specs.declared.tables.Tables.{Tables}
use Rattle.frame_header.specs.Tags.{has_key_tag}
use Rattle.reference_frames.specs.Steps.{step_of}
use Rattle.stream_steps.specs.declared.broken.Broken.{Broken}
use Rattle.stream_steps.specs.Decoding.{outcomes, reported_at}

-- each packet has one outcome
abbrev pub EachHasOutcome : Type 0
EachHasOutcome = (tables : Tables) (packets : List (List ℕ)) → length (outcomes tables packets) ≡ length packets

-- a broken outcome names the packet that broke the stream: its index is not after the requested one, and its own outcome is
-- this break
abbrev pub BreaksAreNamed : Type 0
BreaksAreNamed = (tables : Tables) (packets : List (List ℕ)) (i : ℕ) (broken : Broken) → slice_get (outcomes tables packets) i ≡ Some (Err broken)
    → (broken.place ≤ i) × (slice_get (outcomes tables packets) broken.place ≡ Some (Err broken))

-- the outcome of a packet with a key tag does not depend on the packets before it
abbrev pub KeysDependOnNothing : Type 0
KeysDependOnNothing = (tables : Tables) (packets : List (List ℕ)) (i : ℕ) (packet : List ℕ) → slice_get packets i ≡ Some packet → has_key_tag packet ≡ true
    → slice_get (outcomes tables packets) i ≡ Some (reported_at i (step_of tables None packet))
