-- Properties of the definition of a step, as laws.
use Rattle.std.specs.Prelude.{◌≡◌, ℕ, true, List, Option, None, IsOk}
use Rattle.std.specs.Option.{option_map}
use Rattle.vp8_tables.specs.Tables.{TableEntries}
use Rattle.frame_header.specs.Header.{header_of}
use Rattle.frame_header.specs.Padding.{padded, with_zero}
use Rattle.frame_header.specs.Tags.{has_key_tag}
use Rattle.reference_frames.specs.declared.states.State.{State}
use Rattle.reference_frames.specs.Steps.{step_of}

-- a step of a packet with a key tag is the same from any state as from none
abbrev pub KeysStepFromNone : Type 0
KeysStepFromNone = (tables : TableEntries) (state : Option State) (packet : List ℕ) → has_key_tag packet ≡ true → step_of tables state packet ≡ step_of tables None packet

-- a byte 00 after a packet whose header is accepted changes neither the state after its step nor its picture, from any state or from none
abbrev pub ZerosKeepSteps : Type 0
ZerosKeepSteps = (tables : TableEntries) (state : Option State) (packet : List ℕ) → IsOk (header_of tables (option_map (λ s. s.context) state) packet) → step_of tables state (with_zero packet) ≡ step_of tables state packet

-- padding a packet changes nothing in its step, accepted or refused
abbrev pub PaddingKeepsSteps : Type 0
PaddingKeepsSteps = (tables : TableEntries) (state : Option State) (packet : List ℕ) → step_of tables state (padded packet) ≡ step_of tables state packet
