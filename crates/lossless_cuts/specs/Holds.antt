-- What a hold packet leaves for the packets after it.
use Rattle.std.specs.Prelude.{◌≡◌, ℕ, ◌==◌, false, List, length, Some, Ok}
use Rattle.vp8_tables.specs.Tables.{TableEntries}
use Rattle.frame_header.specs.declared.context.Context.{Context}
use Rattle.reference_frames.specs.Steps.{step_of}
use Rattle.reference_frames.specs.declared.states.State.{State}
use Rattle.packet_forge.specs.Laws.{AreUpdates, HasLast}
use Rattle.packet_forge.specs.Packets.{hold_of}

-- a context in which neither golden nor altref has a sign bias (RFC 6386, section 9.7)
abbrev pub context_unbiased : Context → Context
context_unbiased context = record context { sign_biases = record { golden = false; altref = false } }

-- a state with such a context
abbrev pub unbiased : State → State
unbiased state = record state { context = context_unbiased state.context }

-- a hold packet of a state's size leaves that state without sign biases, and shows its last reference
abbrev pub HoldsClearBiases : Type 0
HoldsClearBiases =
    (tables : TableEntries) (state : State) (packet : List ℕ) → AreUpdates tables → HasLast state → hold_of tables state.references.last.width state.references.last.height ≡ Ok packet
    → step_of tables (Some state) packet ≡ Ok (unbiased state, state.references.last)

-- each later packet that has bytes steps as from the state before the hold: an inter frame has both sign biases in its header, and
-- a key frame clears them
abbrev pub BiasesAreSetAnew : Type 0
BiasesAreSetAnew = (tables : TableEntries) (state : State) (packet : List ℕ) → (length packet == 0) ≡ false → step_of tables (Some (unbiased state)) packet ≡ step_of tables (Some state) packet
