-- Nobody but the one who shows a frame reads the show bit of its packet (RFC 6386, section 9.1).
use Rattle.std.specs.Prelude.{◌≡◌, ℕ, Bool, List, Option}
use Rattle.vp8_tables.specs.Tables.{TableEntries}
use Rattle.frame_header.specs.ShowBits.{with_show_bit}
use Rattle.reference_frames.specs.Steps.{step_of}
use Rattle.reference_frames.specs.declared.states.State.{State}

-- a packet with its show bit changed steps to the same state and picture, or has the same cause, from any state or from none
abbrev pub ShowBitKeepsSteps : Type 0
ShowBitKeepsSteps = (tables : TableEntries) (state : Option State) (shown : Bool) (packet : List ℕ) → step_of tables state (with_show_bit shown packet) ≡ step_of tables state packet
