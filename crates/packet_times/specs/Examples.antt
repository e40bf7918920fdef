-- Packets for worked examples.
use Rattle.std.specs.Prelude.{ℕ, List, [], ◌∷◌}
use Rattle.stream_files.specs.declared.streams.Head.{Head}
use Rattle.stream_files.specs.declared.packets.Packet.{Packet}
use Rattle.packet_times.specs.declared.durations.Duration.{Duration}

-- an inter packet that is shown, and one that is not
abbrev pub shown : List ℕ
shown = 0x11 ∷ 0 ∷ 0 ∷ []

abbrev pub hidden : List ℕ
hidden = 0x01 ∷ 0 ∷ 0 ∷ []

-- a packet with a time stamp
abbrev pub frame : ℕ → List ℕ → Packet
frame stamp packet = record { stamp = stamp; bytes = packet }

-- a number of units of 1/20 second
abbrev pub twenty : ℕ → Duration
twenty units = record { units = units; rate = 20; scale = 1 }

-- a number of units of 1/30 second
abbrev pub thirty : ℕ → Duration
thirty units = record { units = units; rate = 30; scale = 1 }

-- a head with this frame rate
abbrev pub head_of : ℕ → ℕ → Head
head_of rate scale = record { width = 0; height = 0; rate = rate; scale = scale }
