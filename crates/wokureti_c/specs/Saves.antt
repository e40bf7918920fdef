-- The file of the packets of a source.
use Rattle.std.specs.Prelude.{◌≡◌, ℕ, Bool, true, List, length, nat_lt, slice_index_or, if◌then◌else◌}
use Rattle.stream_files.specs.Texts.{written_text}
use Rattle.stream_files.specs.declared.streams.Head.{Head}
use Rattle.stream_files.specs.declared.packets.Packet.{Packet}
use Rattle.packet_edits.specs.Edits.{Listing}
use Rattle.packet_edits.specs.Saved.{packets_of, padded_packets_of, restamped}
use Rattle.frame_session.specs.Edits.{list_at}
use Rattle.wokureti_c.specs.declared.engine.Engine.{Engine}

-- the packets of a list as they are saved: padded or not, with new time stamps or their own
abbrev pub saved_packets : (pads restamps : Bool) → Head → Listing → List Packet
saved_packets pads restamps head list =
    if restamps then restamped pads head list.entries else (if pads then padded_packets_of list else packets_of list)

-- the head of the file of a source; all fields are 0 if there is no such source
abbrev pub head_at : List Head → ℕ → Head
head_at heads source = slice_index_or heads source (record { width = 0; height = 0; rate = 0; scale = 0 })

-- whether there is a source with this number
abbrev pub is_source : Engine → ℕ → Bool
is_source engine source = nat_lt source (length engine.session.state.lists)

-- the file of the packets of a source
abbrev pub source_file : Engine → ℕ → (pads restamps : Bool) → List ℕ
source_file engine source pads restamps =
    let head = head_at engine.heads.items source in written_text head (saved_packets pads restamps head (list_at engine.session.state.lists source))

-- it is the text that is left, and nothing else changed
pub record IsSavedSource (old : Engine) (source : ℕ) (pads restamps : Bool) (new : Engine) : Type 0 where
  pub there : is_source old source ≡ true
  pub rest : new ≡ record old { text = new.text }
  pub text : new.text.items ≡ source_file old source pads restamps
