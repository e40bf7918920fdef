-- The text of a packet.
use Rattle.std.proofs.Common.{◌≡◌, ℕ, ◌+◌, ◌<◌, Bool, true, false, List, Some, length, get_or, slice_get, refl, ap, ◌∙◌, arith}
use Rattle.vp8_tables.specs.Tables.{TableEntries}
use Rattle.stream_files.specs.declared.packets.Packet.{Packet}
use Rattle.macroblock_lists.specs.declared.layouts.Form.{Form}
use Rattle.macroblock_lists.specs.declared.layouts.What.{What}
use Rattle.frame_header.specs.Tags.{has_key_tag}
use Rattle.macroblock_lists.specs.Known.{Knowledge, progress_after}
use Rattle.macroblock_lists.specs.ProofsOnly.{IsEnough}
use Rattle.macroblock_lists.proofs.Progress.{keys_forget, progress_next}
use Rattle.macroblock_lists.specs.Texts.{packet_text, progress_before, text_at}

-- the text of the packet after those before it
pub packet_here : (what : What) (form : Form) (tables : TableEntries) (packets : List Packet) (place : ℕ) (packet : Packet) (progress : Knowledge)
    → slice_get packets place ≡ Some packet → progress ≡ progress_before tables packets place
    → packet_text what form place tables progress packet.bytes ≡ text_at what form tables packets place
unfolding text_at
packet_here what form tables packets place packet progress found is = rw (found, ← is) refl

-- a packet with a key tag has its text whatever comes before it
keys-alike : (what : What) (form : Form) (place : ℕ) (tables : TableEntries) (one other : Knowledge) (packet : List ℕ) → has_key_tag packet ≡ true → packet_text what form place tables one packet ≡ packet_text what form place tables other packet
keys-alike what form place tables one other packet key = rw key refl

enough-by : (what : What) (form : Form) (tables : TableEntries) (packets : List Packet) (place : ℕ) (packet : Packet) (progress : Knowledge) (tag : Bool)
    → has_key_tag packet.bytes ≡ tag → slice_get packets place ≡ Some packet → IsEnough tables packets place progress
    → packet_text what form place tables progress packet.bytes ≡ text_at what form tables packets place
enough-by what form tables packets place packet progress true key found enough =
    keys-alike what form place tables progress (progress_before tables packets place) packet.bytes key ∙ packet_here what form tables packets place packet (progress_before tables packets place) found refl
enough-by what form tables packets place packet progress false key found enough = packet_here what form tables packets place packet progress found (enough packet found key)

pub packet_enough : (what : What) (form : Form) (tables : TableEntries) (packets : List Packet) (place : ℕ) (packet : Packet) (progress : Knowledge)
    → slice_get packets place ≡ Some packet → IsEnough tables packets place progress
    → packet_text what form place tables progress packet.bytes ≡ text_at what form tables packets place
packet_enough what form tables packets place packet progress found enough = enough-by what form tables packets place packet progress _ refl found enough

-- and what is known after it
after-by : (tables : TableEntries) (packets : List Packet) (place : ℕ) (packet : Packet) (progress : Knowledge) (tag : Bool)
    → has_key_tag packet.bytes ≡ tag → slice_get packets place ≡ Some packet → IsEnough tables packets place progress
    → progress_after tables place progress packet.bytes ≡ progress_after tables place (progress_before tables packets place) packet.bytes
after-by tables packets place packet progress true key found enough = keys_forget tables place progress (progress_before tables packets place) packet.bytes key
after-by tables packets place packet progress false key found enough = ap (λ (p : Knowledge). progress_after tables place p packet.bytes) (enough packet found key)

pub after_enough : (tables : TableEntries) (packets : List Packet) (place : ℕ) (packet : Packet) (old new : Knowledge)
    → place < length packets → packet ≡ get_or packets place packet → slice_get packets place ≡ Some packet → IsEnough tables packets place old → new ≡ progress_after tables place old packet.bytes
    → IsEnough tables packets (place + 1) new
after_enough tables packets place packet old new below is found enough after = λ next next_found key.
    progress_next tables 0 packets place place packet (progress_before tables packets place) new below (omega arith) is refl (after ∙ after-by tables packets place packet old _ refl found enough)
