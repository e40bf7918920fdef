-- Which packets show the frames of a script again, in a stream of their own.
use Rattle.std.specs.Prelude.{ℕ, zero, suc, max, ◌==◌, nat_lt, Bool, true, false, not, ◌&&◌, ◌||◌, if◌then◌else◌, List, [], ◌∷◌, ◌++◌, map, length, slice_index_or, slice_range, Option, Some, None, unwrap_or}
use Rattle.std.specs.List.{filter}
use Rattle.std.specs.Option.{option_map_or}
use Rattle.std.specs.Result.{result_ok, result_unwrap_or}
use Rattle.vp8_tables.specs.Tables.{TableEntries}
use Rattle.frame_header.specs.Outlines.{outline_of}
use Rattle.frame_header.specs.Padding.{padded}
use Rattle.packet_edits.specs.Marks.{StoreValue}
use Rattle.packet_edits.specs.Shown.{stream_of}
use Rattle.packet_edits.specs.Sizes.{key_tag_at}
use Rattle.packet_forge.specs.Packets.{hold_of}
use Rattle.frame_header.specs.ShowBits.{with_show_bit}
use Rattle.lossless_cuts.specs.declared.cuts.Plan.{Plan}
use Rattle.lossless_cuts.specs.declared.targets.Target.{Target}

-- the packets of a source; one that does not exist has none
abbrev pub stream_at : List (List (List ℕ)) → ℕ → List (List ℕ)
stream_at streams source = slice_index_or streams source []

abbrev pub packet_at : List (List ℕ) → ℕ → List ℕ
packet_at packets place = slice_index_or packets place []

-- the index of the last packet with a key tag among the first ones, this many
abbrev pub last_key : List (List ℕ) → ℕ → Option ℕ
last_key packets zero = None
last_key packets (suc place) = if key_tag_at packets place then Some place else last_key packets place

-- the index of the last packet with a key tag at an index or before it
abbrev pub key_place : List (List ℕ) → ℕ → ℕ
key_place packets place = unwrap_or (last_key packets (suc place)) 0

-- whether a frame is of the same source as the frame before it, and of a later packet; whether it is that frame again
abbrev pub continues : Option Target → Target → Bool
continues None target = false
continues (Some before) target = (before.source == target.source) && nat_lt before.place target.place

abbrev pub repeats : Option Target → Target → Bool
repeats None target = false
repeats (Some before) target = (before.source == target.source) && (before.place == target.place)

-- the index after the packet of the frame before
abbrev pub place_after : Option Target → ℕ
place_after None = 0
place_after (Some before) = suc before.place

-- where the packets of a frame begin: after the packet of the frame before, or at the last key packet if that is later, or if the
-- frame does not continue after that packet
abbrev pub first_place : List (List ℕ) → Option Target → Target → ℕ
first_place packets before target =
    if continues before target then max (place_after before) (key_place packets target.place) else key_place packets target.place

abbrev pub has_bytes : List ℕ → Bool
has_bytes packet = not (length packet == 0)

-- packets with their show bits cleared; those with no bytes change nothing, and are left out
abbrev pub hidden : List (List ℕ) → List (List ℕ)
hidden packets = map (with_show_bit false) (filter has_bytes packets)

-- whether the picture of a packet is the last reference after it: it refreshes that, or has no bytes
abbrev pub leaves_last : List ℕ → Bool
leaves_last packet = if has_bytes packet then option_map_or (λ outline. outline.references.refreshes_last) (result_ok (outline_of true packet)) false else true

-- the packet that shows the last reference of this size again
abbrev pub held : TableEntries → Target → List ℕ
held tables target = result_unwrap_or (hold_of tables target.width target.height) []

-- the frame before is shown again by a hold packet
abbrev pub is_held : List (List ℕ) → Option Target → Target → Bool
is_held packets before target = repeats before target && leaves_last (packet_at packets target.place)

-- whether a hold packet shows the frame: it is the frame before again, or a dropped frame
abbrev pub uses_hold : List (List ℕ) → Option Target → Target → Bool
uses_hold packets before target = is_held packets before target || not (has_bytes (packet_at packets target.place))

-- the packet that shows a frame of this packet: its own, or a hold packet
abbrev pub packet_shown : TableEntries → List ℕ → Target → Bool → List ℕ
packet_shown tables packet target is_held = if is_held || not (has_bytes packet) then held tables target else packet

abbrev pub shown_packet : TableEntries → List (List ℕ) → Option Target → Target → List ℕ
shown_packet tables packets before target = packet_shown tables (packet_at packets target.place) target (is_held packets before target)

-- the hidden packets before it; there are none if the frame before is held
abbrev pub lead_if : List (List ℕ) → Option Target → Target → Bool → List (List ℕ)
lead_if packets before target is_held = if is_held then [] else hidden (slice_range packets (first_place packets before target) target.place)

abbrev pub lead : List (List ℕ) → Option Target → Target → List (List ℕ)
lead packets before target = lead_if packets before target (is_held packets before target)

-- the packets of a frame
abbrev pub frame_packets : TableEntries → List (List ℕ) → Option Target → Target → List (List ℕ)
frame_packets tables packets before target = lead packets before target ++ shown_packet tables packets before target ∷ []

-- the packets that a plan names: those from one index up to another, hidden, and the one that shows the frame
abbrev pub planned : List (List ℕ) → Plan → List (List ℕ)
planned packets plan = hidden (slice_range packets plan.first plan.end) ++ plan.shown ∷ []

-- the packets of frames, each after the one before it
abbrev pub exported : TableEntries → List (List (List ℕ)) → Option Target → List Target → List (List ℕ)
exported tables streams before [] = []
exported tables streams before (target ∷ targets) =
    frame_packets tables (stream_at streams target.source) before target ++ exported tables streams (Some target) targets

-- the packets as they are written: a byte 00 follows each one that ends empty, since players that use libvpx do not show it without one
abbrev pub written : List (List ℕ) → List (List ℕ)
written packets = map padded packets

-- the packets of each source
abbrev pub streams_of : List StoreValue → List (List (List ℕ))
streams_of stores = map (λ store. stream_of store.list) stores
