-- Cached views: the outcomes cached for packets, and the indexes from which decoding may continue.
use Rattle.std.specs.Prelude.{◌≡◌, ℕ, ◌+◌, Bool, true, false, cond, not, ◌&&◌, ◌||◌, List, [], ◌∷◌, take, slice_get, Option, Some, None, is_some, option_and_then, Result, Ok, Err, nat_eq}
use Rattle.std.specs.Option.{option_map_or}
use Rattle.std.specs.Map.{lookup}
use Rattle.vp8_tables.specs.Tables.{TableEntries}
use Rattle.frame_header.specs.declared.cause.Cause.{Cause}
use Rattle.frame_header.specs.Tags.{has_key_tag}
use Rattle.pixel_planes.specs.Pictures.{PictureSamples}
use Rattle.packet_edits.specs.declared.entry.Entry.{Entry}
use Rattle.packet_edits.specs.Marks.{StoreValue}
use Rattle.reference_frames.specs.declared.states.State.{State}
use Rattle.reference_frames.specs.Steps.{step_of}
use Rattle.state_cache.specs.declared.outcomes.Kept.{Kept}
use Rattle.state_cache.specs.declared.outcomes.PacketKey.{PacketKey}

-- a packet with its mark
pub record MarkedPacket : Type 0 where
  pub id : ℕ
  pub bytes : List ℕ
  pub marked : Bool

abbrev pub marked_packet : Entry → Bool → MarkedPacket
marked_packet entry marked = record { id = entry.id; bytes = entry.bytes; marked = marked }

abbrev pub marked_packets_of : List Entry → List Bool → List MarkedPacket
marked_packets_of [] marks = []
marked_packets_of (entry ∷ entries) [] = marked_packet entry false ∷ marked_packets_of entries []
marked_packets_of (entry ∷ entries) (marked ∷ marks) = marked_packet entry marked ∷ marked_packets_of entries marks

-- the packets of a store with their marks
abbrev pub marked_packets : StoreValue → List MarkedPacket
marked_packets store = marked_packets_of store.list.entries store.marks

-- the outcome cached for each id, if there is one
abbrev pub View : Type 0
View = ℕ → Option Kept

-- whether two keys of cached outcomes are the same: the same source and the same id
abbrev pub same_key : PacketKey → PacketKey → Bool
same_key key other = nat_eq key.source other.source && nat_eq key.id other.id

-- the outcome that entries store for an id of a source
abbrev pub cached_in : List (PacketKey × Kept) → ℕ → View
cached_in entries source id = lookup (same_key (record { source = source; id = id })) entries

-- an outcome is still cached, or dropped
abbrev pub Drops : Option Kept → Option Kept → Type 0
Drops None o = Unit {0}
Drops (Some kept) o = o ≡ Some kept

-- one more outcome
abbrev pub with_cached : View → ℕ → Kept → View
with_cached kept id new q = cond (nat_eq q id) (Some new) (kept q)

-- a good outcome as the result of a step
abbrev pub step_result : Kept → State × PictureSamples
step_result kept = (kept.state, kept.picture)

-- a cut because of a mark: marked, with no key tag
abbrev pub is_cut : MarkedPacket → Bool
is_cut packet = packet.marked && not (has_key_tag packet.bytes)

-- whether the last run of these packets begins at a key tag, or at index 0 with no mark
abbrev pub trusted_after : Bool → List MarkedPacket → Bool
trusted_after trusted [] = trusted
trusted_after trusted (packet ∷ packets) = trusted_after (has_key_tag packet.bytes || (not packet.marked && trusted)) packets

-- whether an outcome of the packet at an index is cached
abbrev pub cached_at : List MarkedPacket → View → ℕ → Bool
cached_at packets kept place = option_map_or (λ packet. is_some (kept packet.id)) (slice_get packets place) false

abbrev pub key_at : List MarkedPacket → ℕ → Bool
key_at packets place = option_map_or (λ packet. has_key_tag packet.bytes) (slice_get packets place) false

-- whether the packet at an index is marked
abbrev pub mark_at : List MarkedPacket → ℕ → Bool
mark_at packets place = option_map_or (λ packet. packet.marked) (slice_get packets place) false

-- the outcome cached for the packet at an index
abbrev pub outcome_at : List MarkedPacket → View → ℕ → Option Kept
outcome_at packets kept place = option_and_then (λ packet. kept packet.id) (slice_get packets place)

-- a usable index: it is cached, and its run begins at a key tag, or at index 0 with no mark
abbrev pub is_usable : List MarkedPacket → View → ℕ → Bool
is_usable packets kept place = cached_at packets kept place && trusted_after true (take (place + 1) packets)

-- what is known of the state before a packet: nothing; a state, or that there is none; or that its run is broken
pub data Before : Type 0 where
  unknown : Before
  known : Option State → Before
  failed : Before

-- what is known when a packet is stepped: at a key tag that there is no state, at another cut nothing
abbrev pub entering : Before → MarkedPacket → Before
entering before packet = cond (has_key_tag packet.bytes) (known None) (cond packet.marked unknown before)

abbrev pub left_known : Result (State × PictureSamples) Cause → Before
left_known (Ok decoded) = known (Some decoded.0)
left_known (Err cause) = failed

module _ (tables : TableEntries) where
  -- what is known after a packet whose outcome is not cached
  abbrev pub stepped : Before → List ℕ → Before
  stepped unknown bytes = unknown
  stepped (known state) bytes = left_known (step_of tables state bytes)
  stepped failed bytes = failed

  -- a cached outcome is the result of the step from what is known before it; it may be anything if nothing is known
  abbrev pub Follows : Before → List ℕ → Kept → Type 0
  Follows unknown bytes kept = Unit {0}
  Follows (known state) bytes kept = step_of tables state bytes ≡ Ok (step_result kept)
  Follows failed bytes kept = ⊥

  abbrev pub Fits : Before → List ℕ → Option Kept → Type 0
  Fits before bytes None = Unit {0}
  Fits before bytes (Some kept) = Follows before bytes kept

  abbrev pub leaving : Before → List ℕ → Option Kept → Before
  leaving before bytes None = stepped before bytes
  leaving before bytes (Some kept) = known (Some kept.state)

  -- the cached outcomes fit the packets; `before` is known before the first packet
  abbrev pub CoherentFrom : Before → List MarkedPacket → View → Type 0
  CoherentFrom before [] kept = Unit {0}
  CoherentFrom before (packet ∷ packets) kept =
      Fits (entering before packet) packet.bytes (kept packet.id)
      × CoherentFrom (leaving (entering before packet) packet.bytes (kept packet.id)) packets kept

  -- each cached outcome results by steps from the nearest one cached before it in its run. With none cached before it, it
  -- results from no state if its run begins at a key tag or at index 0 with no mark
  abbrev pub IsCoherent : List MarkedPacket → View → Type 0
  IsCoherent packets kept = CoherentFrom (known None) packets kept

  -- what is known after packets
  abbrev pub known_after : Before → List MarkedPacket → View → Before
  known_after before [] kept = before
  known_after before (packet ∷ packets) kept = known_after (leaving (entering before packet) packet.bytes (kept packet.id)) packets kept
