-- The state of a session that its answers do not depend on: the marks of its packets and its cache.
use Rattle.std.specs.Prelude.{◌≡◌, ℕ, ◌<◌, ◌≤◌, Bool, true, false, [], List, length, map, slice_get, slice_index_or, slice_set, Option, Some, None, Result, Ok, Err, option_and_then, option_map}
pub use Rattle.state_cache.specs.Reaching.{of_bytes, of_states}
pub use Rattle.state_cache.specs.declared.capacity.Capacity.{Capacity}
use Rattle.vp8_tables.specs.declared.tables.Tables.{Tables}
use Rattle.stream_files.specs.declared.streams.Stream.{Stream}
use Rattle.session_questions.specs.declared.lister.Lister.{Lister}
use Rattle.session_questions.specs.Kept.{IsLister}
use Rattle.packet_times.specs.Durations.{one_frame}
use Rattle.packet_edits.specs.Edits.{Listing, copied, starting}
use Rattle.packet_edits.specs.Marks.{StoreValue, marks_deleted, marks_inserted, marks_moved, marks_pushed, marks_replaced}
use Rattle.packet_edits.specs.Shown.{shown_indexes, stream_of}
use Rattle.script_nodes.specs.Frames.{traced}
use Rattle.state_cache.specs.Costs.{Costs}
use Rattle.state_cache.specs.EditLaws.{IsWithout, AreOfPackets, id_at}
use Rattle.state_cache.specs.Reaching.{CacheValue, OthersDrop, OthersStay, view_of}
use Rattle.state_cache.specs.Views.{IsCoherent, marked_packets}
use Rattle.state_cache.specs.Walks.{IsWalk}
use Rattle.request_lines.specs.declared.edit.Edit.{Edit}
use Rattle.request_lines.specs.declared.edit.Edit.TheVariants.{Insert, Replace, Delete, Move, Copy, Blank, Hold, ShowBit}
use Rattle.frame_session.specs.declared.refusal.Refusal.{Refusal}
use Rattle.frame_session.specs.declared.refusal.Refusal.TheVariants as refusals
use Rattle.frame_session.specs.Edits.{edited, list_at}
use Rattle.frame_session.specs.Sessions.{SessionState, list_of_file, shown_counts, start}

-- the packets of a source with their marks; a source that does not exist has no packets
abbrev pub store_at : List StoreValue → ℕ → StoreValue
store_at stores source = slice_index_or stores source (record { list = starting 0 one_frame; marks = [] })

-- the packet lists of stores
abbrev pub lists_of : List StoreValue → List Listing
lists_of stores = map (λ store. store.list) stores

-- a session: the state that its answers depend on, the packets of each source with their marks, and its cache. The lists of the
-- stores are those of the state
pub record SessionValue : Type 0 where
  pub state : SessionState
  pub stores : List StoreValue
  pub cache : CacheValue

-- the packets of a file, none of them marked
abbrev pub store_of_file : Stream → StoreValue
store_of_file file = record { list = list_of_file file; marks = marks_pushed file.packets [] }

-- a new session: no packet is marked, and no outcome is cached
abbrev pub begun : Tables → Capacity → List Stream → SessionValue
begun tables capacity files = record {
  state = start tables files;
  stores = map store_of_file files;
  cache = record { entries = []; capacity = capacity; decoded = 0 };
}

-- the cached outcomes of each source are coherent with its packets and their marks and belong to packets of its list, and the
-- outcomes of all sources together are at most as many as the states of the capacity
pub record IsSound (tables : Tables) (stores : List StoreValue) (cache : CacheValue) : Type 0 where
  pub coherent : (source : ℕ) → IsCoherent tables (marked_packets (store_at stores source)) (view_of source cache)
  pub of_packets : (source : ℕ) → AreOfPackets (store_at stores source).list (view_of source cache)
  pub bounded : length cache.entries ≤ cache.capacity.states

-- a session has 1 to 8 sources, of which one is current, and its cache is sound
pub record IsSession (tables : Tables) (stores : List StoreValue) (current : ℕ) (cache : CacheValue) : Type 0 where
  pub sound : IsSound tables stores cache
  pub few : length stores ≤ 8
  pub current_exists : current < length stores

-- what an open session keeps of the answers to questions is of the current list
pub record IsOpen (tables : Tables) (stores : List StoreValue) (current : ℕ) (cache : CacheValue) (lister : Lister) : Type 0 where
  pub session : IsSession tables stores current cache
  pub kept : IsLister tables (list_at (lists_of stores) current) lister

-- the number of shown packets of each source
abbrev pub shown_counts_of : List StoreValue → List ℕ
shown_counts_of stores = map (λ store. length (shown_indexes (stream_of store.list))) stores

-- the packet that frame n comes from, if there is such a frame: its source, and its index
abbrev pub packet_of_frame : SessionState → ℕ → Option (ℕ × ℕ)
packet_of_frame now n =
    option_and_then (λ origin. option_map (λ place. (origin.source, place)) (slice_get (shown_indexes (stream_of (list_at now.lists origin.source))) origin.frame))
    (traced (shown_counts now) now.script n)

-- whether an answer to a frame follows from its packet's picture: the frame, and the two refusals that only the picture decides
abbrev pub needs_picture : {A : Type 0} → Result A Refusal → Bool
needs_picture (Ok picture) = true
needs_picture (Err refusals.CropOutside) = true
needs_picture (Err refusals.SizeDiffers) = true
needs_picture (Err refusal) = false

-- another source than this one: its packets and marks are unchanged, and each of its outcomes is still cached, or dropped
pub record LeavesOthers (source : ℕ) (old new : SessionValue) : Type 0 where
  pub packets : new.stores ≡ slice_set old.stores source (store_at new.stores source)
  pub outcomes : OthersDrop source old.cache new.cache

-- the packet at an index of a source was reached, or not, and it was if the answer follows from its picture. This costs what
-- reaching costs, and marks change only as on the walk there
pub record WalksToPacket {A : Type 0} (source place : ℕ) (old : SessionValue) (answer : Result A Refusal) (new : SessionValue) : Type 0 where
  pub reached : Bool
  pub costs : Costs old.state.tables source (store_at old.stores source) old.cache place reached (store_at new.stores source) new.cache
  pub walks : IsWalk old.state.tables source (store_at old.stores source) old.cache place reached (store_at new.stores source) new.cache
  pub others : LeavesOthers source old new
  pub is_needed : needs_picture answer ≡ true → reached ≡ true

-- a frame costs what reaching its packet costs; with no packet nothing changes
abbrev pub FrameCosts : {A : Type 0} → Option (ℕ × ℕ) → SessionValue → Result A Refusal → SessionValue → Type 0
FrameCosts None old answer new = new ≡ old
FrameCosts (Some packet) old answer new = WalksToPacket packet.0 packet.1 old answer new

-- the marks after an edit that is accepted
abbrev pub marks_edited : Edit (List ℕ) → List Bool → List Bool
marks_edited (Insert at stamp bytes) marks = marks_inserted at marks
marks_edited (Replace at bytes) marks = marks_replaced at marks
marks_edited (Delete at) marks = marks_deleted at marks
marks_edited (Move from to) marks = marks_moved from to marks
marks_edited (Copy source from at) marks = marks_inserted at marks
marks_edited (Blank at width height) marks = marks_inserted at marks
marks_edited (Hold at) marks = marks_inserted at marks
marks_edited (ShowBit at shown) marks = marks

-- the value after an edit with this result: the new value, or the old one if it is refused
abbrev pub after_answer : {A : Type 0} → A → A → Result ℕ Refusal → A
after_answer made before (Ok count) = made
after_answer made before (Err refusal) = before

-- packets and marks after a copy of packet `from` of a source is inserted at an index
abbrev pub store_copied : ℕ → Listing → ℕ → StoreValue → StoreValue
store_copied at source from store = record { list = copied at source from store.list; marks = marks_inserted at store.marks }

-- the marks after an edit with this result
abbrev pub marks_after : Edit (List ℕ) → List Bool → Result ℕ Refusal → List Bool
marks_after edit marks answer = after_answer (marks_edited edit marks) marks answer

-- the id of the packet that an edit removes from the list, if it removes one
abbrev pub leaving : Edit (List ℕ) → Listing → Option ℕ
leaving (Replace at bytes) list = id_at list.entries at
leaving (Delete at) list = id_at list.entries at
leaving edit list = None

-- the id that was removed by an edit with this result
abbrev pub id_removed : Edit (List ℕ) → Listing → Result ℕ Refusal → Option ℕ
id_removed edit list answer = after_answer (leaving edit list) None answer

-- packets and marks after an edit that is accepted; `lists` are the lists of all sources before it
abbrev pub store_edited : Tables → List Listing → Edit (List ℕ) → StoreValue → StoreValue
store_edited tables lists edit store = record { list = edited tables lists edit store.list; marks = marks_edited edit store.marks }

-- the packets and marks of all sources after an edit of the current source that is accepted
abbrev pub stores_edited : Tables → ℕ → Edit (List ℕ) → List StoreValue → List StoreValue
stores_edited tables current edit stores = slice_set stores current (store_edited tables (lists_of stores) edit (store_at stores current))

-- the packets and marks of all sources after an edit with this result: a refused edit changes nothing
abbrev pub stores_after : Tables → ℕ → Edit (List ℕ) → List StoreValue → Result ℕ Refusal → List StoreValue
stores_after tables current edit stores answer = after_answer (stores_edited tables current edit stores) stores answer

-- if a packet of this source was removed, nothing is cached for its id and all else is unchanged, also of the other sources; if
-- none was, the cache is unchanged
abbrev pub CacheWithout : ℕ → Option ℕ → CacheValue → CacheValue → Type 0
CacheWithout source None old new = new ≡ old
CacheWithout source (Some id) old new =
    IsWithout id (view_of source old) (view_of source new) × OthersStay source old new × (new.capacity ≡ old.capacity) × (new.decoded ≡ old.decoded)
