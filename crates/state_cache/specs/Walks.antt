-- A walk to an index: one step, where the walk continues, and how it ends.
use Rattle.std.specs.Prelude.{◌≡◌, ℕ, ◌+◌, ◌<◌, ◌≤◌, ◌&&◌, Bool, true, false, cond, min, List, [], ◌∷◌, length, slice_get, Option, Some, None, is_none}
use Rattle.vp8_tables.specs.Tables.{TableEntries}
use Rattle.packet_edits.specs.Marks.{StoreValue}
use Rattle.state_cache.specs.declared.outcomes.Kept.{Kept}
use Rattle.state_cache.specs.Bytes.{bytes_in, cached_bytes, outcome_bytes}
use Rattle.state_cache.specs.Costs.{most_steps}
use Rattle.state_cache.specs.Reaching.{CacheValue, IsNext, Converged, OthersDrop, OthersStay, passed_marks, view_of}
use Rattle.state_cache.specs.Views.{Drops, IsCoherent, MarkedPacket, is_cut, marked_packets, with_cached}

-- if an outcome with the same state was cached, the states converge
abbrev pub ConvergesWithSame : Bool → Option Kept → Kept → Type 0
ConvergesWithSame has_converged before new = (old : Kept) → before ≡ Some old → old.state ≡ new.state → has_converged ≡ true

-- the number of cached outcomes once one is cached for an id of a source
abbrev pub entries_with : ℕ → CacheValue → ℕ → ℕ
entries_with source cache id = length cache.entries + cond (is_none (view_of source cache id)) 1 0

-- an outcome has room: once it is cached for an id of a source, there are at most as many outcomes as the states of the capacity,
-- and within its limit in bytes, if it has one
pub record HasRoomFor (source : ℕ) (cache : CacheValue) (id : ℕ) (outcome : Kept) : Type 0 where
  pub states : entries_with source cache id ≤ cache.capacity.states
  pub bytes : (limit : ℕ) → cache.capacity.bytes ≡ Some limit → cached_bytes cache.entries + outcome_bytes outcome ≤ limit + bytes_in (view_of source cache id)

-- one outcome of a source was cached, and none of any source dropped
pub record IsPut (source : ℕ) (before : CacheValue) (id : ℕ) (outcome : Kept) (after : CacheValue) : Type 0 where
  pub number : length after.entries ≡ entries_with source before id
  pub others : (q : ℕ) → view_of source after q ≡ with_cached (view_of source before) id outcome q
  pub other_sources : OthersStay source before after

-- one step at an index: the outcome of its packet is cached, and its mark passed. The runs are joined if the packet was a cut
-- because of a mark and the states converge
pub record IsIteration (source : ℕ) (old : StoreValue) (before : CacheValue) (place : ℕ) (joined : Bool) (new : StoreValue) (after : CacheValue) : Type 0 where
  pub packet : MarkedPacket
  pub outcome : Kept
  pub has_converged : Bool
  pub packet_is : slice_get (marked_packets old) place ≡ Some packet
  pub marks : new ≡ record old { marks = passed_marks (is_cut packet) has_converged place old.marks }
  pub joined_is : joined ≡ (is_cut packet && has_converged)
  pub converged : Converged has_converged (view_of source before packet.id) outcome
  pub converges_with_same : ConvergesWithSame has_converged (view_of source before packet.id) outcome
  pub kept : view_of source after packet.id ≡ Some outcome
  pub drops : (q : ℕ) → Drops (view_of source after q) (with_cached (view_of source before) packet.id outcome q)
  pub other_sources : OthersDrop source before after
  -- with room for it, nothing else is dropped
  pub room : HasRoomFor source before packet.id outcome → IsPut source before packet.id outcome after

-- one step of a walk to `place`: the packet at `next` is stepped, its outcome is cached and its mark passed. The walk
-- continues at `further`, which is the next index unless two runs were joined, and the cache is coherent
pub record IsWalkStep (tables : TableEntries) (source : ℕ) (old : StoreValue) (before : CacheValue) (place next : ℕ) (new : StoreValue) (after : CacheValue) (further : ℕ) : Type 0 where
  pub joined : Bool
  pub iterated : IsIteration source old before next joined new after
  pub counted : after.decoded ≡ min (before.decoded + 1) most_steps
  pub capacity : after.capacity ≡ before.capacity
  pub number : before.capacity.bytes ≡ None → length before.entries ≤ length after.entries
  pub low : next ≤ place
  pub later : next < further
  pub onward : joined ≡ false → further ≡ next + 1
  pub continues : IsNext (marked_packets new) (view_of source after) place further
  -- so its outcome is the result of the step
  pub coherent : IsCoherent tables (marked_packets new) (view_of source after)

-- a walk to `place` that began at `first`: these indexes were stepped, the latest one first, and `next` is the index to step
-- then
abbrev pub Walks : TableEntries → ℕ → StoreValue → CacheValue → ℕ → ℕ → List ℕ → StoreValue → CacheValue → ℕ → Type 0
Walks tables source old before place first [] new after next = (new ≡ old) × (after ≡ before) × (next ≡ first)
Walks tables source old before place first (last ∷ earlier) new after next =
    (now : StoreValue) × ((cache : CacheValue) × (Walks tables source old before place first earlier now cache last × IsWalkStep tables source now cache place last new after next))

-- how a walk ends: it arrives at its index, or a step is refused, which is counted and changes nothing else
pub data Ends (place next : ℕ) (cache : CacheValue) (is_ok : Bool) (after : CacheValue) : Type 0 where
  arrives : place < next → after ≡ cache → Ends place next cache is_ok after
  is_refused : is_ok ≡ false → next ≤ place → after ≡ record cache { decoded = min (cache.decoded + 1) most_steps } → Ends place next cache is_ok after

-- what reaching an index does: it walks there, one cached step after another. A step that is refused leaves the packets, the
-- marks and the cached outcomes as they were before that step
pub record IsWalk (tables : TableEntries) (source : ℕ) (old : StoreValue) (before : CacheValue) (place : ℕ) (is_ok : Bool) (new : StoreValue) (after : CacheValue) : Type 0 where
  pub first : ℕ
  pub is_first : IsNext (marked_packets old) (view_of source before) place first
  pub stepped : List ℕ
  pub next : ℕ
  pub cache : CacheValue
  pub walk : Walks tables source old before place first stepped new cache next
  pub ends : Ends place next cache is_ok after
