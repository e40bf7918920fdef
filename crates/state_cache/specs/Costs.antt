-- The cost of reaching an index, and the outcomes cached afterwards.
use Rattle.std.specs.Prelude.{◌≡◌, ℕ, ◌+◌, ◌-◌, ◌^◌, ◌<◌, ◌≤◌, ◌||◌, ◌⊎◌, Bool, true, false, min, nat_eq, List, map, length, take, drop, count_by, slice_get, Some, None, option_map, is_none, IsSome, Ok}
use Rattle.vp8_tables.specs.Tables.{TableEntries}
use Rattle.pixel_planes.specs.Pictures.{PictureSamples}
use Rattle.packet_edits.specs.declared.entry.Entry.{Entry}
use Rattle.packet_edits.specs.Edits.{Listing}
use Rattle.packet_edits.specs.Marks.{StoreValue}
use Rattle.state_cache.specs.declared.outcomes.Kept.{Kept}
use Rattle.state_cache.specs.Bytes.{IsWithinBytes}
use Rattle.stream_steps.specs.Decoding.{outcomes}
use Rattle.state_cache.specs.Reaching.{CacheValue, IsNext, view_of}
use Rattle.state_cache.specs.Views.{MarkedPacket, View, is_usable, cached_at, key_at, mark_at, marked_packets, outcome_at}

-- a cut, at which a run begins: index 0, a key tag, or a mark
abbrev pub cut_at : List MarkedPacket → ℕ → Bool
cut_at packets place = nat_eq place 0 || (key_at packets place || mark_at packets place)

-- two indexes are in one run: there is no cut after the first, up to the last
abbrev pub IsOneRun : List MarkedPacket → ℕ → ℕ → Type 0
IsOneRun packets first last = (p : ℕ) → first < p → p ≤ last → cut_at packets p ≡ false

-- the outcome cached at an index has the state that decoding from the start has there
pub record IsCachedAsDecoded (tables : TableEntries) (packets : List MarkedPacket) (kept : View) (place : ℕ) : Type 0 where
  pub outcome : Kept
  pub picture : PictureSamples
  pub is_cached : outcome_at packets kept place ≡ Some outcome
  pub is_decoded : slice_get (outcomes tables (map (λ packet. packet.bytes) packets)) place ≡ Some (Ok (outcome.state, picture))

-- an index is settled, on the way to `place`: a state as decoded is cached before it in its run, and the index itself or one
-- after it in its run, up to `place`, is cached
pub record IsSettled (tables : TableEntries) (packets : List MarkedPacket) (kept : View) (place settled : ℕ) : Type 0 where
  pub from : ℕ
  pub to : ℕ
  pub before : from < settled
  pub following : settled ≤ to
  pub within : to ≤ place
  pub one_run : IsOneRun packets from to
  pub decoded : IsCachedAsDecoded tables packets kept from
  pub is_cached : cached_at packets kept to ≡ true

-- exactly the indexes from `next` up to `place` that are not settled, in ascending order
pub record AreUnsettled (tables : TableEntries) (packets : List MarkedPacket) (kept : View) (next place : ℕ) (places : List ℕ) : Type 0 where
  pub ascends : (n m first later : ℕ) → slice_get places n ≡ Some first → slice_get places m ≡ Some later → n < m → first < later
  pub each_is_unsettled : (n p : ℕ) → slice_get places n ≡ Some p → (next ≤ p) × (p ≤ place) × (IsSettled tables packets kept place p → ⊥)
  pub each_is_listed : (p : ℕ) → next ≤ p → p ≤ place → (IsSettled tables packets kept place p → ⊥) → (n : ℕ) × (slice_get places n ≡ Some p)

-- how many indexes from `next` up to `place` are not cached
abbrev pub uncached_from : List Entry → View → ℕ → ℕ → ℕ
uncached_from entries kept next place = count_by (λ entry. is_none (kept entry.id)) (drop next (take (place + 1) entries))

-- there is room: the capacity has no limit in bytes, and the cached outcomes of all sources and the new ones of this source from
-- `next` up to `place` are at most its states
abbrev pub HasRoom : ℕ → Listing → CacheValue → ℕ → ℕ → Type 0
HasRoom source list cache next place =
    (cache.capacity.bytes ≡ None) × (length cache.entries + uncached_from list.entries (view_of source cache) next place ≤ cache.capacity.states)

-- the id is the id of a packet of the list
abbrev pub IsIdOf : Listing → ℕ → Type 0
IsIdOf list id = (place : ℕ) × (option_map (λ entry. entry.id) (slice_get list.entries place) ≡ Some id)

-- the greatest number of counted steps
abbrev pub most_steps : ℕ
most_steps = 2 ^ 64 - 1

-- the number of counted steps is the number of these indexes, as far as the counter goes; if the index was not reached, it is
-- at most that
pub record AreStepped (before : ℕ) (is_ok : Bool) (after places : ℕ) : Type 0 where
  pub at_most : after ≤ before + places
  pub exactly : is_ok ≡ true → after ≡ min (before + places) most_steps

-- the cost of reaching an index of a source: the steps counted between two moments, and the outcomes cached after them
pub record Costs (tables : TableEntries) (source : ℕ) (old : StoreValue) (before : CacheValue) (place : ℕ) (is_ok : Bool) (new : StoreValue) (after : CacheValue) : Type 0 where
  -- the first index to step
  pub next : ℕ
  pub first : IsNext (marked_packets old) (view_of source before) place next
  -- no more steps than indexes from there up to `place`
  pub steps : after.decoded + next ≤ before.decoded + place + 1
  pub rises : before.decoded ≤ after.decoded
  -- a usable index costs nothing
  pub free : is_usable (marked_packets old) (view_of source before) place ≡ true → (after ≡ before) × (new ≡ old)
  pub usable : is_ok ≡ true → is_usable (marked_packets new) (view_of source after) place ≡ true
  -- without a limit in bytes the number of cached outcomes of all sources does not fall; it is at most the states of the
  -- capacity, and the outcomes are within such a limit
  pub number : before.capacity.bytes ≡ None → length before.entries ≤ length after.entries
  pub bounded : length after.entries ≤ after.capacity.states
  pub within : IsWithinBytes after.capacity.bytes after.entries
  pub capacity : after.capacity ≡ before.capacity
  -- each cached outcome of the source was cached before, or is of a packet of its list
  pub of_packets : (id : ℕ) → IsSome (view_of source after id) → IsSome (view_of source before id) ⊎ IsIdOf old.list id
  -- with room, the number of counted steps is the number of indexes on the way that are not settled
  pub converges : HasRoom source old.list before next place → (places : List ℕ) → AreUnsettled tables (marked_packets old) (view_of source before) next place places → AreStepped before.decoded is_ok after.decoded (length places)
  -- with room, no outcome of any source is dropped
  pub stays : HasRoom source old.list before next place → (any id : ℕ) → IsSome (view_of any before id) → IsSome (view_of any after id)
  -- with room, each index on the way that was not settled is cached once the index is reached
  pub keeps : HasRoom source old.list before next place → is_ok ≡ true → (p : ℕ) → next ≤ p → p ≤ place → (IsSettled tables (marked_packets old) (view_of source before) place p → ⊥) → cached_at (marked_packets new) (view_of source after) p ≡ true
