-- Laws about walks.
use Rattle.std.specs.Prelude.{◌≡◌, ℕ, ◌<◌, ◌≤◌, ◌⊎◌, List, [], ◌∷◌, length, slice_get}
use Rattle.vp8_tables.specs.Tables.{TableEntries}
use Rattle.packet_edits.specs.Laws.{HasOwnIds}
use Rattle.packet_edits.specs.Marks.{StoreValue}
use Rattle.state_cache.specs.Costs.{AreUnsettled, HasRoom}
use Rattle.state_cache.specs.EditLaws.{IsMarked}
use Rattle.state_cache.specs.Reaching.{CacheValue, IsNext, view_of}
use Rattle.state_cache.specs.Views.{MarkedPacket, View, marked_packets}
use Rattle.state_cache.specs.Walks.{IsWalkStep, Walks}

-- an index is one of these
abbrev pub IsAmong : ℕ → List ℕ → Type 0
IsAmong index [] = ⊥
IsAmong index (first ∷ rest) = (index ≡ first) ⊎ IsAmong index rest

-- a walk steps indexes from its first one up to `place`, all before `next`. It changes only the marks of these indexes and of
-- `next`, the index after the last one
pub record WalksStepInOrder : Type 0 where
  pub in_order : (tables : TableEntries) (source : ℕ) (old new : StoreValue) (before after : CacheValue) (place first next index : ℕ) (stepped : List ℕ) → Walks tables source old before place first stepped new after next
      → IsAmong index stepped → (first ≤ index) × (index ≤ place) × (index < next)
  pub marks_stay : (tables : TableEntries) (source : ℕ) (old new : StoreValue) (before after : CacheValue) (place first next index : ℕ) (stepped : List ℕ) → Walks tables source old before place first stepped new after next
      → (IsAmong index stepped → ⊥) → (index ≡ next → ⊥) → slice_get new.marks index ≡ slice_get old.marks index

-- the first index to step is unique
abbrev pub NextIsUnique : Type 0
NextIsUnique = (packets : List MarkedPacket) (kept : View) (place next other : ℕ) → IsNext packets kept place next → IsNext packets kept place other → next ≡ other

-- a walk to `place` may continue at `next`, and all outcomes that it may cache have room. Each packet has a mark and an id of
-- its own, as those of a `Store` do
pub record HasRoomFrom (source : ℕ) (store : StoreValue) (cache : CacheValue) (place next : ℕ) : Type 0 where
  pub is_marked : IsMarked store
  pub own_ids : HasOwnIds store.list
  pub exists : place < length store.list.entries
  pub first : IsNext (marked_packets store) (view_of source cache) place next
  pub room : HasRoom source store.list cache next place

-- the indexes of a walk in ascending order, before others; a walk has its latest one first
abbrev pub ascending : List ℕ → List ℕ → List ℕ
ascending [] others = others
ascending (last ∷ earlier) others = ascending earlier (last ∷ others)

-- states converge: with room, each step of a walk leaves exactly one index fewer that is not settled, the one that was stepped.
-- So a walk steps exactly the indexes that are not settled, in ascending order
pub record WalksSettle (tables : TableEntries) : Type 0 where
  pub one_fewer : (source : ℕ) (old new : StoreValue) (before after : CacheValue) (place next further : ℕ) (places : List ℕ) → IsWalkStep tables source old before place next new after further
      → HasRoomFrom source old before place next → AreUnsettled tables (marked_packets old) (view_of source before) next place places
      → (rest : List ℕ) × (places ≡ next ∷ rest) × AreUnsettled tables (marked_packets new) (view_of source after) further place rest
  pub in_order : (source : ℕ) (old new : StoreValue) (before after : CacheValue) (place first next : ℕ) (stepped places : List ℕ) → Walks tables source old before place first stepped new after next
      → HasRoomFrom source old before place first → AreUnsettled tables (marked_packets old) (view_of source before) first place places
      → (rest : List ℕ) × (places ≡ ascending stepped rest) × AreUnsettled tables (marked_packets new) (view_of source after) next place rest
