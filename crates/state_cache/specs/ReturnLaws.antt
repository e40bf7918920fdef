-- The cache stays coherent with the packets when edits are undone: packets return, or are exchanged for those that return.
use Rattle.std.specs.Prelude.{◌≡◌, ℕ, Bool, slice_get, Some, None}
use Rattle.std.specs.List.{remove}
use Rattle.vp8_tables.specs.Tables.{TableEntries}
use Rattle.packet_edits.specs.declared.entry.Entry.{Entry}
use Rattle.packet_edits.specs.Edits.{Listing}
use Rattle.packet_edits.specs.Marks.{StoreValue, marks_inserted, marks_replaced}
use Rattle.packet_edits.specs.Returns.{AreAlikeButShown, MayReturn, exchanged, returned}
use Rattle.state_cache.specs.EditLaws.{AreOfPackets, IsMarked, IsViewWithout, id_at}
use Rattle.state_cache.specs.Views.{IsCoherent, View, marked_packets}

-- packets and marks after a packet returned to an index
abbrev pub after_return : ℕ → Entry → StoreValue → StoreValue
after_return at entry store = record { list = returned at entry store.list; marks = marks_inserted at store.marks }

-- packets and marks after the packet at an index was exchanged for one with other bytes
abbrev pub after_exchange : ℕ → Entry → StoreValue → StoreValue
after_exchange at entry store = record { list = exchanged at entry store.list; marks = marks_replaced at store.marks }

-- packets and marks after the packet at an index was exchanged for the same one with another show bit
abbrev pub after_bit_exchange : ℕ → Entry → StoreValue → StoreValue
after_bit_exchange at entry store = record store { list = exchanged at entry store.list }

-- the cache is coherent after a return of a packet that has no cached outcome, after an exchange for one that has none once the
-- outcome of the packet that leaves is dropped, and after an exchange for the same packet with another show bit
pub record ReturnsKeepCoherence (tables : TableEntries) : Type 0 where
  pub returns : (store : StoreValue) (kept : View) (at : ℕ) (entry : Entry) → IsMarked store → kept entry.id ≡ None
      → IsCoherent tables (marked_packets store) kept → IsCoherent tables (marked_packets (after_return at entry store)) kept
  pub exchanges : (store : StoreValue) (old new : View) (at : ℕ) (entry : Entry) → IsMarked store → new entry.id ≡ None → IsViewWithout (id_at store.list.entries at) old new
      → IsCoherent tables (marked_packets store) old → IsCoherent tables (marked_packets (after_exchange at entry store)) new
  pub show_bits : (store : StoreValue) (kept : View) (at : ℕ) (old entry : Entry) → slice_get store.list.entries at ≡ Some old → AreAlikeButShown old entry
      → IsCoherent tables (marked_packets store) kept → IsCoherent tables (marked_packets (after_bit_exchange at entry store)) kept

-- each id with a cached outcome is still the id of a packet of the list
pub record ReturnsKeepIds : Type 0 where
  pub returns : (list : Listing) (kept : View) (at : ℕ) (entry : Entry) → AreOfPackets list kept → AreOfPackets (returned at entry list) kept
  pub exchanges : (list : Listing) (old new : View) (at : ℕ) (entry : Entry) → IsViewWithout (id_at list.entries at) old new → AreOfPackets list old → AreOfPackets (exchanged at entry list) new
  pub show_bits : (list : Listing) (kept : View) (at : ℕ) (old entry : Entry) → slice_get list.entries at ≡ Some old → entry.id ≡ old.id → AreOfPackets list kept → AreOfPackets (exchanged at entry list) kept

-- a packet that may return has no cached outcome, and a packet for which another one may be exchanged leaves none for it
pub record ReturningIsNotCached : Type 0 where
  pub returns : (list : Listing) (kept : View) (entry : Entry) → MayReturn entry list.next_id list.entries → AreOfPackets list kept → kept entry.id ≡ None
  pub exchanges : (list : Listing) (old new : View) (at : ℕ) (entry : Entry) → MayReturn entry list.next_id (remove list.entries at) → IsViewWithout (id_at list.entries at) old new → AreOfPackets list old → new entry.id ≡ None
