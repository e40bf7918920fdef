-- An index that is edited with its packets still says which of them are shown and which have a key tag.
use Rattle.std.proofs.Common.{◌≡◌, ℕ, ◌+◌, ◌<◌, ◌≤◌, Bool, cond, List, [], ◌∷◌, ◌++◌, length, map, option_map, slice_get, slice_set, Option, None, Some, refl, sym, ap, ◌∙◌, arith}
use Rattle.std.specs.List.{insert, remove}
use Rattle.std.proofs.lemmas.List.{length-map, map-append}
use Rattle.frame_header.specs.Tags.{has_key_tag, is_shown}
use Rattle.stream_files.specs.declared.packets.Packet.{Packet}
use Rattle.chunked_list.specs.Moves.{moved, with_place}
use Rattle.packet_times.specs.declared.durations.Duration.{Duration}
use Rattle.packet_edits.specs.declared.entry.Entry.{Entry}
use Rattle.packet_edits.specs.declared.packet_index.PacketIndex.{PacketIndex}
use Rattle.frame_header.specs.ShowBits.{has_show_bit}
use Rattle.packet_edits.specs.declared.fault.EditFault.TheVariants.{NoBit}
use Rattle.packet_edits.specs.Edits.{Listing, numbered, refused_show_bit, showing}
use Rattle.packet_edits.specs.Indexes.{appended_to, inserted_to, moved_in, removed_from, set_in}
use Rattle.packet_edits.specs.Stores.{index_of}
use Rattle.packet_edits.proofs.Mapped.{map_insert, map_moved, map_remove, map_set, remove_inserted}

abbrev shown_at : Entry → Bool
shown_at e = is_shown e.bytes

abbrev tagged_at : Entry → Bool
tagged_at e = has_key_tag e.bytes

abbrev both_of : List Bool → List Bool → PacketIndex
both_of shown keys = record { shown = shown; keys = keys }

both_are : (a b c d : List Bool) → a ≡ b → c ≡ d → both_of a c ≡ both_of b d
both_are a b c d same as_well = ap (λ (xs : List Bool). both_of xs c) same ∙ ap (λ (xs : List Bool). both_of b xs) as_well

-- as many flags as packets
pub as_many : (es : List Entry) (index : PacketIndex) → index ≡ index_of es → (length index.shown ≡ length es) × (length index.keys ≡ length es)
as_many es index is = (ap (λ (i : PacketIndex). length i.shown) is ∙ length-map es shown_at, ap (λ (i : PacketIndex). length i.keys) is ∙ length-map es tagged_at)

pub index_inserted : (es : List Entry) (index : PacketIndex) (at : ℕ) (e : Entry) → index ≡ index_of es → at ≤ length es → inserted_to at e.bytes index ≡ index_of (insert es at e)
index_inserted es index at e is within = ap (inserted_to at e.bytes) is ∙ sym (both_are _ _ _ _ (map_insert shown_at es at e within) (map_insert tagged_at es at e within))

pub index_removed : (es : List Entry) (index : PacketIndex) (at : ℕ) → index ≡ index_of es → at < length es → removed_from at index ≡ index_of (remove es at)
index_removed es index at is within = ap (removed_from at) is ∙ sym (both_are _ _ _ _ (map_remove shown_at es at within) (map_remove tagged_at es at within))

pub index_set : (es : List Entry) (index : PacketIndex) (at : ℕ) (e : Entry) → index ≡ index_of es → set_in at e.bytes index ≡ index_of (slice_set es at e)
index_set es index at e is = ap (set_in at e.bytes) is ∙ sym (both_are _ _ _ _ (map_set shown_at es at e) (map_set tagged_at es at e))

pub index_moved : (es : List Entry) (index : PacketIndex) (from to : ℕ) → index ≡ index_of es → from < length es → to < length es → moved_in from to index ≡ index_of (moved from to es)
index_moved es index from to is out in_ = ap (moved_in from to) is ∙ sym (both_are _ _ _ _ (map_moved shown_at es from to out in_) (map_moved tagged_at es from to out in_))

flags_numbered : (f : List ℕ → Bool) (usual : Duration) (id : ℕ) (packets : List Packet) → map (λ (e : Entry). f e.bytes) (numbered usual id packets) ≡ map (λ (packet : Packet). f packet.bytes) packets
flags_numbered f usual id [] = refl
flags_numbered f usual id (packet ∷ packets) = ap (λ flags. f packet.bytes ∷ flags) (flags_numbered f usual (id + 1) packets)

flags_pushed : (f : List ℕ → Bool) (usual : Duration) (id : ℕ) (es : List Entry) (packets : List Packet) → map (λ (e : Entry). f e.bytes) (es ++ numbered usual id packets) ≡ map (λ (e : Entry). f e.bytes) es ++ map (λ (packet : Packet). f packet.bytes) packets
flags_pushed f usual id es packets = map-append (λ (e : Entry). f e.bytes) es (numbered usual id packets) ∙ ap (λ flags. map (λ (e : Entry). f e.bytes) es ++ flags) (flags_numbered f usual id packets)

pub index_pushed : (es : List Entry) (index : PacketIndex) (usual : Duration) (id : ℕ) (packets : List Packet) → index ≡ index_of es → appended_to packets index ≡ index_of (es ++ numbered usual id packets)
index_pushed es index usual id packets is = ap (appended_to packets) is ∙ sym (both_are _ _ _ _ (flags_pushed is_shown usual id es packets) (flags_pushed has_key_tag usual id es packets))

-- the packet that is replaced
pub replaced_is : (es : List Entry) (at id stamp : ℕ) (duration : Duration) (bytes : List ℕ) (e : Entry) → slice_get es at ≡ Some e → stamp ≡ e.stamp → duration ≡ e.duration
    → slice_set es at (record { id = id; stamp = stamp; duration = duration; bytes = bytes }) ≡ with_place at (λ entry. slice_set es at (record entry { id = id; bytes = bytes })) es
replaced_is es at id stamp duration bytes e here same as_long =
    rw here (ap (λ (n : ℕ). slice_set es at (record { id = id; stamp = n; duration = duration; bytes = bytes })) same ∙ ap (λ (d : Duration). slice_set es at (record { id = id; stamp = e.stamp; duration = d; bytes = bytes })) as_long)

-- the packet whose show bit is set or cleared
pub record IsShowing (es : List Entry) (at : ℕ) (shown : Bool) (e : Entry) : Type 0 where
  pub old : Entry
  pub here : slice_get es at ≡ Some old
  pub is : e ≡ showing shown old

pub is_showing : (es : List Entry) (at : ℕ) (shown : Bool) (e : Entry) → option_map (showing shown) (slice_get es at) ≡ Some e → IsShowing es at shown e
is_showing es at shown e made = by_packet (slice_get es at) refl made
  where
    by_packet : (o : Option Entry) → slice_get es at ≡ o → option_map (showing shown) o ≡ Some e → IsShowing es at shown e
    by_packet None here found = cc
    by_packet (Some old) here found = let is : showing shown old ≡ e = cc in record { old = old; here = here; is = sym is }

-- and whether it has one
pub bit_told : (list : Listing) (at : ℕ) (e : Entry) (bytes : List ℕ) (has : Bool) → slice_get list.entries at ≡ Some e → bytes ≡ e.bytes → has_show_bit bytes ≡ has → refused_show_bit list at ≡ cond has None (Some NoBit)
bit_told list at e bytes has here same is = rw here (ap (λ (b : Bool). cond b None (Some NoBit)) (ap has_show_bit (sym same) ∙ is))

pub showing_set : (es : List Entry) (at : ℕ) (shown : Bool) (e : Entry) → option_map (showing shown) (slice_get es at) ≡ Some e → slice_set es at e ≡ with_place at (λ entry. slice_set es at (showing shown entry)) es
showing_set es at shown e made =
    let s = is_showing es at shown e made in
    rw s.here (ap (λ (x : Entry). slice_set es at x) s.is)

-- an insertion that is taken back
pub index_back : (es : List Entry) (index : PacketIndex) (at : ℕ) (bytes : List ℕ) → index ≡ index_of es → at ≤ length es → removed_from at (inserted_to at bytes index) ≡ index
index_back es index at bytes is within =
    let many = as_many es index is in
    both_are _ _ _ _ (remove_inserted index.shown at (is_shown bytes) (omega (arith, many.0, within))) (remove_inserted index.keys at (has_key_tag bytes) (omega (arith, many.1, within)))
