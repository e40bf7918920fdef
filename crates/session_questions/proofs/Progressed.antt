-- What is known before a packet of a store.
use Rattle.std.proofs.Common.{◌≡◌, ◌⊎◌, ℕ, zero, suc, ◌+◌, ◌-◌, ◌<◌, ◌≤◌, true, false, IfSome, List, [], ◌∷◌, ◌++◌, None, Some, Ok, take, drop, map, length, slice_get, refl, ap, sym, ◌∙◌, arith}
use Rattle.std.specs.Option.{option_map_or}
use Rattle.std.proofs.lemmas.List.{drop-take, length-drop, length-map, length-take-le, map-append, take-append-drop, take-take}
use Rattle.vp8_tables.specs.Tables.{TableEntries}
use Rattle.stream_files.specs.declared.packets.Packet.{Packet}
use Rattle.frame_header.specs.Tags.{has_key_tag}
use Rattle.packet_edits.specs.declared.entry.Entry.{Entry}
use Rattle.packet_edits.specs.Edits.{Listing}
use Rattle.packet_edits.specs.Nearest.{IsLastAt}
use Rattle.packet_edits.specs.Saved.{packet_of, packets_of}
use Rattle.packet_edits.specs.Shown.{stream_of}
use Rattle.packet_edits.specs.Sizes.{key_tag_at}
use Rattle.macroblock_lists.specs.declared.layouts.Form.TheVariants as forms
use Rattle.macroblock_lists.specs.declared.layouts.What.{What}
use Rattle.macroblock_lists.specs.Known.{Knowledge, progress_after, progress_over}
use Rattle.macroblock_lists.specs.Texts.{packet_text, progress_before}
use Rattle.macroblock_lists.proofs.PacketLemmas.{packet_here}
use Rattle.macroblock_lists.proofs.Progress.{progress_both, progress_more, progress_starts}
use Rattle.session_questions.specs.Details.{detail_text}
use Rattle.session_questions.proofs.Steps.{lines_more}

tagged : (es : List Entry) (place : ℕ) → option_map_or has_key_tag (slice_get (map (λ (e : Entry). e.bytes) es) place) false ≡ true
    → IfSome (slice_get (map packet_of es) place) (λ packet. has_key_tag packet.bytes ≡ true)
tagged [] place key = tt
tagged (e ∷ es) zero key = key
tagged (e ∷ es) (suc place) key = tagged es place key

-- a key packet that a search found
pub key_found : (list : Listing) (at place : ℕ) → IsLastAt (key_tag_at (stream_of list)) 0 at place → (place < at) × IfSome (slice_get (packets_of list) place) (λ packet. has_key_tag packet.bytes ≡ true)
key_found list at place last = (last.within, tagged list.entries place last.here)

-- the bytes of saved packets are those of the stream
pub bytes_taken : (es : List Entry) (start n : ℕ) → map (λ (p : Packet). p.bytes) (take n (drop start (map packet_of es))) ≡ take n (drop start (map (λ (e : Entry). e.bytes) es))
bytes_taken [] zero zero = refl
bytes_taken [] zero (suc n) = refl
bytes_taken [] (suc start) zero = refl
bytes_taken [] (suc start) (suc n) = refl
bytes_taken (e ∷ es) zero zero = refl
bytes_taken (e ∷ es) zero (suc n) = ap (λ (xs : List (List ℕ)). e.bytes ∷ xs) (bytes_taken es zero n)
bytes_taken (e ∷ es) (suc start) n = bytes_taken es start n

-- the packet with these bytes
packet_of_bytes : (es : List Entry) (at : ℕ) (bytes : List ℕ) → slice_get (map (λ (e : Entry). e.bytes) es) at ≡ Some bytes
    → (packet : Packet) × (slice_get (map packet_of es) at ≡ Some packet) × (packet.bytes ≡ bytes)
packet_of_bytes [] at bytes here = let no : ⊥ = cc in absurd no
packet_of_bytes (e ∷ es) zero bytes here = let same : e.bytes ≡ bytes = cc in (packet_of e, refl, same)
packet_of_bytes (e ∷ es) (suc at) bytes here = packet_of_bytes es at bytes here

-- the text of a packet by what is known before it
pub detail_said : (what : What) (tables : TableEntries) (list : Listing) (at : ℕ) (bytes : List ℕ) (progress : Knowledge) → slice_get (stream_of list) at ≡ Some bytes
    → progress ≡ progress_before tables (packets_of list) at → packet_text what forms.Objects at tables progress bytes ≡ detail_text what tables list at
detail_said what tables list at bytes progress here is =
    let packet = packet_of_bytes list.entries at bytes here in
    ap (λ (bs : List ℕ). packet_text what forms.Objects at tables progress bs) (sym packet.2)
    ∙ packet_here what forms.Objects tables (packets_of list) at packet.0 progress packet.1 is

-- what is known after one packet more
pub known_more : (tables : TableEntries) (list : Listing) (start place : ℕ) (before : Knowledge) (bytes : List ℕ) (old new : Knowledge) → start ≤ place → place < length list.entries
    → slice_get (stream_of list) place ≡ Some bytes
    → old ≡ progress_over tables start before (take (place - start) (drop start (stream_of list))) → new ≡ progress_after tables place old bytes
    → new ≡ progress_over tables start before (take (place + 1 - start) (drop start (stream_of list)))
known_more tables list start place before bytes old new from within here is after =
    let stream = stream_of list in
    let n = place - start in
    let first = take n (drop start stream) in
    let one : place + 1 - start ≡ n + 1 = omega (arith, from) in
    let more : take (place + 1 - start) (drop start stream) ≡ first ++ bytes ∷ [] =
    ap (λ (k : ℕ). take k (drop start stream)) one ∙ lines_more stream start n place bytes (omega (arith, from)) here in
    let whole : length stream ≡ length list.entries = length-map list.entries (λ (e : Entry). e.bytes) in
    let left : length (drop start stream) ≡ length stream - start = length-drop start stream in
    let count : length first ≡ n = length-take-le n (drop start stream) (omega (arith, from, within, whole, left)) in
    let index : place ≡ start + length first = omega (arith, from, count) in
    after ∙ ap (λ (p : Knowledge). progress_after tables place p bytes) is
    ∙ ap (λ (k : ℕ). progress_after tables k (progress_over tables start before first) bytes) index
    ∙ sym (progress_more tables start before first bytes)
    ∙ ap (λ (bs : List (List ℕ)). progress_over tables start before bs) (sym more)

-- reading that starts at a key packet, or at the first packet, leads to what is known before any packet after it
pub key_leads : (tables : TableEntries) (list : Listing) (start at : ℕ) → at ≤ length list.entries
    → (start ≡ 0) ⊎ ((start < at) × IfSome (slice_get (packets_of list) start) (λ packet. has_key_tag packet.bytes ≡ true))
    → progress_over tables start (Ok None) (take (at - start) (drop start (stream_of list))) ≡ progress_before tables (packets_of list) at
key_leads tables list start at within key =
    let all = length-map list.entries packet_of in
    ap (λ (bs : List (List ℕ)). progress_over tables start (Ok None) bs) (sym (bytes_taken list.entries start (at - start)))
    ∙ progress_starts tables (packets_of list) start at (omega (arith, all, within)) key

-- and so does reading that starts where this is known
pub known_leads : (tables : TableEntries) (list : Listing) (start at : ℕ) (progress : Knowledge) → start ≤ at → at ≤ length list.entries
    → progress ≡ progress_before tables (packets_of list) start
    → progress_over tables start progress (take (at - start) (drop start (stream_of list))) ≡ progress_before tables (packets_of list) at
known_leads tables list start at progress below within is =
    let packets : List Packet = packets_of list in
    let bytes : List Packet → List (List ℕ) = map (λ (p : Packet). p.bytes) in
    let all = length-map list.entries packet_of in
    let first : List (List ℕ) = bytes (take start packets) in
    let rest : List Packet = take (at - start) (drop start packets) in
    let count : length first ≡ start = length-map (take start packets) (λ (p : Packet). p.bytes) ∙ length-take-le start packets (omega (arith, all, below, within)) in
    let index : start ≡ 0 + length first = omega (arith, count) in
    let both : bytes (take at packets) ≡ first ++ bytes rest =
    ap bytes (take_both packets start at below) ∙ map-append (λ (p : Packet). p.bytes) (take start packets) rest in
    ap (λ (bs : List (List ℕ)). progress_over tables start progress bs) (sym (bytes_taken list.entries start (at - start)))
    ∙ ap (λ (p : Knowledge). progress_over tables start p (bytes rest)) is
    ∙ ap (λ (k : ℕ). progress_over tables k (progress_over tables 0 (Ok None) first) (bytes rest)) index
    ∙ sym (progress_both tables 0 (Ok None) first (bytes rest))
    ∙ ap (λ (bs : List (List ℕ)). progress_over tables 0 (Ok None) bs) (sym both)
  where
    -- the first elements, in two parts
    take_both : (packets : List Packet) (start place : ℕ) → start ≤ place → take place packets ≡ take start packets ++ take (place - start) (drop start packets)
    take_both packets start place below =
        let whole : place ≡ start + (place - start) = omega (arith, below) in
        let rest : drop start (take place packets) ≡ take (place - start) (drop start packets) =
        ap (λ (n : ℕ). drop start (take n packets)) whole ∙ drop-take start (place - start) packets in
        sym (take-append-drop start (take place packets))
        ∙ ap (λ (xs : List Packet). xs ++ drop start (take place packets)) (take-take start place packets below)
        ∙ ap (λ (xs : List Packet). take start packets ++ xs) rest

-- the text of a packet with a key tag, before which nothing is needed
pub key_said : (what : What) (tables : TableEntries) (list : Listing) (at : ℕ) (bytes : List ℕ) (progress : Knowledge) → slice_get (stream_of list) at ≡ Some bytes
    → has_key_tag bytes ≡ true → packet_text what forms.Objects at tables progress bytes ≡ detail_text what tables list at
key_said what tables list at bytes progress here key =
    let same : packet_text what forms.Objects at tables progress bytes ≡ packet_text what forms.Objects at tables (progress_before tables (packets_of list) at) bytes = rw key refl in
    same ∙ detail_said what tables list at bytes (progress_before tables (packets_of list) at) here refl

-- a packet with a key tag is one of the saved packets too
pub key_packet : (es : List Entry) (place : ℕ) → key_tag_at (map (λ (e : Entry). e.bytes) es) place ≡ true
    → (packet : Packet) × (slice_get (map packet_of es) place ≡ Some packet) × (has_key_tag packet.bytes ≡ true)
key_packet [] place key = let no : ⊥ = cc in absurd no
key_packet (e ∷ es) zero key = (packet_of e, refl, key)
key_packet (e ∷ es) (suc place) key = key_packet es place key

pub key_tagged : (list : Listing) (place : ℕ) → key_tag_at (stream_of list) place ≡ true → IfSome (slice_get (packets_of list) place) (λ packet. has_key_tag packet.bytes ≡ true)
key_tagged list place key = tagged list.entries place key
