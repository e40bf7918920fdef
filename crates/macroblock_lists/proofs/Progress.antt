-- The progress of a stream, packet by packet.
use Rattle.std.proofs.Common.{◌≡◌, ◌⊎◌, inl, inr, IfSome, subst, ℕ, suc, ◌+◌, ◌-◌, ◌<◌, get_or, ◌≤◌, List, [], ◌∷◌, ◌++◌, Some, Ok, None, true, map, take, drop, length, slice_get, refl, ap, sym, ◌∙◌, arith}
use Rattle.std.proofs.lemmas.List.{drop-take, drop_more, length-map, length-take-le, map-append, map_more, take-append-drop, take-take}
use Rattle.std.proofs.lemmas.Option.{get_or_from_slice_get, slice_get_cases}
use Rattle.vp8_tables.specs.Tables.{TableEntries}
use Rattle.stream_files.specs.declared.packets.Packet.{Packet}
use Rattle.frame_header.specs.Tags.{has_key_tag}
use Rattle.macroblock_lists.specs.Known.{Knowledge, progress_after, progress_over}
use Rattle.macroblock_lists.specs.Texts.{progress_before}

-- the first elements, in two parts
take_both : (packets : List Packet) (start place : ℕ) → start ≤ place → take place packets ≡ take start packets ++ take (place - start) (drop start packets)
take_both packets start place below =
    let whole : place ≡ start + (place - start) = omega (arith, below) in
    let rest : drop start (take place packets) ≡ take (place - start) (drop start packets) =
    ap (λ (n : ℕ). drop start (take n packets)) whole ∙ drop-take start (place - start) packets in
    sym (take-append-drop start (take place packets))
    ∙ ap (λ (xs : List Packet). xs ++ drop start (take place packets)) (take-take start place packets below)
    ∙ ap (λ (xs : List Packet). take start packets ++ xs) rest

-- after packets and one more
pub progress_more : (tables : TableEntries) (place : ℕ) (progress : Knowledge) (packets : List (List ℕ)) (packet : List ℕ)
    → progress_over tables place progress (packets ++ packet ∷ []) ≡ progress_after tables (place + length packets) (progress_over tables place progress packets) packet
progress_more tables place progress [] packet = let same : place ≡ place + 0 = omega arith in ap (λ (n : ℕ). progress_after tables n progress packet) same
progress_more tables place progress (first ∷ packets) packet =
    let same : place + 1 + length packets ≡ place + suc (length packets) = omega arith in
    progress_more tables (place + 1) (progress_after tables place progress first) packets packet
    ∙ ap (λ (n : ℕ). progress_after tables n (progress_over tables (place + 1) (progress_after tables place progress first) packets) packet) same

-- and after some and others
pub progress_both : (tables : TableEntries) (place : ℕ) (progress : Knowledge) (packets more : List (List ℕ))
    → progress_over tables place progress (packets ++ more) ≡ progress_over tables (place + length packets) (progress_over tables place progress packets) more
progress_both tables place progress [] more = let same : place ≡ place + 0 = omega arith in ap (λ (n : ℕ). progress_over tables n progress more) same
progress_both tables place progress (first ∷ packets) more =
    let same : place + 1 + length packets ≡ place + suc (length packets) = omega arith in
    progress_both tables (place + 1) (progress_after tables place progress first) packets more
    ∙ ap (λ (n : ℕ). progress_over tables n (progress_over tables (place + 1) (progress_after tables place progress first) packets) more) same

-- a packet with a key tag needs nothing before it
pub keys_forget : (tables : TableEntries) (place : ℕ) (one other : Knowledge) (packet : List ℕ) → has_key_tag packet ≡ true
    → progress_after tables place one packet ≡ progress_after tables place other packet
keys_forget tables place one other packet key = rw key refl

pub keys_forget_over : (tables : TableEntries) (place : ℕ) (one other : Knowledge) (packet : List ℕ) (packets : List (List ℕ)) → has_key_tag packet ≡ true
    → progress_over tables place one (packet ∷ packets) ≡ progress_over tables place other (packet ∷ packets)
keys_forget_over tables place one other packet packets key =
    ap (λ (after : Knowledge). progress_over tables (place + 1) after packets) (keys_forget tables place one other packet key)

-- after the first packets of a list and one more
abbrev bytes_of : List Packet → List (List ℕ)
bytes_of packets = map (λ packet. packet.bytes) packets

pub progress_next : (tables : TableEntries) (place : ℕ) (packets : List Packet) (n j : ℕ) (packet : Packet) (old new : Knowledge)
    → n < length packets → place + n ≡ j → packet ≡ get_or packets n packet
    → old ≡ progress_over tables place (Ok None) (map (λ packet. packet.bytes) (take n packets)) → new ≡ progress_after tables j old packet.bytes
    → new ≡ progress_over tables place (Ok None) (map (λ packet. packet.bytes) (take (n + 1) packets))
progress_next tables place packets n j packet old new below at is so_far here =
    let first : List (List ℕ) = bytes_of (take n packets) in
    let count : length first ≡ n = length-map (take n packets) (λ packet. packet.bytes) ∙ length-take-le n packets (omega (arith, below)) in
    let all : bytes_of (take (n + 1) packets) ≡ first ++ packet.bytes ∷ [] =
    map_more (λ packet. packet.bytes) packets n packet below ∙ ap (λ (p : Packet). first ++ p.bytes ∷ []) (sym is) in
    let index : j ≡ place + length first = sym at ∙ ap (λ (k : ℕ). place + k) (sym count) in
    here
    ∙ ap (λ (p : Knowledge). progress_after tables j p packet.bytes) so_far
    ∙ ap (λ (k : ℕ). progress_after tables k (progress_over tables place (Ok None) first) packet.bytes) index
    ∙ sym (progress_more tables place (Ok None) first packet.bytes)
    ∙ ap (λ (bs : List (List ℕ)). progress_over tables place (Ok None) bs) (sym all)

-- packets before one with a key tag change nothing after it
pub progress_skips : (tables : TableEntries) (packets : List Packet) (start place : ℕ) (packet : Packet)
    → start < place → place ≤ length packets → slice_get packets start ≡ Some packet → has_key_tag packet.bytes ≡ true
    → progress_over tables start (Ok None) (map (λ packet. packet.bytes) (take (place - start) (drop start packets))) ≡ progress_before tables packets place
progress_skips tables packets start place packet below inside found key =
    let before : List (List ℕ) = bytes_of (take start packets) in
    let rest : List Packet = take (place - start - 1) (drop (start + 1) packets) in
    let at : drop start packets ≡ packet ∷ drop (start + 1) packets =
    drop_more packets start packet (omega (arith, below, inside)) ∙ ap (λ (p : Packet). p ∷ drop (start + 1) packets) (get_or_from_slice_get packets start packet packet found) in
    let one : place - start ≡ suc (place - start - 1) = omega (arith, below) in
    let taken : take (place - start) (drop start packets) ≡ packet ∷ rest =
    ap (λ (xs : List Packet). take (place - start) xs) at ∙ ap (λ (k : ℕ). take k (packet ∷ drop (start + 1) packets)) one in
    let both : take place packets ≡ take start packets ++ take (place - start) (drop start packets) = take_both packets start place (omega (arith, below)) in
    let count : length before ≡ start = length-map (take start packets) (λ packet. packet.bytes) ∙ length-take-le start packets (omega (arith, below, inside)) in
    let whole : bytes_of (take place packets) ≡ before ++ (packet.bytes ∷ bytes_of rest) =
    ap bytes_of both ∙ map-append (λ packet. packet.bytes) (take start packets) _ ∙ ap (λ (xs : List Packet). before ++ bytes_of xs) taken in
    let index : start ≡ 0 + length before = omega (arith, count) in
    ap (λ (xs : List Packet). progress_over tables start (Ok None) (bytes_of xs)) taken
    ∙ keys_forget_over tables start (Ok None) (progress_over tables 0 (Ok None) before) packet.bytes (bytes_of rest) key
    ∙ ap (λ (k : ℕ). progress_over tables k (progress_over tables 0 (Ok None) before) (packet.bytes ∷ bytes_of rest)) index
    ∙ sym (progress_both tables 0 (Ok None) before (packet.bytes ∷ bytes_of rest))
    ∙ ap (λ (bs : List (List ℕ)). progress_over tables 0 (Ok None) bs) (sym whole)

-- so decoding may start there
by_found : (tables : TableEntries) (packets : List Packet) (start place : ℕ) (packet : Packet)
    → start < place → place ≤ length packets → slice_get packets start ≡ Some packet → IfSome (slice_get packets start) (λ packet. has_key_tag packet.bytes ≡ true)
    → progress_over tables start (Ok None) (map (λ packet. packet.bytes) (take (place - start) (drop start packets))) ≡ progress_before tables packets place
by_found tables packets start place packet below inside found key = progress_skips tables packets start place packet below inside found (rw found at key)

by_key : (tables : TableEntries) (packets : List Packet) (start place : ℕ)
    → start < place → place ≤ length packets → IfSome (slice_get packets start) (λ packet. has_key_tag packet.bytes ≡ true)
    → progress_over tables start (Ok None) (map (λ packet. packet.bytes) (take (place - start) (drop start packets))) ≡ progress_before tables packets place
by_key tables packets start place below inside key = elim (slice_get_cases packets start).1 [
  | inl known ↦ by_found tables packets start place known.0 below inside known.2 key
  | inr none ↦ absurd (omega (arith, below, inside, none.0))
]

pub progress_starts : (tables : TableEntries) (packets : List Packet) (start place : ℕ)
    → place ≤ length packets → (start ≡ 0) ⊎ ((start < place) × IfSome (slice_get packets start) (λ packet. has_key_tag packet.bytes ≡ true))
    → progress_over tables start (Ok None) (map (λ packet. packet.bytes) (take (place - start) (drop start packets))) ≡ progress_before tables packets place
progress_starts tables packets start place inside (inl zero) =
    let P : ℕ → Type 0 = λ s. progress_over tables s (Ok None) (bytes_of (take (place - s) (drop s packets))) ≡ progress_before tables packets place in
    let whole : place - 0 ≡ place = omega arith in
    subst P (sym zero) (ap (λ (n : ℕ). progress_over tables 0 (Ok None) (bytes_of (take n packets))) whole)
progress_starts tables packets start place inside (inr (below, key)) = by_key tables packets start place below inside key
