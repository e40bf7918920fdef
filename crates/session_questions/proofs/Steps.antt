-- The position and the lines after one more packet.
use Rattle.std.proofs.Common.{◌≡◌, ℕ, zero, suc, ◌+◌, ◌≤◌, Bool, true, false, List, [], ◌∷◌, ◌++◌, Some, take, drop, map, length, option_map, slice_get, is_ok, refl, sym, ap, ◌∙◌, arith, add-zero, zero-add, add-one, add-suc, suc-add}
use Rattle.std.specs.Int.{from_bool}
use Rattle.std.proofs.lemmas.List.{length-take-le}
use Rattle.std.proofs.lemmas.Option.{slice_get-map}
use Rattle.stream_files.specs.declared.packets.Packet.{Packet}
use Rattle.frame_header.specs.Outlines.{outline_of}
use Rattle.frame_header.specs.Tags.{has_key_tag, is_shown}
use Rattle.packet_edits.specs.declared.entry.Entry.{Entry}
use Rattle.packet_edits.specs.Edits.{Listing}
use Rattle.packet_edits.specs.Saved.{packet_of, packets_of}
use Rattle.packet_edits.specs.Shown.{shown_indexes, stream_of}
use Rattle.stream_facts.specs.declared.facts.Position.{Position}
use Rattle.stream_facts.specs.Facts.{end_of_record, facts_of, first_position, position_after, position_over}
use Rattle.stream_facts.specs.Json.{object_of}
use Rattle.stream_facts.proofs.Positions.{after_key, fact_at, frames_over, packets_over, shown_among}
use Rattle.session_questions.specs.Lines.{first_record, lines_of}
use Rattle.session_questions.specs.Places.{position_at}
use Rattle.session_questions.proofs.Counts.{shown_counted}

-- the packet at an index, by its time stamp and its bytes
pub packet_here : (es : List Entry) (i stamp : ℕ) (bytes : List ℕ) → option_map (λ (e : Entry). e.stamp) (slice_get es i) ≡ Some stamp → slice_get (map (λ (e : Entry). e.bytes) es) i ≡ Some bytes
    → slice_get (map packet_of es) i ≡ Some (record { stamp = stamp; bytes = bytes })
packet_here [] i stamp bytes s b = cc
packet_here (e ∷ es) zero stamp bytes s b =
    let stamps : e.stamp ≡ stamp = cc in
    let same : e.bytes ≡ bytes = cc in
    let P : ℕ → List ℕ → Packet = λ s b. record { stamp = s; bytes = b } in
    ap (λ (n : ℕ). Some (P n e.bytes)) stamps ∙ ap (λ (bs : List ℕ). Some (P stamp bs)) same
packet_here (e ∷ es) (suc i) stamp bytes s b = packet_here es i stamp bytes s b

position_suc : (position : Position) (packets : List Packet) (i : ℕ) (packet : Packet) → slice_get packets i ≡ Some packet → position_over position (take (suc i) packets) ≡ position_after (position_over position (take i packets)) packet
position_suc position [] i packet e = cc
position_suc position (first ∷ packets) zero packet e = let same : first ≡ packet = cc in ap (position_after position) same
position_suc position (first ∷ packets) (suc i) packet e = position_suc (position_after position first) packets i packet e

-- the position after the packet at an index
pub position_next : (list : Listing) (i : ℕ) (packet : Packet) → slice_get (packets_of list) i ≡ Some packet → position_at list (i + 1) ≡ position_after (position_at list i) packet
position_next list i packet e = ap (λ (n : ℕ). position_at list n) (add-one i) ∙ position_suc (first_position first_record) (packets_of list) i packet e

begins_suc : (position : Position) (es : List Entry) (i : ℕ) (bytes : List ℕ) → slice_get (map (λ (e : Entry). e.bytes) es) i ≡ Some bytes
    → (position_over position (take (suc i) (map packet_of es))).begins ≡ end_of_record (position_over position (take i (map packet_of es))).begins bytes
begins_suc position [] i bytes e = cc
begins_suc position (first ∷ es) zero bytes e = let same : first.bytes ≡ bytes = cc in ap (λ (bs : List ℕ). end_of_record position.begins bs) same
begins_suc position (first ∷ es) (suc i) bytes e = begins_suc (position_after position (packet_of first)) es i bytes e

pub begins_next : (list : Listing) (i : ℕ) (bytes : List ℕ) → slice_get (stream_of list) i ≡ Some bytes → (position_at list (i + 1)).begins ≡ end_of_record (position_at list i).begins bytes
begins_next list i bytes e = ap (λ (n : ℕ). (position_at list n).begins) (add-one i) ∙ begins_suc (first_position first_record) list.entries i bytes e

entries_count : (es : List Entry) → length (map packet_of es) ≡ length es
entries_count [] = refl
entries_count (e ∷ es) = ap suc (entries_count es)

-- the numbers of a position
pub packets_before : (list : Listing) (at : ℕ) → at ≤ length list.entries → (position_at list at).packets ≡ at
packets_before list at within =
    packets_over (first_position first_record) (take at (packets_of list)) ∙ omega (arith, length-take-le at (packets_of list) (omega (arith, entries_count list.entries)))

shown_few : (packets : List Packet) → shown_among packets ≤ length packets
shown_few [] = omega arith
shown_few (packet ∷ packets) = omega (arith, shown_few packets, one_at_most (is_shown packet.bytes))
  where
    one_at_most : (shown : Bool) → from_bool shown ≤ 1
    one_at_most true = omega arith
    one_at_most false = omega arith

pub frames_few : (list : Listing) (at : ℕ) → (position_at list at).frames ≤ (position_at list at).packets
frames_few list at =
    let packets = take at (packets_of list) in
    omega (arith, packets_over (first_position first_record) packets, frames_over (first_position first_record) packets, shown_few packets)

-- a position is known by its numbers after a packet with a key tag and an accepted header
by_fields : (p : Position) (packets frames begins : ℕ) → p.follows ≡ true → p.is_broken ≡ false → packets ≡ p.packets → frames ≡ p.frames → begins ≡ p.begins
    → record { packets = packets; frames = frames; begins = begins; follows = true; is_broken = false } ≡ p
by_fields p packets frames begins follows whole a b c = rw (a, b, c, ← follows, ← whole) refl

pub key_position : (list : Listing) (place frames begins : ℕ) (packet : Packet) → place + 1 ≤ length list.entries → slice_get (packets_of list) place ≡ Some packet
    → has_key_tag packet.bytes ≡ true → is_ok (outline_of true packet.bytes) ≡ true
    → frames ≡ length (shown_indexes (take (place + 1) (stream_of list))) → begins ≡ (position_at list (place + 1)).begins
    → record { packets = place + 1; frames = frames; begins = begins; follows = true; is_broken = false } ≡ position_at list (place + 1)
key_position list place frames begins packet within here tagged accepted shown ends =
    let after : position_at list (place + 1) ≡ position_after (position_at list place) packet = position_next list place packet here in
    let key = after ∙ after_key (position_at list place) packet tagged accepted in
    let counted : length (shown_indexes (take (place + 1) (stream_of list))) ≡ (position_at list (place + 1)).frames =
    shown_counted 0 list.entries (place + 1) ∙ omega (arith, frames_over (first_position first_record) (take (place + 1) (packets_of list))) in
    by_fields (position_at list (place + 1)) (place + 1) frames begins (ap (λ (p : Position). p.follows) key) (ap (λ (p : Position). p.is_broken) key)
    (sym (packets_before list (place + 1) within)) (shown ∙ counted) ends

-- the line at an index
pub line_here : (list : Listing) (i : ℕ) (packet : Packet) → slice_get (packets_of list) i ≡ Some packet → slice_get (lines_of list) i ≡ Some (object_of (facts_of (position_at list i) packet))
line_here list i packet e =
    slice_get-map object_of _ i ∙ ap (option_map object_of) (fact_at (first_position first_record) (packets_of list) i ∙ ap (option_map (facts_of (position_at list i))) e)

take_more : {A : Type 0} (xs : List A) (n : ℕ) (x : A) → slice_get xs n ≡ Some x → take (suc n) xs ≡ take n xs ++ x ∷ []
take_more [] n x e = cc
take_more (y ∷ xs) zero x e = let same : y ≡ x = cc in ap (λ z. z ∷ []) same
take_more (y ∷ xs) (suc n) x e = ap (λ zs. y ∷ zs) (take_more xs n x e)

get_dropped : {A : Type 0} (xs : List A) (first n : ℕ) → slice_get (drop first xs) n ≡ slice_get xs (n + first)
get_dropped xs zero n = ap (λ (k : ℕ). slice_get xs k) (sym (add-zero n))
get_dropped [] (suc first) n = refl
get_dropped (x ∷ xs) (suc first) n = get_dropped xs first n ∙ ap (λ (k : ℕ). slice_get (x ∷ xs) k) (sym (add-suc n first))

-- one more of the lines after an index
pub lines_more : (lines : List (List ℕ)) (first n i : ℕ) (line : List ℕ) → n + first ≡ i → slice_get lines i ≡ Some line → take (n + 1) (drop first lines) ≡ take n (drop first lines) ++ line ∷ []
lines_more lines first n i line at e =
    ap (λ (k : ℕ). take k (drop first lines)) (add-one n) ∙ take_more (drop first lines) n line (get_dropped lines first n ∙ ap (λ (k : ℕ). slice_get lines k) at ∙ e)

drop_none : {A : Type 0} (n : ℕ) → drop {A = A} n [] ≡ []
drop_none zero = refl
drop_none (suc n) = refl

-- what follows the first of a list, and then more of it
pub drop-more : {A : Type 0} (xs : List A) (first n : ℕ) → drop (first + n) xs ≡ drop n (drop first xs)
drop-more xs zero n = ap (λ (k : ℕ). drop k xs) (zero-add n)
drop-more {A = A} [] (suc first) n = ap (λ (k : ℕ). drop {A = A} k []) (suc-add first n) ∙ sym (drop_none n)
drop-more (x ∷ xs) (suc first) n = ap (λ (k : ℕ). drop k (x ∷ xs)) (suc-add first n) ∙ drop-more xs first n
