-- The records of an IVF text, in full.
use Rattle.std.proofs.Common.{◌≡◌, ℕ, zero, suc, ◌+◌, ◌^◌, ◌<◌, ◌≤◌, List, [], ◌∷◌, ◌++◌, length, take, drop, refl, sym, ap, ◌∙◌, subst, arith, append_assoc, length-append, length-drop, take-append-drop}
use Rattle.std.proofs.lemmas.List.{take_at, drop_at, drop-drop, length-take-le}
use Rattle.byteorder.specs.Endian.{little_number, little_bytes}
use Rattle.byteorder.specs.Numbers.{little_from-lt, little_number-reads_back, length-bytes_low_first}
use Rattle.stream_files.specs.declared.packets.Packet.{Packet}
use Rattle.stream_files.specs.Ivf.{HasRecord, first_packet, after_first, Records}
use Rattle.stream_files.specs.Texts.{IsBytes, record_text, records_text, PacketFits, PacketsFit}
use Rattle.stream_files.proofs.Numbers.{little_bytes-number}

-- four parts of a text and the record at its front
record_parts : (a b c d : List ℕ) (stamp : ℕ) → length a ≡ 4 → length b ≡ 8
    → little_number 4 (a ++ (b ++ (c ++ d))) ≡ length c → little_number 8 (b ++ (c ++ d)) ≡ stamp
    → HasRecord (a ++ (b ++ (c ++ d)))
    × (record { stamp = stamp; bytes = c } ≡ first_packet (a ++ (b ++ (c ++ d))))
    × (after_first (a ++ (b ++ (c ++ d))) ≡ d)
record_parts a b c d stamp four eight size is_stamp =
    let text = a ++ (b ++ (c ++ d)) in
    let long : length text ≡ length a + (length b + (length c + length d)) = simp length-append in
    let behind_size : drop 4 text ≡ b ++ (c ++ d) = drop_at a (b ++ (c ++ d)) 4 four in
    let whole : a ++ (b ++ (c ++ d)) ≡ (a ++ b) ++ (c ++ d) = sym (append_assoc a b (c ++ d)) in
    let behind_head : drop 12 text ≡ c ++ d = ap (drop 12) whole ∙ drop_at (a ++ b) (c ++ d) 12 (omega (arith, length-append a b, four, eight)) in
    let taken : take (little_number 4 text) (drop 12 text) ≡ c = rw (behind_head, size) (take_at c d (length c) refl) in
    let reported : little_number 8 (drop 4 text) ≡ stamp = ap (little_number 8) behind_size ∙ is_stamp in
    let packet : record { stamp = stamp; bytes = c } ≡ first_packet text = rw (taken, reported) refl in
    let following : drop (little_number 4 text) (drop 12 text) ≡ d = rw (behind_head, size) (drop_at c d (length c) refl) in
    (omega (arith, long, four, eight, size), packet, following)

-- a record and the bytes after it
record_front : (packet : Packet) (following : List ℕ) → PacketFits packet
    → HasRecord (record_text packet ++ following) × (packet ≡ first_packet (record_text packet ++ following)) × (after_first (record_text packet ++ following) ≡ following)
record_front packet following fits =
    let a = little_bytes 4 (length packet.bytes) in
    let b = little_bytes 8 packet.stamp in
    let c = packet.bytes in
    let parts : (a ++ b ++ c) ++ following ≡ a ++ (b ++ (c ++ following)) = append_assoc (a ++ b) c following ∙ append_assoc a b (c ++ following) in
    let P : List ℕ → Type 0 = λ text. HasRecord text × (packet ≡ first_packet text) × (after_first text ≡ following) in
    subst P (sym parts)
    (record_parts a b c following packet.stamp (length-bytes_low_first 0 4 (length packet.bytes)) (length-bytes_low_first 0 8 packet.stamp)
    (little_number-reads_back 4 (length packet.bytes) (b ++ (c ++ following)) fits.size) (little_number-reads_back 8 packet.stamp (c ++ following) fits.stamp))

-- records that are written are read
pub records_read : (packets : List Packet) (rest : List ℕ) → PacketsFit packets → Records (records_text packets ++ rest) packets rest
records_read [] rest fit = refl
records_read (packet ∷ packets) rest fit =
    let following = records_text packets ++ rest in
    let whole : records_text (packet ∷ packets) ++ rest ≡ record_text packet ++ following = append_assoc (record_text packet) (records_text packets) rest in
    let front = record_front packet following fit.0 in
    let P : List ℕ → Type 0 = λ text. HasRecord text × (packet ≡ first_packet text) × Records (after_first text) packets rest in
    subst P (sym whole) (front.0, front.1, subst (λ t. Records t packets rest) (sym front.2) (records_read packets rest fit.1))

-- the rest of a list of bytes is bytes
pub bytes-drop : (n : ℕ) (xs : List ℕ) → IsBytes xs → IsBytes (drop n xs)
bytes-drop zero xs h = h
bytes-drop (suc n) [] h = λ i. omega arith
bytes-drop (suc n) (x ∷ xs) h = bytes-drop n xs (λ i. h (suc i))

-- a number of n bytes at an index
pub field_at : (k n : ℕ) (bytes : List ℕ) → IsBytes bytes → k + n ≤ length bytes → drop k bytes ≡ little_bytes n (little_number n (drop k bytes)) ++ drop (k + n) bytes
field_at k n bytes are long =
    let following = drop k bytes in
    let enough : n ≤ length following = omega (arith, length-drop k bytes) in
    sym (take-append-drop n following)
    ∙ ap (λ t. t ++ drop n following) (sym (little_bytes-number n following (bytes-drop k bytes are) enough))
    ∙ ap (λ t. little_bytes n (little_number n following) ++ t) (drop-drop n k bytes)

joined_four : (text a b c d four twelve : List ℕ) → text ≡ a ++ four → four ≡ b ++ twelve → twelve ≡ c ++ d → text ≡ (a ++ b ++ c) ++ d
joined_four text a b c d four twelve e f g =
    let whole : text ≡ a ++ (b ++ (c ++ d)) = cc in
    whole ∙ sym (append_assoc (a ++ b) c d ∙ append_assoc a b (c ++ d))

-- a record that is read has the written form
record_spelled : (text : List ℕ) → IsBytes text → HasRecord text → (text ≡ record_text (first_packet text) ++ after_first text) × PacketFits (first_packet text)
record_spelled text are whole =
    let size = little_number 4 text in
    let following = drop 12 text in
    let long : length (take size following) ≡ size = length-take-le size following (omega (arith, length-drop 12 text)) in
    let a : text ≡ little_bytes 4 size ++ drop 4 text = field_at 0 4 text are (omega arith) in
    let a' : text ≡ little_bytes 4 (length (take size following)) ++ drop 4 text = a ∙ ap (λ n. little_bytes 4 n ++ drop 4 text) (sym long) in
    let b = field_at 4 8 text are (omega arith) in
    let small : size < 256 ^ 4 = little_from-lt 0 4 text are in
    let early : little_number 8 (drop 4 text) < 256 ^ 8 = little_from-lt 0 8 (drop 4 text) (bytes-drop 4 text are) in (
      joined_four text (little_bytes 4 (length (take size following))) (little_bytes 8 (little_number 8 (drop 4 text))) (take size following) (drop size following) (drop 4 text) following
          a' b (sym (take-append-drop size following)),
      record { size = omega (arith, long, small); stamp = early },
    )

-- records that are read have the written form
pub records_spelled : (text : List ℕ) (packets : List Packet) (rest : List ℕ) → IsBytes text → Records text packets rest → (text ≡ records_text packets ++ rest) × PacketsFit packets
records_spelled text [] rest are read = (read, tt)
records_spelled text (packet ∷ packets) rest are read =
    let front = record_spelled text are read.0 in
    let behind_are : IsBytes (after_first text) = bytes-drop (little_number 4 text) (drop 12 text) (bytes-drop 12 text are) in
    let others = records_spelled (after_first text) packets rest behind_are read.2 in
    let whole : text ≡ record_text packet ++ after_first text = front.0 ∙ ap (λ p. record_text p ++ after_first text) (sym read.1) in
    let joined : text ≡ record_text packet ++ (records_text packets ++ rest) = whole ∙ ap (λ t. record_text packet ++ t) others.0 in
    (joined ∙ sym (append_assoc (record_text packet) (records_text packets) rest), (subst PacketFits (sym read.1) front.1, others.1))
