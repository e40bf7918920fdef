-- A walk over the records of an IVF text.
use Rattle.std.proofs.Common.{◌≡◌, ℕ, ◌+◌, ◌-◌, ◌<◌, ◌≤◌, List, [], ◌∷◌, ◌++◌, length, take, drop, refl, sym, ap, ◌∙◌, subst, arith, length-drop}
use Rattle.std.proofs.lemmas.List.{drop-drop, take_rest}
use Rattle.byteorder.specs.Endian.{little_number}
use Rattle.stream_files.specs.declared.packets.Packet.{Packet}
use Rattle.stream_files.specs.Ivf.{HasRecord, first_packet, after_first, Records}

-- a walk continues
pub after_first-shorter : (text : List ℕ) → HasRecord text → length (after_first text) < length text
after_first-shorter text whole = omega (arith, length-drop (little_number 4 text) (drop 12 text), length-drop 12 text)

-- the bytes after a record of this size
pub after_size : (text : List ℕ) (size : ℕ) → size ≡ little_number 4 text
    → take (length (take (length text - 12) (drop 12 text)) - size) (drop size (take (length text - 12) (drop 12 text))) ≡ after_first text
after_size text size is_size =
    take_rest (take (length text - 12) (drop 12 text)) size
    ∙ ap (drop size) (take_rest text 12)
    ∙ ap (λ n. drop n (drop 12 text)) is_size

-- one more record
pub records_more : (text : List ℕ) (packets : List Packet) (rest : List ℕ) (packet : Packet) (following : List ℕ)
    → Records text packets rest → HasRecord rest → packet ≡ first_packet rest → following ≡ after_first rest
    → Records text (packets ++ packet ∷ []) following
records_more text [] rest packet following so_far whole is_first is_behind =
    let P : List ℕ → Type 0 = λ t. HasRecord t × (packet ≡ first_packet t) × (after_first t ≡ following) in
    subst P (sym so_far) (whole, is_first, sym is_behind)
records_more text (p ∷ packets) rest packet following so_far whole is_first is_behind =
    (so_far.0, so_far.1, records_more (after_first text) packets rest packet following so_far.2 whole is_first is_behind)

-- the record at an index of a file
pub record_at : (file bytes part : List ℕ) (start at size stamp : ℕ) (packets : List Packet)
    → bytes ≡ file → Records (drop start file) packets (drop at file)
    → (let text = take (length bytes - at) (drop at bytes) in HasRecord text × (stamp ≡ little_number 8 (drop 4 text)) × (size ≡ little_number 4 text))
    → part ≡ take size (drop (at + 12) file)
    → Records (drop start file) (packets ++ record { stamp = stamp; bytes = part } ∷ []) (drop (at + 12 + size) file) × (at + 12 + size ≤ length file)
record_at file bytes part start at size stamp packets is_file so_far found is_part =
    let rest = drop at file in
    let is_rest : take (length bytes - at) (drop at bytes) ≡ rest = take_rest bytes at ∙ ap (drop at) is_file in
    let whole : HasRecord rest = subst HasRecord is_rest found.0 in
    let is_stamp : stamp ≡ little_number 8 (drop 4 rest) = found.1 ∙ ap (λ t. little_number 8 (drop 4 t)) is_rest in
    let is_size : size ≡ little_number 4 rest = found.2 ∙ ap (little_number 4) is_rest in
    let following : drop (at + 12) file ≡ drop 12 rest = sym (drop-drop 12 at file) in
    let is_bytes : part ≡ take (little_number 4 rest) (drop 12 rest) = is_part ∙ ap (take size) following ∙ ap (λ n. take n (drop 12 rest)) is_size in
    let first : record { stamp = stamp; bytes = part } ≡ first_packet rest = rw (is_stamp, is_bytes) refl in
    let after : drop (at + 12 + size) file ≡ after_first rest = sym (drop-drop size (at + 12) file) ∙ ap (drop size) following ∙ ap (λ n. drop n (drop 12 rest)) is_size in
    (records_more (drop start file) packets rest _ _ so_far whole first after, omega (arith, whole, is_size, length-drop at file))

-- a walk that ended has found at least the records of any other
pub records-longest : (text : List ℕ) (packets : List Packet) (rest : List ℕ) (others : List Packet) (following : List ℕ)
    → Records text packets rest → ¬ HasRecord rest → Records text others following → length others ≤ length packets
records-longest text packets rest [] following here over there = omega arith
records-longest text [] rest (q ∷ others) following here over there = absurd (over (subst HasRecord here there.0))
records-longest text (p ∷ packets) rest (q ∷ others) following here over there =
    let ih : length others ≤ length packets = records-longest (after_first text) packets rest others following here.2 over there.2 in
    omega (arith, ih)

-- two walks that ended found the same records
pub records-one : (text : List ℕ) (packets : List Packet) (rest : List ℕ) (others : List Packet) (following : List ℕ)
    → Records text packets rest → ¬ HasRecord rest → Records text others following → ¬ HasRecord following → (packets ≡ others) × (rest ≡ following)
records-one text [] rest [] following here over there done = (refl, sym here ∙ there)
records-one text [] rest (q ∷ others) following here over there done = absurd (over (subst HasRecord here there.0))
records-one text (p ∷ packets) rest [] following here over there done = absurd (done (subst HasRecord there here.0))
records-one text (p ∷ packets) rest (q ∷ others) following here over there done =
    let ih : (packets ≡ others) × (rest ≡ following) = records-one (after_first text) packets rest others following here.2 over there.2 done in
    let first : p ≡ q = here.1 ∙ sym there.1 in
    let behind_them : packets ≡ others = ih.0 in
    (cc, ih.1)
