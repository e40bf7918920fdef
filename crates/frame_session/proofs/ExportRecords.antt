-- The records of an export, one after another.
use Rattle.std.proofs.Common.{◌≡◌, ℕ, ◌+◌, ◌<◌, List, [], ◌∷◌, ◌++◌, Option, map, length, take, get_or, append-nil, sym, ap, ◌∙◌, subst}
use Rattle.std.proofs.lemmas.List.{length-map, map_more}
use Rattle.std.proofs.lemmas.Grind.{flat_map-append}
use Rattle.std.specs.Io.KnownBytes.{Appends}
use Rattle.std.proofs.KnownBytes.{Appends-trans}
use Rattle.frame_session.specs.ExportSizes.{padded_packet}
use Rattle.stream_files.specs.declared.packets.Packet.{Packet}
use Rattle.stream_files.specs.Texts.{header_text, record_text, records_text, written_text}
use Rattle.stream_files.specs.declared.streams.Head.{Head}

records_more : (packets : List Packet) (i : ℕ) (d : Packet) → i < length packets → records_text (map padded_packet (take (i + 1) packets)) ≡ records_text (map padded_packet (take i packets)) ++ record_text (padded_packet (get_or packets i d))
records_more packets i d within =
    let done : List Packet = map padded_packet (take i packets) in
    let last : Packet = padded_packet (get_or packets i d) in
    ap records_text (map_more padded_packet packets i d within)
    ∙ flat_map-append record_text done (last ∷ [])
    ∙ ap (λ (text : List ℕ). records_text done ++ text) (append-nil (record_text last))

-- the header and the records are the whole text
pub whole_written : (head : Head) (packets all : List Packet) (count : ℕ) (a b c : Option (List ℕ)) → count ≡ length packets → all ≡ packets → Appends a b (header_text head count) → Appends b c (records_text (map padded_packet all)) → Appends a c (written_text head (map padded_packet packets))
whole_written head packets all count a b c counted are start records =
    let many : count ≡ length (map padded_packet packets) = counted ∙ sym (length-map packets padded_packet) in
    let same : header_text head count ++ records_text (map padded_packet all) ≡ written_text head (map padded_packet packets) =
    ap (λ (n : ℕ). header_text head n ++ records_text (map padded_packet all)) many ∙ ap (λ (ps : List Packet). header_text head (length (map padded_packet packets)) ++ records_text (map padded_packet ps)) are in
    subst (λ (text : List ℕ). Appends a c text) same (Appends-trans a b c (header_text head count) (records_text (map padded_packet all)) start records)

-- one more record was written
pub record_added : (packets : List Packet) (i : ℕ) (d packet : Packet) (a b c : Option (List ℕ)) → i < length packets → packet ≡ get_or packets i d
    → Appends a b (records_text (map padded_packet (take i packets))) → Appends b c (record_text (padded_packet packet)) → Appends a c (records_text (map padded_packet (take (i + 1) packets)))
record_added packets i d packet a b c within is before here =
    let done : List ℕ = records_text (map padded_packet (take i packets)) in
    let last : record_text (padded_packet packet) ≡ record_text (padded_packet (get_or packets i d)) = ap (λ (p : Packet). record_text (padded_packet p)) is in
    subst (λ (text : List ℕ). Appends a c text) (ap (λ (text : List ℕ). done ++ text) last ∙ sym (records_more packets i d within)) (Appends-trans a b c done (record_text (padded_packet packet)) before here)
