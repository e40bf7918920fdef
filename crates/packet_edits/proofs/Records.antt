-- The records of packets in sequence.
use Rattle.std.proofs.Common.{◌≡◌, ℕ, zero, suc, ◌+◌, ◌<◌, List, [], ◌∷◌, ◌++◌, Option, Some, map, length, take, get_or, slice_get, append-nil, sym, ap, ◌∙◌, subst}
use Rattle.std.proofs.lemmas.List.{map_more, length-map}
use Rattle.std.proofs.lemmas.Grind.{flat_map-append}
use Rattle.std.specs.Io.KnownBytes.{Appends}
use Rattle.std.proofs.KnownBytes.{Appends-trans}
use Rattle.stream_files.specs.declared.streams.Head.{Head}
use Rattle.stream_files.specs.declared.packets.Packet.{Packet}
use Rattle.stream_files.specs.Texts.{header_text, record_text, records_text, written_text}
use Rattle.packet_edits.specs.declared.entry.Entry.{Entry}
use Rattle.packet_edits.specs.Edits.{Listing}

-- an element that is read
pub element_is : (es : List Entry) (i : ℕ) (e : Entry) → slice_get es i ≡ Some e → e ≡ get_or es i e
element_is [] i e here = cc
element_is (x ∷ es) zero e here = let is : x ≡ e = cc in sym is
element_is (x ∷ es) (suc i) e here = element_is es i e here

records_more : (f : Entry → Packet) (es : List Entry) (i : ℕ) (d : Entry) → i < length es → records_text (map f (take (i + 1) es)) ≡ records_text (map f (take i es)) ++ record_text (f (get_or es i d))
records_more f es i d within =
    let done : List Packet = map f (take i es) in
    let last : Packet = f (get_or es i d) in
    ap records_text (map_more f es i d within)
    ∙ flat_map-append record_text done (last ∷ [])
    ∙ ap (λ (text : List ℕ). records_text done ++ text) (append-nil (record_text last))

-- one more record was written
pub record_added : (f : Entry → Packet) (es : List Entry) (i : ℕ) (d e : Entry) (packet : Packet) (a b c : Option (List ℕ)) → i < length es → e ≡ get_or es i d → packet ≡ f e
    → Appends a b (records_text (map f (take i es))) → Appends b c (record_text packet) → Appends a c (records_text (map f (take (i + 1) es)))
record_added f es i d e packet a b c within is same before here =
    let done : List ℕ = records_text (map f (take i es)) in
    let P : List ℕ → Type 0 = λ text. Appends a c text in
    let last : record_text packet ≡ record_text (f (get_or es i d)) = ap record_text same ∙ ap (λ (x : Entry). record_text (f x)) is in
    subst P (ap (λ (text : List ℕ). done ++ text) last ∙ sym (records_more f es i d within)) (Appends-trans a b c done (record_text packet) before here)

-- the header and the records are the whole text
pub whole_written : (f : Entry → Packet) (head : Head) (list : Listing) (es : List Entry) (count : ℕ) (a b c : Option (List ℕ)) → count ≡ length list.entries → es ≡ list.entries → Appends a b (header_text head count) → Appends b c (records_text (map f es)) → Appends a c (written_text head (map f list.entries))
whole_written f head list es count a b c counted are start records =
    let P : List ℕ → Type 0 = λ text. Appends a c text in
    let many : count ≡ length (map f list.entries) = counted ∙ sym (length-map list.entries f) in
    let same : header_text head count ++ records_text (map f es) ≡ written_text head (map f list.entries) =
    ap (λ (n : ℕ). header_text head n ++ records_text (map f es)) many ∙ ap (λ (xs : List Entry). header_text head (length (map f list.entries)) ++ records_text (map f xs)) are in
    subst P same (Appends-trans a b c (header_text head count) (records_text (map f es)) start records)
