-- New time stamps, one packet after another.
use Rattle.std.proofs.Common.{◌≡◌, ℕ, zero, suc, ◌+◌, ◌-◌, ◌^◌, ◌<◌, ◌≤◌, Bool, true, false, cond, List, [], ◌∷◌, ◌++◌, Option, length, map, filter, take, drop, get_or, refl, sym, ap, subst, ◌∙◌, append-nil, append_assoc, arith}
use Rattle.std.specs.Io.KnownBytes.{Appends}
use Rattle.std.specs.List.{range_with_len}
use Rattle.std.proofs.KnownBytes.{Appends-nil, Appends-trans}
use Rattle.std.proofs.lemmas.List.{drop-drop, drop_all, drop_more, get_or-drop, length-append, length-map, map-append, take-append-drop, take_more}
use Rattle.std.proofs.lemmas.List.Elements.{filter-append}
use Rattle.std.proofs.lemmas.List.FromFn.{get_or-map-range_with_len}
use Rattle.std.proofs.lemmas.Grind.{flat_map-append}
use Rattle.frame_header.specs.Tags.{is_shown}
use Rattle.stream_files.specs.declared.streams.Head.{Head}
use Rattle.stream_files.specs.declared.packets.Packet.{Packet}
use Rattle.stream_files.specs.Texts.{header_text, record_text, records_text, written_text}
use Rattle.packet_times.specs.Clocks.{HasShown}
use Rattle.packet_times.specs.Stamps.{first_stamp, stamped, stamps_after}
use Rattle.packet_times.specs.Sums.{stamp_at, stamps_of}
use Rattle.packet_times.specs.declared.clocks.Clock.{Clock}
use Rattle.packet_times.specs.declared.durations.Duration.{Duration}
use Rattle.packet_times.proofs.Counted.{stamp_prefix}
use Rattle.packet_edits.specs.declared.entry.Entry.{Entry}
use Rattle.packet_edits.specs.Saved.{padded_if, restamped, shown_durations}

abbrev bytes_of : List Entry → List (List ℕ)
bytes_of es = map (λ entry. entry.bytes) es

-- the packet of an entry with a time stamp
abbrev pub one : Bool → ℕ → Entry → Packet
one pads stamp entry = padded_if pads (record { stamp = stamp; bytes = entry.bytes })

-- the packets of entries with the time stamps of these frames
abbrev from : Bool → List ℕ → List Entry → List Packet
from pads stamps es = map (padded_if pads) (stamped stamps (bytes_of es))

shown_append : (xs ys : List Entry) → shown_durations (xs ++ ys) ≡ shown_durations xs ++ shown_durations ys
shown_append xs ys =
    ap (λ (es : List Entry). map (λ (entry : Entry). entry.duration) es) (filter-append (λ (entry : Entry). is_shown entry.bytes) xs ys)
    ∙ map-append (λ (entry : Entry). entry.duration) (filter (λ (entry : Entry). is_shown entry.bytes) xs) (filter (λ (entry : Entry). is_shown entry.bytes) ys)

-- the time stamps of the frames that are left after the first packets
abbrev left_after : Head → List Entry → ℕ → List ℕ
left_after head es i = drop (length (shown_durations (take i es))) (stamps_of head (shown_durations es))

-- the first packets are written, and the others have the time stamps that are left
pub record IsPart (pads : Bool) (head : Head) (es : List Entry) (i : ℕ) (clock : Clock) (a b : Option (List ℕ)) : Type 0 where
  pub done : List Packet
  pub wrote : Appends a b (records_text done)
  pub rest : done ++ from pads (left_after head es i) (drop i es) ≡ restamped pads head es
  pub shown : HasShown head (shown_durations (take i es)) clock

pub part_none : (pads : Bool) (head : Head) (es : List Entry) (clock : Clock) (a : Option (List ℕ)) → HasShown head [] clock → IsPart pads head es 0 clock a a
part_none pads head es clock a shown = record { done = []; wrote = Appends-nil a; rest = refl; shown = shown }

-- the clock has the time stamp of the next frame
stamp_left : (head : Head) (es : List Entry) (i : ℕ) (clock : Clock) → HasShown head (shown_durations (take i es)) clock → clock.stamp ≡ first_stamp (left_after head es i)
stamp_left head es i clock shown =
    let before : List Duration = shown_durations (take i es) in
    let all : List Duration = shown_durations es in
    let n : ℕ = length before in
    let split : all ≡ before ++ shown_durations (drop i es) = ap shown_durations (sym (take-append-drop i es)) ∙ shown_append (take i es) (drop i es) in
    let long : length all ≡ n + length (shown_durations (drop i es)) = ap length split ∙ length-append before (shown_durations (drop i es)) in
    let read : first_stamp (left_after head es i) ≡ get_or (stamps_of head all) (n + 0) 0 = get_or-drop n (stamps_of head all) 0 0 in
    let is : get_or (stamps_of head all) (n + 0) 0 ≡ stamp_at head all n = get_or-map-range_with_len (stamp_at head all) 0 (length all + 1) (n + 0) n 0 (omega (arith, long)) (omega arith) in
    let same : stamp_at head all n ≡ stamp_at head before n = ap (λ (ds : List Duration). stamp_at head ds n) split ∙ stamp_prefix head n before (shown_durations (drop i es)) (omega arith) in
    shown.stamp ∙ sym same ∙ sym is ∙ sym read

-- one packet fewer is left
left_more : (head : Head) (es : List Entry) (i : ℕ) (e : Entry) → take (i + 1) es ≡ take i es ++ e ∷ [] → stamps_after e.bytes (left_after head es i) ≡ left_after head es (i + 1)
left_more head es i e more = by_first (is_shown e.bytes) refl
  where
    before : List Duration
    before = shown_durations (take i es)

    all : List ℕ
    all = stamps_of head (shown_durations es)

    now : shown_durations (take (i + 1) es) ≡ before ++ shown_durations (e ∷ [])
    now = ap shown_durations more ∙ shown_append (take i es) (e ∷ [])

    by_first : (b : Bool) → is_shown e.bytes ≡ b → stamps_after e.bytes (left_after head es i) ≡ left_after head es (i + 1)
    by_first true shown =
        let one_more : shown_durations (e ∷ []) ≡ e.duration ∷ [] = rw shown refl in
        let long : length (shown_durations (take (i + 1) es)) ≡ length before + 1 = ap length (now ∙ ap (λ (ds : List Duration). before ++ ds) one_more) ∙ length-append before (e.duration ∷ []) in
        rw shown (drop-drop 1 (length before) all ∙ ap (λ (n : ℕ). drop n all) (sym long))
    by_first false hidden =
        let none : shown_durations (e ∷ []) ≡ [] = rw hidden refl in
        let same : shown_durations (take (i + 1) es) ≡ before = now ∙ ap (λ (ds : List Duration). before ++ ds) none ∙ append-nil before in
        rw hidden (ap (λ (ds : List Duration). drop (length ds) all) (sym same))

pub part_more : (pads : Bool) (head : Head) (es : List Entry) (i : ℕ) (old new : Clock) (a b c : Option (List ℕ)) (e : Entry) → i < length es → e ≡ get_or es i e → IsPart pads head es i old a b
    → Appends b c (record_text (one pads old.stamp e)) → ((head : Head) (durations : List Duration) → HasShown head durations old → HasShown head (durations ++ shown_durations (e ∷ [])) new) → IsPart pads head es (i + 1) new a c
part_more pads head es i old new a b c e within is part here shows =
    let first : Packet = one pads old.stamp e in
    let more : take (i + 1) es ≡ take i es ++ e ∷ [] = take_more es i e within ∙ ap (λ (x : Entry). take i es ++ x ∷ []) (sym is) in
    let left : List Packet = from pads (left_after head es (i + 1)) (drop (i + 1) es) in
    let text : records_text (part.done ++ first ∷ []) ≡ records_text part.done ++ record_text first =
    flat_map-append record_text part.done (first ∷ []) ∙ ap (λ (t : List ℕ). records_text part.done ++ t) (append-nil (record_text first)) in
    let split : drop i es ≡ e ∷ drop (i + 1) es = drop_more es i e within ∙ ap (λ (x : Entry). x ∷ drop (i + 1) es) (sym is) in
    let rest : from pads (left_after head es i) (e ∷ drop (i + 1) es) ≡ first ∷ left =
    ap (λ (stamp : ℕ). one pads stamp e ∷ from pads (stamps_after e.bytes (left_after head es i)) (drop (i + 1) es)) (sym (stamp_left head es i old part.shown))
    ∙ ap (λ (stamps : List ℕ). first ∷ from pads stamps (drop (i + 1) es)) (left_more head es i e more) in
    record {
      done = part.done ++ first ∷ [];
      wrote = subst (Appends a c) (sym text) (Appends-trans a b c (records_text part.done) (record_text first) part.wrote here);
      rest =
          append_assoc part.done (first ∷ []) left ∙ ap (λ (ps : List Packet). part.done ++ ps) (sym rest)
          ∙ ap (λ (xs : List Entry). part.done ++ from pads (left_after head es i) xs) (sym split) ∙ part.rest;
      shown = subst (λ (ds : List Duration). HasShown head ds new) (sym (ap shown_durations more ∙ shown_append (take i es) (e ∷ []))) (shows head (shown_durations (take i es)) part.shown);
    }

pub part_all : (pads : Bool) (head : Head) (es : List Entry) (i : ℕ) (clock : Clock) (a b : Option (List ℕ)) → length es ≤ i → IsPart pads head es i clock a b → Appends a b (records_text (restamped pads head es))
part_all pads head es i clock a b over part =
    let all : part.done ≡ restamped pads head es = sym (append-nil part.done) ∙ ap (λ (xs : List Entry). part.done ++ from pads (left_after head es i) xs) (sym (drop_all i es over)) ∙ part.rest in
    subst (λ (ps : List Packet). Appends a b (records_text ps)) all part.wrote

length_stamped : (stamps : List ℕ) (packets : List (List ℕ)) → length (stamped stamps packets) ≡ length packets
length_stamped stamps [] = refl
length_stamped stamps (packet ∷ packets) = ap suc (length_stamped (stamps_after packet stamps) packets)

-- the header and the records are the whole text
pub restamped_written : (pads : Bool) (head : Head) (es entries : List Entry) (count : ℕ) (a b c : Option (List ℕ)) → count ≡ length entries → es ≡ entries → Appends a b (header_text head count) → Appends b c (records_text (restamped pads head es))
    → Appends a c (written_text head (restamped pads head entries))
restamped_written pads head es entries count a b c counted are start records =
    let stamps : List ℕ = stamps_of head (shown_durations entries) in
    let many : length (restamped pads head entries) ≡ length entries =
    length-map (stamped stamps (bytes_of entries)) (padded_if pads) ∙ length_stamped stamps (bytes_of entries) ∙ length-map entries (λ (entry : Entry). entry.bytes) in
    let whole : header_text head count ++ records_text (restamped pads head es) ≡ written_text head (restamped pads head entries) =
    ap (λ (n : ℕ). header_text head n ++ records_text (restamped pads head es)) (counted ∙ sym many)
    ∙ ap (λ (xs : List Entry). header_text head (length (restamped pads head entries)) ++ records_text (restamped pads head xs)) are in
    subst (Appends a c) whole (Appends-trans a b c (header_text head count) (records_text (restamped pads head es)) start records)
