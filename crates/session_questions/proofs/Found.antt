-- The findings at packets after a position, and their lines.
use Rattle.std.proofs.Common.{◌≡◌, inl, inr, ℕ, Bool, true, false, not, cond, Option, subst, zero, suc, ◌+◌, List, [], ◌∷◌, ◌++◌, Some, None, Ok, take, drop, map, length, slice_get, refl, sym, ap, ◌∙◌, arith, append-nil, append_assoc, length-append}
use Rattle.std.specs.List.{concat, flat_map}
use Rattle.std.specs.Io.KnownBytes.{Appends}
use Rattle.std.proofs.KnownBytes.{Appends-trans}
use Rattle.std.proofs.lemmas.Grind.{flat_map-append}
use Rattle.std.proofs.lemmas.List.{length-map}
use Rattle.std.proofs.lemmas.List.Concat.{concat_is}
use Rattle.std.proofs.lemmas.List.Folds.{concat-append, flat_map-map}
use Rattle.std.proofs.lemmas.List.Sums.{sum_by-cons}
use Rattle.vp8_tables.specs.Tables.{TableEntries}
use Rattle.stream_files.specs.declared.packets.Packet.{Packet}
use Rattle.macroblock_lists.specs.Known.{Knowledge, progress_after, progress_over}
use Rattle.macroblock_lists.specs.declared.layouts.Form.{Form}
use Rattle.macroblock_lists.specs.declared.layouts.Form.TheVariants as forms
use Rattle.frame_header.specs.Tags.{has_key_tag}
use Rattle.packet_edits.specs.Edits.{Listing}
use Rattle.packet_edits.specs.Saved.{packets_of}
use Rattle.macroblock_lists.specs.Texts.{progress_before}
use Rattle.stream_checks.specs.declared.finding.Finding.{Finding}
use Rattle.stream_checks.specs.declared.finding.Tally.{Tally}
use Rattle.stream_checks.specs.declared.packets.PacketsBefore.{PacketsBefore}
use Rattle.stream_checks.specs.declared.stamps.Pace.{Pace}
use Rattle.stream_checks.specs.Breaks.{progresses_from}
use Rattle.stream_checks.specs.Objects.{object_of, tally_object}
use Rattle.stream_checks.specs.Packets.{bytes_of, each_from, first_position, joined, position_after, position_over}
use Rattle.stream_checks.specs.Partitions.{ends_from}
use Rattle.stream_checks.specs.Severity.{is_damage, tally_of}
use Rattle.stream_checks.specs.Stamps.{shown_stamp, shown_stamps}
use Rattle.stream_checks.specs.Texts.{texts_of}
use Rattle.session_questions.specs.Findings.{check_lines, finding_lines, findings_from}
use Rattle.session_questions.specs.Kept.{IsKnownFor}
use Rattle.session_questions.proofs.Progressed.{key_packet}

-- the findings at each packet of a stream from a position on
abbrev pub each : TableEntries → Pace → ℕ → PacketsBefore → Knowledge → List Packet → List (List Finding)
each tables pace place position progress packets =
    each_from pace position packets (progresses_from tables place progress (bytes_of packets)) (ends_from tables place progress (bytes_of packets))

-- those after some of the packets
pub each_dropped : (tables : TableEntries) (pace : Pace) (place : ℕ) (position : PacketsBefore) (progress : Knowledge) (packets : List Packet) (n : ℕ)
    → each tables pace (place + n) (position_over pace.step position (take n packets)) (progress_over tables place progress (bytes_of (take n packets))) (drop n packets)
    ≡ drop n (each tables pace place position progress packets)
each_dropped tables pace place position progress packets zero = ap (λ (p : ℕ). each tables pace p position progress packets) (omega arith)
each_dropped tables pace place position progress [] (suc n) = refl
each_dropped tables pace place position progress (packet ∷ packets) (suc n) =
    let after = progress_after tables place progress packet.bytes in
    let next = position_after pace.step position packet in
    ap (λ (p : ℕ). each tables pace p (position_over pace.step next (take n packets)) (progress_over tables (place + 1) after (bytes_of (take n packets))) (drop n packets)) (omega arith)
    ∙ each_dropped tables pace (place + 1) next after packets n

pub each_counted : (tables : TableEntries) (pace : Pace) (place : ℕ) (position : PacketsBefore) (progress : Knowledge) (packets : List Packet)
    → length (each tables pace place position progress packets) ≡ length packets
each_counted tables pace place position progress [] = refl
each_counted tables pace place position progress (packet ∷ packets) =
    ap suc (each_counted tables pace (place + 1) (position_after pace.step position packet) (progress_after tables place progress packet.bytes) packets)

-- the element at an index, and what follows it
pub drop_here : {A : Type 0} (xs : List A) (i : ℕ) (x : A) → slice_get xs i ≡ Some x → drop i xs ≡ x ∷ drop (suc i) xs
drop_here [] i x here = cc
drop_here (y ∷ xs) zero x here = let same : y ≡ x = cc in ap (λ z. z ∷ xs) same
drop_here (y ∷ xs) (suc i) x here = drop_here xs i x here

pub take_one : {A : Type 0} (xs ys : List A) (n : ℕ) (x : A) → drop n xs ≡ x ∷ ys → take (suc n) xs ≡ take n xs ++ x ∷ []
take_one [] ys zero x is = cc
take_one [] ys (suc n) x is = cc
take_one (y ∷ xs) ys zero x is = let same : y ≡ x = cc in ap (λ z. z ∷ []) same
take_one (y ∷ xs) ys (suc n) x is = ap (λ zs. y ∷ zs) (take_one xs ys n x is)

pub drop_one : {A : Type 0} (xs ys : List A) (n : ℕ) (x : A) → drop n xs ≡ x ∷ ys → drop (suc n) xs ≡ ys
drop_one [] ys zero x is = cc
drop_one [] ys (suc n) x is = cc
drop_one (y ∷ xs) ys zero x is = cc
drop_one (y ∷ xs) ys (suc n) x is = drop_one xs ys n x is

-- the findings at one packet more
pub joined_more : (all : List (List Finding)) (found : List Finding) → joined (all ++ found ∷ []) ≡ joined all ++ found
joined_more all found = flat_map-append (λ (f : List Finding). f) all (found ∷ []) ∙ ap (λ (fs : List Finding). joined all ++ fs) (append-nil found)

-- the time stamps of one packet more
pub stamps_more : (packets : List Packet) (n : ℕ) (packet : Packet) → slice_get packets n ≡ Some packet
    → shown_stamps (take (suc n) packets) ≡ shown_stamps (take n packets) ++ shown_stamp packet
stamps_more [] n packet here = cc
stamps_more (first ∷ packets) zero packet here = let same : first ≡ packet = cc in append-nil (shown_stamp first) ∙ ap shown_stamp same
stamps_more (first ∷ packets) (suc n) packet here = ap (λ (stamps : List ℕ). shown_stamp first ++ stamps) (stamps_more packets n packet here)
    ∙ sym (append_assoc (shown_stamp first) (shown_stamps (take n packets)) (shown_stamp packet))

-- the position after one packet more
pub position_more : (step : ℕ) (position : PacketsBefore) (packets : List Packet) (n : ℕ) (packet : Packet) → slice_get packets n ≡ Some packet
    → position_over step position (take (suc n) packets) ≡ position_after step (position_over step position (take n packets)) packet
position_more step position [] n packet here = cc
position_more step position (first ∷ packets) zero packet here = let same : first ≡ packet = cc in ap (position_after step position) same
position_more step position (first ∷ packets) (suc n) packet here = position_more step (position_after step position first) packets n packet here

-- the lines of findings, and one more
pub lines_joined : (found : List Finding) (last : List ℕ) → concat (map object_of found ++ last ∷ []) ≡ flat_map object_of found ++ last
lines_joined found last =
    concat-append (map object_of found) (last ∷ [])
    ∙ ap (λ (text : List ℕ). text ++ concat (last ∷ [])) (concat_is (map object_of found) ∙ flat_map-map (λ (x : List ℕ). x) object_of found)
    ∙ ap (λ (text : List ℕ). flat_map object_of found ++ text) (append-nil last)

one_kind : (damage : Bool) → cond damage 1 0 + cond (not damage) 1 0 ≡ 1
one_kind true = refl
one_kind false = refl

-- each finding is damage or a note
pub tally_counted : (found : List Finding) → (tally_of found).damage + (tally_of found).notes ≡ length found
tally_counted [] = refl
tally_counted (finding ∷ found) =
    let counts_damage : Finding → ℕ = λ f. cond (is_damage f.trouble) 1 0 in
    let counts_notes : Finding → ℕ = λ f. cond (not (is_damage f.trouble)) 1 0 in
    omega (arith, sum_by-cons counts_damage finding found, sum_by-cons counts_notes finding found, one_kind (is_damage finding.trouble), tally_counted found)

-- so the lines of findings are as many, and one more
pub lines_counted : (found : List Finding) → length (finding_lines found) ≡ (tally_of found).damage + (tally_of found).notes + 1
lines_counted found = omega (arith, length-append (map object_of found) (tally_object (tally_of found) ∷ []), length-map found object_of, tally_counted found)

-- the text of findings and of their tally is that of the lines
pub check_said : (tables : TableEntries) (list : Listing) (first count : ℕ) (form : Form) (found : List Finding) (tally : Tally) (w0 w1 w2 : Option (List ℕ))
    → form ≡ forms.Objects → found ≡ findings_from tables list first count → tally ≡ tally_of found
    → Appends w0 w1 (texts_of form found) → Appends w1 w2 (tally_object tally) → Appends w0 w2 (concat (check_lines tables list first count))
check_said tables list first count form found tally w0 w1 w2 objects is counted said last =
    let both : Appends w0 w2 (texts_of form found ++ tally_object tally) = Appends-trans _ _ _ _ _ said last in
    let text : texts_of form found ++ tally_object tally ≡ concat (finding_lines (findings_from tables list first count)) =
    ap (λ (f : Form). texts_of f found ++ tally_object tally) objects
    ∙ ap (λ (t : Tally). texts_of forms.Objects found ++ tally_object t) counted
    ∙ sym (lines_joined found (tally_object (tally_of found)))
    ∙ ap (λ (fs : List Finding). concat (finding_lines fs)) is in
    subst (λ (t : List ℕ). Appends w0 w2 t) text both

pub check_counted : (tables : TableEntries) (list : Listing) (first count : ℕ) (found : List Finding) (tally : Tally)
    → found ≡ findings_from tables list first count → tally ≡ tally_of found → tally.damage + tally.notes + 1 ≡ length (check_lines tables list first count)
check_counted tables list first count found tally is counted =
    ap (λ (t : Tally). t.damage + t.notes + 1) counted ∙ sym (lines_counted found) ∙ ap (λ (fs : List Finding). length (finding_lines fs)) is

-- a packet with a key tag needs nothing before it
each_forgets : (tables : TableEntries) (pace : Pace) (place : ℕ) (position : PacketsBefore) (one other : Knowledge) (packet : Packet) (packets : List Packet) → has_key_tag packet.bytes ≡ true
    → each tables pace place position one (packet ∷ packets) ≡ each tables pace place position other (packet ∷ packets)
each_forgets tables pace place position one other packet packets key = rw key refl

-- the findings from an index on, by what is known there
pub each_known : (tables : TableEntries) (pace : Pace) (list : Listing) (first count : ℕ) (position : PacketsBefore) (progress : Knowledge)
    → position ≡ position_over pace.step first_position (take first (packets_of list)) → IsKnownFor tables list first count progress
    → each tables pace first position progress (drop first (packets_of list)) ≡ drop first (each tables pace 0 first_position (Ok None) (packets_of list))
each_known tables pace list first count position progress is known =
    let packets : List Packet = packets_of list in
    let rest : List Packet = drop first packets in
    let from : first ≡ 0 + first = omega arith in
    let before : Knowledge = progress_before tables packets first in
    let exact : each tables pace first position before rest ≡ drop first (each tables pace 0 first_position (Ok None) packets) =
    ap (λ (n : ℕ). each tables pace n position before rest) from
    ∙ ap (λ (p : PacketsBefore). each tables pace (0 + first) p before rest) is
    ∙ each_dropped tables pace 0 first_position (Ok None) packets first in
    elim known.known [
      | inl same ↦ ap (λ (d : Knowledge). each tables pace first position d rest) same ∙ exact
      | inr key ↦
          let found = key_packet list.entries first key in
          let here : rest ≡ found.0 ∷ drop (suc first) packets = drop_here packets first found.0 found.1 in
          ap (λ (xs : List Packet). each tables pace first position progress xs) here
          ∙ each_forgets tables pace first position progress before found.0 (drop (suc first) packets) found.2
          ∙ sym (ap (λ (xs : List Packet). each tables pace first position before xs) here) ∙ exact
    ]
