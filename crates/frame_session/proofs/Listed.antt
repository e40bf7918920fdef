-- Replies of several lines.
use Rattle.std.proofs.Common.{◌≡◌, ℕ, ◌+◌, ◌-◌, ◌<◌, ◌≤◌, ◌++◌, ◌∷◌, [], false, true, List, Option, None, Result, Ok, Err, inl, inr, refl, subst, ◌⊎◌, take, drop, length, map, min, nat_lt, sym, ap, ◌∙◌, append-nil, rules, tests}
use Rattle.std.specs.List.{concat, range_with_len}
use Rattle.std.specs.Prelude.{OnOk}
use Rattle.std.specs.Io.KnownBytes.{Appends}
use Rattle.std.proofs.lemmas.List.{length-drop, length-map, length-take, take_min}
use Rattle.std.proofs.lemmas.List.Folds.{concat-append}
use Rattle.std.proofs.lemmas.List.FromFn.{length-map-range_with_len, map-range_with_len_more}
use Rattle.packet_edits.specs.Edits.{Listing}
use Rattle.packet_edits.specs.Saved.{packet_of, packets_of}
use Rattle.stream_facts.specs.Facts.{facts_in, first_position}
use Rattle.stream_facts.specs.Json.{object_of}
use Rattle.stream_facts.proofs.Positions.{facts_count}
use Rattle.vp8_tables.specs.Tables.{TableEntries}
use Rattle.stream_checks.specs.declared.finding.Finding.{Finding}
use Rattle.stream_checks.specs.Packets.{findings_of_each, joined}
use Rattle.stream_checks.specs.Packets.{first_position as checked_first}
use Rattle.stream_checks.specs.Stamps.{pace_of}
use Rattle.macroblock_lists.specs.declared.layouts.What.{What}
use Rattle.session_questions.specs.Findings.{check_lines, finding_lines, findings_from}
use Rattle.session_questions.specs.Lines.{first_record, lines_from, lines_of}
use Rattle.session_questions.proofs.Found.{each_counted}
use Rattle.frame_session.specs.Origins.{origin_line, origins_answer}
use Rattle.request_lines.specs.declared.question.Question.TheVariants as questions
use Rattle.frame_session.specs.Questions.{GainsAnswer, check_answer, detail_answer, list_answer}
use Rattle.frame_session.specs.declared.refusal.Refusal.TheVariants as refusals
use Rattle.frame_session.specs.Replies.{lines_line, refused_line}
use Rattle.frame_session.specs.Sessions.{SessionState, current_list, frame_count}

-- as many lines follow an index as packets
rest_counted : (list : Listing) (first : ℕ) → length (drop first (lines_of list)) ≡ length list.entries - first
rest_counted list first =
    length-drop first (lines_of list)
    ∙ ap (λ (n : ℕ). n - first) (length-map (facts_in first_record (packets_of list)) object_of ∙ facts_count (first_position first_record) (packets_of list) ∙ length-map list.entries packet_of)

-- the reply to `list`: its first line, and this many lines
pub list_replied : (list : Listing) (first count cut : ℕ) → first ≤ length list.entries → cut ≡ min count (length list.entries - first)
    → list_answer list first count ≡ lines_line cut ++ concat (lines_from list first cut)
list_replied list first count cut within is =
    let past : nat_lt (length list.entries) first ≡ false = search (rules, tests) in
    let rest = drop first (lines_of list) in
    let many : length (lines_from list first count) ≡ cut = length-take count rest ∙ ap (min count) (rest_counted list first) ∙ sym is in
    let same : lines_from list first cut ≡ lines_from list first count = ap (λ (n : ℕ). take n rest) (is ∙ ap (min count) (sym (rest_counted list first))) ∙ take_min count rest in
    rw past (ap (λ (n : ℕ). lines_line n ++ concat (lines_from list first count)) many ∙ ap (λ (lines : List (List ℕ)). lines_line cut ++ concat lines) (sym same))

-- the findings at this many packets are those at as many as there are
same_findings : (tables : TableEntries) (list : Listing) (first count cut : ℕ) → cut ≡ min count (length list.entries - first) → findings_from tables list first cut ≡ findings_from tables list first count
same_findings tables list first count cut is =
    let all : List (List Finding) = findings_of_each tables (packets_of list) in
    let rest = drop first all in
    let many : length rest ≡ length list.entries - first =
    length-drop first all ∙ ap (λ (n : ℕ). n - first) (each_counted tables (pace_of (packets_of list)) 0 checked_first (Ok None) (packets_of list) ∙ length-map list.entries packet_of) in
    ap (λ (n : ℕ). joined (take n rest)) (is ∙ ap (min count) (sym many)) ∙ ap joined (take_min count rest)

-- the reply to `check`: its first line, and the lines of this many packets
pub check_replied : (tables : TableEntries) (list : Listing) (first count cut : ℕ) → first ≤ length list.entries → cut ≡ min count (length list.entries - first)
    → check_answer tables list first count ≡ lines_line (length (check_lines tables list first cut)) ++ concat (check_lines tables list first cut)
check_replied tables list first count cut within is =
    let past : nat_lt (length list.entries) first ≡ false = search (rules, tests) in
    rw past (ap (λ (found : List Finding). lines_line (length (finding_lines found)) ++ concat (finding_lines found)) (sym (same_findings tables list first count cut is)))

pub check_wrote : {A E : Type 0} (w : Result A E) (tables : TableEntries) (list : Listing) (first count cut lines : ℕ) (text : List ℕ) (r r' : Option (List ℕ))
    → first ≤ length list.entries → cut ≡ min count (length list.entries - first)
    → lines ≡ length (check_lines tables list first cut) → text ≡ concat (check_lines tables list first cut) → OnOk w (Appends r r' (lines_line lines ++ text))
    → OnOk w (Appends r r' (check_answer tables list first count) ⊎ Appends r r' (refused_line refusals.NoMemory))
check_wrote (Ok a) tables list first count cut lines text r r' within is many made said =
    let whole : lines_line lines ++ text ≡ check_answer tables list first count =
    ap (λ (n : ℕ). lines_line n ++ text) many ∙ ap (λ (t : List ℕ). lines_line (length (check_lines tables list first cut)) ++ t) made ∙ sym (check_replied tables list first count cut within is) in
    inl (subst (λ (t : List ℕ). Appends r r' t) whole said)
check_wrote (Err e) tables list first count cut lines text r r' within is many made said = tt

-- past the last packet it is a refusal
pub check_outside : {A E : Type 0} (w : Result A E) (tables : TableEntries) (list : Listing) (first count : ℕ) (r r' : Option (List ℕ)) → length list.entries < first
    → OnOk w (Appends r r' (refused_line refusals.Place)) → OnOk w (Appends r r' (check_answer tables list first count) ⊎ Appends r r' (refused_line refusals.NoMemory))
check_outside (Ok a) tables list first count r r' outside said = let past : nat_lt (length list.entries) first ≡ true = search (rules, tests) in inl (rw past said)
check_outside (Err e) tables list first count r r' outside said = tt

-- so is that to a question for a packet
pub detail_outside : {A E : Type 0} (w : Result A E) (what : What) (tables : TableEntries) (list : Listing) (at : ℕ) (r r' : Option (List ℕ)) → length list.entries ≤ at
    → OnOk w (Appends r r' (refused_line refusals.Place)) → OnOk w (Appends r r' (detail_answer what tables list at) ⊎ Appends r r' (refused_line refusals.NoMemory))
detail_outside (Ok a) what tables list at r r' outside said = let past : nat_lt at (length list.entries) ≡ false = search (rules, tests) in inl (rw past said)
detail_outside (Err e) what tables list at r r' outside said = tt

-- the reply to `check` about a session's current source
pub check_gains : {A E : Type 0} (w : Result A E) (now : SessionState) (list : Listing) (first count : ℕ) (r r' : Option (List ℕ)) → list ≡ current_list now
    → OnOk w (Appends r r' (check_answer now.tables list first count) ⊎ Appends r r' (refused_line refusals.NoMemory)) → OnOk w (GainsAnswer now (questions.Check first count) r r')
check_gains (Ok a) now list first count r r' same (inl said) = record {
  reply = check_answer now.tables (current_list now) first count;
  means = inl refl;
  said = subst (λ (l : Listing). Appends r r' (check_answer now.tables l first count)) same said;
}
check_gains (Ok a) now list first count r r' same (inr lacks) = record { reply = refused_line refusals.NoMemory; means = inr (refl, refl); said = lacks }
check_gains (Err e) now list first count r r' same said = tt

-- one more line of a frame
pub origins_more : (now : SessionState) (first n at : ℕ) → first + n ≡ at
    → concat (map (origin_line now) (range_with_len first (n + 1))) ≡ concat (map (origin_line now) (range_with_len first n)) ++ origin_line now at
origins_more now first n at e =
    ap concat (map-range_with_len_more (origin_line now) first n at e) ∙ concat-append (map (origin_line now) (range_with_len first n)) (origin_line now at ∷ [])
    ∙ ap (λ (t : List ℕ). concat (map (origin_line now) (range_with_len first n)) ++ t) (append-nil (origin_line now at))

-- the reply to `origins`: its first line, and this many lines
pub origins_replied : (now : SessionState) (first count cut : ℕ) → first ≤ frame_count now → cut ≡ min count (frame_count now - first)
    → origins_answer now first count ≡ lines_line cut ++ concat (map (origin_line now) (range_with_len first cut))
origins_replied now first count cut within is =
    let past : nat_lt (frame_count now) first ≡ false = search (rules, tests) in
    let lines : ℕ → List (List ℕ) = λ n. map (origin_line now) (range_with_len first n) in
    rw (past, ← is) (ap (λ (n : ℕ). lines_line n ++ concat (lines cut)) (length-map-range_with_len (origin_line now) first cut))
