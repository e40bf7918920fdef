use Rattle.std.proofs.Common.{◌≡◌, ℕ, zero, suc, ◌+◌, ◌≤◌, ◌<◌, true, false, List, ◌∷◌, [], Some, length, option_map, slice_get, take, refl, ap, sym, ◌∙◌, arith}
use Rattle.std.proofs.lemmas.Option.{slice_get-map}
use Rattle.packet_edits.specs.declared.entry.Entry.{Entry}
use Rattle.packet_edits.specs.Edits.{Listing}
use Rattle.packet_edits.specs.Saved.{packet_of}
use Rattle.packet_edits.specs.Shown.{shown_indexes, stream_of}
use Rattle.stream_facts.specs.declared.facts.Position.{Position}
use Rattle.session_questions.specs.Places.{IsAfterKey, position_at}
use Rattle.session_questions.proofs.Steps.{key_position}
use Rattle.session_questions.proofs.places.position_after_key.Goals as goal

-- the entry at an index
there_is : (es : List Entry) (n : ℕ) → n < length es → (e : Entry) × (slice_get es n ≡ Some e)
there_is [] n within = absurd (omega arith)
there_is (e ∷ es) zero within = (e, refl)
there_is (e ∷ es) (suc n) within = there_is es n (omega arith)

-- the position at an index after a key packet
after : (list : Listing) (at frames begins : ℕ) → 0 < at → at ≤ length list.entries → IsAfterKey (stream_of list) at
    → frames ≡ length (shown_indexes (take at (stream_of list))) → begins ≡ (position_at list at).begins
    → record { packets = at; frames = frames; begins = begins; follows = true; is_broken = false } ≡ position_at list at
after list zero frames begins some within key shown ends = absurd (omega arith)
after list (suc place) frames begins some within key shown ends =
    let one : place + 1 ≡ suc place = omega arith in
    let here = there_is list.entries place (omega arith) in
    let e : Entry = here.0 in
    let bytes : slice_get (stream_of list) place ≡ Some e.bytes = slice_get-map (λ (e : Entry). e.bytes) list.entries place ∙ ap (option_map (λ (e : Entry). e.bytes)) here.1 in
    let facts = key place e.bytes one bytes in
    let whole = key_position list place frames begins (packet_of e) (omega arith) (slice_get-map packet_of list.entries place ∙ ap (option_map packet_of) here.1) facts.0 facts.1
    (shown ∙ ap (λ (n : ℕ). length (shown_indexes (take n (stream_of list)))) (sym one)) (ends ∙ ap (λ (n : ℕ). (position_at list n).begins) (sym one)) in
    let P : ℕ → Position = λ n. record { packets = n; frames = frames; begins = begins; follows = true; is_broken = false } in
    ap P (sym one) ∙ whole ∙ ap (position_at list) one

pub returns-else-at-eq0 : goal.returns-else-at-eq0
returns-else-at-eq0 c =
    c.after_key.ensures ∙ after c.args.store.now.list c.args.at c.shown_before.result c.begins_before.result (omega arith) c.requires.within c.requires.key c.shown_before.ensures c.begins_before.ensures
