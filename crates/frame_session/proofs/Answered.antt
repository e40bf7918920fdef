-- Each request list has a meaning in which nothing is out of memory.
use Rattle.std.proofs.Common.{◌≡◌, ◌≢◌, inl, All, ℕ, zero, suc, ◌-◌, List, [], ◌∷◌, Bool, true, false, cond, Option, Some, None, Result, Ok, Err, get_or, length, map, min, nat_lt, option_map, slice_get, refl, ap, arith}
use Rattle.std.specs.List.{range_with_len}
use Rattle.std.specs.Option.{option_map_or}
use Rattle.std.proofs.lemmas.List.Elements.{All-head, All-tail}
use Rattle.script_nodes.specs.declared.faults.ScriptFault.TheVariants as scripts
use Rattle.script_nodes.specs.declared.nodes.Node.{Node}
use Rattle.script_nodes.specs.declared.traces.Step.{Step}
use Rattle.script_nodes.specs.Frames.{Origin, traced}
use Rattle.script_nodes.specs.Nodes.{nodes_of, script_from}
use Rattle.script_nodes.specs.Shown.{Shown, shown_in, steps_shown}
use Rattle.request_lines.specs.declared.lines.Line.{Line}
use Rattle.request_lines.specs.declared.lines.Line.TheVariants as requests
use Rattle.request_lines.specs.declared.question.Question.{Question}
use Rattle.request_lines.specs.declared.question.Question.TheVariants as questions
use Rattle.request_lines.specs.declared.edit.Edit.{Edit}
use Rattle.request_lines.specs.declared.edit.Edit.TheVariants as edits
use Rattle.frame_session.specs.declared.refusal.Refusal.{Refusal}
use Rattle.frame_session.specs.declared.refusal.Refusal.TheVariants as refusals
use Rattle.frame_session.specs.declared.size.Size.{Size}
use Rattle.stream_steps.specs.Decoding.{Outcome}
use Rattle.frame_session.specs.IsOrNoMemory.{IsOrNoMemory}
use Rattle.packet_edits.specs.declared.entry.Entry.{Entry}
use Rattle.packet_edits.specs.declared.fault.EditFault.TheVariants as faults
use Rattle.packet_edits.specs.Edits.{Listing}
use Rattle.packet_edits.specs.Sizes.{size_at}
use Rattle.macroblock_lists.specs.declared.layouts.What.TheVariants as what
use Rattle.session_questions.specs.Details.{detail_text}
use Rattle.session_questions.specs.Findings.{check_lines}
use Rattle.session_questions.specs.Lines.{lines_from}
use Rattle.packet_forge.specs.declared.faults.ForgeFault.{ForgeFault}
use Rattle.packet_forge.specs.declared.faults.ForgeFault.TheVariants as forging
use Rattle.packet_forge.specs.Packets.{blank_of}
use Rattle.frame_header.specs.ShowBits.{has_show_bit}
use Rattle.vp8_tables.specs.declared.tables.Tables.{Tables}
use Rattle.frame_session.proofs.Forging.{blank_lacks_none, held_lacks_none}
use Rattle.frame_session.specs.Edits.{WrittenAnswers, edit_of, hold_bytes_at, refusal_by, refused_forged, count_unless}
use Rattle.frame_session.specs.Origins.{origin_line}
use Rattle.frame_session.specs.Questions.{answer_to}
use Rattle.frame_session.specs.Replies.{lines_reply, refused_line, served_line, ok_line, edit_line, count_line, packet_line, script_line, stats_line, text_reply}
use Rattle.frame_session.specs.Scripts.{script_reported}
use Rattle.frame_session.specs.Sessions.{SessionState, after_frame, choice_answer, current_list, edit_answer, now_after_choice, now_after_edit, now_after_script, fits, fitted, frame_count, frame_from, frame_made, frame_of, outcome_of, packet_count, picture_from, script_answer, shown_counts, size_of, size_served}
use Rattle.frame_session.specs.Answers.{Answer, Answers, AnswersEach, answer_to_frame, reply_only}
use Rattle.frame_session.specs.Laws.{HaveMemory}

-- a frame may have the wanted answer
chosen_given : (shown : Shown) (b : Bool) → IsOrNoMemory (cond b (Ok shown) (Err refusals.SizeDiffers)) (cond b (Ok shown) (Err refusals.SizeDiffers))
chosen_given shown true = refl
chosen_given shown false = refl

fitted_given : (size : Option Size) (made : Option Shown) → IsOrNoMemory (fitted size made) (fitted size made)
fitted_given size None = refl
fitted_given size (Some shown) = chosen_given shown (fits size (size_of shown))

made_given : (size : Option Size) (steps : List Step) (source : ℕ) (o : Option Outcome) → IsOrNoMemory (frame_made size steps (picture_from source o)) (frame_made size steps (picture_from source o))
made_given size steps source None = refl
made_given size steps source (Some (Err broken)) = refl
made_given size steps source (Some (Ok decoded)) = fitted_given size (steps_shown steps (shown_in decoded.1))

wanted_given : (old : SessionState) (from : Option Origin) → IsOrNoMemory (frame_from old from) (frame_from old from)
wanted_given old None = refl
wanted_given old (Some from) = made_given old.size from.steps from.source (outcome_of old from.source from.frame)

-- and then its reply is not `refused NoMemory`
refusal_told : (refusal : Refusal) → (refusal ≡ refusals.NoMemory → ⊥) → refused_line refusal ≡ refused_line refusals.NoMemory → ⊥
refusal_told refusals.NoMemory some e = absurd (some refl)
refusal_told refusals.Line some e = let other : 76 ≡ 78 = ap (λ (l : List ℕ). get_or l 8 0) e in absurd (omega (arith, other))
refusal_told refusals.Source some e = let other : 83 ≡ 78 = ap (λ (l : List ℕ). get_or l 8 0) e in absurd (omega (arith, other))
refusal_told refusals.Place some e = let other : 80 ≡ 78 = ap (λ (l : List ℕ). get_or l 8 0) e in absurd (omega (arith, other))
refusal_told refusals.Full some e = let other : 70 ≡ 78 = ap (λ (l : List ℕ). get_or l 8 0) e in absurd (omega (arith, other))
refusal_told refusals.Spent some e = let other : 83 ≡ 78 = ap (λ (l : List ℕ). get_or l 8 0) e in absurd (omega (arith, other))
refusal_told refusals.NoBit some e = let other : 66 ≡ 77 = ap (λ (l : List ℕ). get_or l 10 0) e in absurd (omega (arith, other))
refusal_told refusals.Size some e = let other : 83 ≡ 78 = ap (λ (l : List ℕ). get_or l 8 0) e in absurd (omega (arith, other))
refusal_told refusals.TooLarge some e = let other : 84 ≡ 78 = ap (λ (l : List ℕ). get_or l 8 0) e in absurd (omega (arith, other))
refusal_told refusals.NoSuchFrame some e = let other : 83 ≡ 77 = ap (λ (l : List ℕ). get_or l 10 0) e in absurd (omega (arith, other))
refusal_told refusals.CropOutside some e = let other : 67 ≡ 78 = ap (λ (l : List ℕ). get_or l 8 0) e in absurd (omega (arith, other))
refusal_told refusals.Syntax some e = let other : 83 ≡ 78 = ap (λ (l : List ℕ). get_or l 8 0) e in absurd (omega (arith, other))
refusal_told refusals.Nodes some e = let other : 100 ≡ 77 = ap (λ (l : List ℕ). get_or l 10 0) e in absurd (omega (arith, other))
refusal_told refusals.Reference some e = let other : 82 ≡ 78 = ap (λ (l : List ℕ). get_or l 8 0) e in absurd (omega (arith, other))
refusal_told refusals.Number some e = let other : 117 ≡ 111 = ap (λ (l : List ℕ). get_or l 9 0) e in absurd (omega (arith, other))
refusal_told refusals.SizeDiffers some e = let other : 83 ≡ 78 = ap (λ (l : List ℕ). get_or l 8 0) e in absurd (omega (arith, other))
refusal_told (refusals.Packet (suc before) place cause) some e = let other : 115 ≡ 78 = ap (λ (l : List ℕ). get_or l 8 0) e in absurd (omega (arith, other))
refusal_told (refusals.Packet zero place cause) some e = let other : 112 ≡ 78 = ap (λ (l : List ℕ). get_or l 8 0) e in absurd (omega (arith, other))

-- a reply that begins differently from a refusal
pub begins_otherwise : (reply : List ℕ) (refusal : Refusal) → (get_or reply 0 0 ≡ 114 → ⊥) → reply ≡ refused_line refusal → ⊥
begins_otherwise reply refusal other e = other (ap (λ (l : List ℕ). get_or l 0 0) e)

tells_no_lack : (old : SessionState) (n : ℕ) (frame : Result Shown Refusal) → (frame ≡ Err refusals.NoMemory → ⊥) → (answer_to_frame old n frame).reply ≡ refused_line refusals.NoMemory → ⊥
tells_no_lack old n (Ok shown) some e = begins_otherwise (served_line n) refusals.NoMemory (λ h. omega (arith, h)) e
tells_no_lack old n (Err refusal) some e = refusal_told refusal (λ h. some (ap (λ (x : Refusal). Err x) h)) e

chosen_some : (shown : Shown) (b : Bool) → cond b (Ok shown) (Err refusals.SizeDiffers) ≡ Err refusals.NoMemory → ⊥
chosen_some shown true e = cc
chosen_some shown false e = cc

fitted_some : (size : Option Size) (made : Option Shown) → fitted size made ≡ Err refusals.NoMemory → ⊥
fitted_some size None e = cc
fitted_some size (Some shown) e = chosen_some shown (fits size (size_of shown)) e

made_some : (size : Option Size) (steps : List Step) (source : ℕ) (o : Option Outcome) → frame_made size steps (picture_from source o) ≡ Err refusals.NoMemory → ⊥
made_some size steps source None e = cc
made_some size steps source (Some (Err broken)) e = cc
made_some size steps source (Some (Ok decoded)) e = fitted_some size (steps_shown steps (shown_in decoded.1)) e

wanted_some : (old : SessionState) (from : Option Origin) → frame_from old from ≡ Err refusals.NoMemory → ⊥
wanted_some old None e = cc
wanted_some old (Some from) e = made_some old.size from.steps from.source (outcome_of old from.source from.frame) e

-- an edit may have the wanted answer, and its reply is not `refused NoMemory`
record IsTold (answer : Result ℕ Refusal) : Type 0 where
  returned : IsOrNoMemory answer answer
  enough : edit_line answer ≡ refused_line refusals.NoMemory → ⊥

ok_told : (count : ℕ) → IsTold (Ok count)
ok_told count = record { returned = refl; enough = begins_otherwise (ok_line count) refusals.NoMemory (λ h. omega (arith, h)) }

place_told : IsTold (Err refusals.Place)
place_told = record { returned = refl; enough = refusal_told refusals.Place (λ h. cc) }

source_told : IsTold (Err refusals.Source)
source_told = record { returned = refl; enough = refusal_told refusals.Source (λ h. cc) }

full_told : IsTold (Err refusals.Full)
full_told = record { returned = refl; enough = refusal_told refusals.Full (λ h. cc) }

spent_told : IsTold (Err refusals.Spent)
spent_told = record { returned = refl; enough = refusal_told refusals.Spent (λ h. cc) }

no_bit_told : IsTold (Err refusals.NoBit)
no_bit_told = record { returned = refl; enough = refusal_told refusals.NoBit (λ h. cc) }

show_bit_told : (packet : Option Entry) (count : ℕ) → IsTold (count_unless (option_map refusal_by (option_map_or (λ entry. cond (has_show_bit entry.bytes) None (Some faults.NoBit)) packet (Some faults.Place))) count)
show_bit_told None count = place_told
show_bit_told (Some entry) count = by_bit (has_show_bit entry.bytes)
  where
    by_bit : (has : Bool) → IsTold (count_unless (option_map refusal_by (cond has None (Some faults.NoBit))) count)
    by_bit true = ok_told count
    by_bit false = no_bit_told

id_told : (spent : Bool) (count : ℕ) → IsTold (count_unless (option_map refusal_by (cond spent (Some faults.Spent) None)) count)
id_told true count = spent_told
id_told false count = ok_told count

insertion_told : (outside full spent : Bool) (count : ℕ) → IsTold (count_unless (option_map refusal_by (cond outside (Some faults.Place) (cond full (Some faults.Full) (cond spent (Some faults.Spent) None)))) count)
insertion_told true full spent count = place_told
insertion_told false true spent count = full_told
insertion_told false false spent count = id_told spent count

replacement_told : (inside spent : Bool) (count : ℕ) → IsTold (count_unless (option_map refusal_by (cond inside (cond spent (Some faults.Spent) None) (Some faults.Place))) count)
replacement_told true spent count = id_told spent count
replacement_told false spent count = place_told

copy_told : (exists inside outside full spent : Bool) (count : ℕ) → IsTold (count_unless (cond exists (option_map refusal_by (cond inside (cond outside (Some faults.Place) (cond full (Some faults.Full) (cond spent (Some faults.Spent) None))) (Some faults.Place))) (Some refusals.Source)) count)
copy_told true true outside full spent count = insertion_told outside full spent count
copy_told true false outside full spent count = place_told
copy_told false inside outside full spent count = source_told

choice_told : (exists : Bool) (count : ℕ) → IsTold (cond exists (Ok count) (Err refusals.Source))
choice_told true count = ok_told count
choice_told false count = source_told

place_or_told : (inside : Bool) (count : ℕ) → IsTold (count_unless (option_map refusal_by (cond inside None (Some faults.Place))) count)
place_or_told true count = ok_told count
place_or_told false count = place_told

size_told : IsTold (Err refusals.Size)
size_told = record { returned = refl; enough = refusal_told refusals.Size (λ h. cc) }

large_told : IsTold (Err refusals.TooLarge)
large_told = record { returned = refl; enough = refusal_told refusals.TooLarge (λ h. cc) }

forging_told : (forged : Result (List ℕ) ForgeFault) (count : ℕ) → (forged ≡ Err forging.NoMemory → ⊥) → IsTold (count_unless (refused_forged None forged) count)
forging_told (Ok packet) count some = ok_told count
forging_told (Err forging.Size) count some = size_told
forging_told (Err forging.TooLarge) count some = large_told
forging_told (Err forging.NoMemory) count some = absurd (some refl)

forged_told : (outside full spent : Bool) (forged : Result (List ℕ) ForgeFault) (count : ℕ) → (forged ≡ Err forging.NoMemory → ⊥) → IsTold (count_unless (refused_forged (cond outside (Some faults.Place) (cond full (Some faults.Full) (cond spent (Some faults.Spent) None))) forged) count)
forged_told true full spent forged count some = place_told
forged_told false true spent forged count some = full_told
forged_told false false true forged count some = spent_told
forged_told false false false forged count some = forging_told forged count some

edit_told : (tables : Tables) (lists : List Listing) (list : Listing) (edit : Edit (List ℕ)) → IsTold (edit_of tables lists list edit)
edit_told tables lists list (edits.Insert at stamp bytes) = insertion_told _ _ _ _
edit_told tables lists list (edits.Replace at bytes) = replacement_told _ _ _
edit_told tables lists list (edits.Delete at) = place_or_told _ _
edit_told tables lists list (edits.Move from to) = place_or_told _ _
edit_told tables lists list (edits.Copy source from at) = copy_told _ _ _ _ _ _
edit_told tables lists list (edits.Blank at width height) = forged_told _ _ _ (blank_of tables width height) _ (blank_lacks_none tables width height)
edit_told tables lists list (edits.ShowBit at shown) = show_bit_told (slice_get list.entries at) _
edit_told tables lists list (edits.Hold at) = forged_told _ _ _ (hold_bytes_at tables list at) _ (held_lacks_none tables (size_at at list))

written_told : (tables : Tables) (lists : List Listing) (list : Listing) (edit : Edit (List ℕ)) → WrittenAnswers tables lists list edit (edit_of tables lists list edit)
written_told tables lists list (edits.Insert at stamp bytes) = (edit_told tables lists list (edits.Insert at stamp bytes)).returned
written_told tables lists list (edits.Replace at bytes) = (edit_told tables lists list (edits.Replace at bytes)).returned
written_told tables lists list (edits.Delete at) = refl
written_told tables lists list (edits.Move from to) = refl
written_told tables lists list (edits.Copy source from at) = (edit_told tables lists list (edits.Copy source from at)).returned
written_told tables lists list (edits.Blank at width height) = (edit_told tables lists list (edits.Blank at width height)).returned
written_told tables lists list (edits.ShowBit at shown) = (edit_told tables lists list (edits.ShowBit at shown)).returned
written_told tables lists list (edits.Hold at) = (edit_told tables lists list (edits.Hold at)).returned

-- and so a script
nodes_told : (count : ℕ) (nodes : List Node) (many wrong odd : Bool) → IsTold (script_reported count (cond many (Err scripts.Nodes) (cond wrong (Err scripts.Reference) (cond odd (Err scripts.Number) (Ok nodes)))))
nodes_told count nodes true wrong odd = record { returned = refl; enough = refusal_told refusals.Nodes (λ h. cc) }
nodes_told count nodes false true odd = record { returned = refl; enough = refusal_told refusals.Reference (λ h. cc) }
nodes_told count nodes false false true = record { returned = refl; enough = refusal_told refusals.Number (λ h. cc) }
nodes_told count nodes false false false = ok_told count

script_told : (count sources : ℕ) (nodes : Option (List Node)) → IsTold (script_reported count (script_from sources nodes))
script_told count sources None = record { returned = refl; enough = refusal_told refusals.Syntax (λ h. cc) }
script_told count sources (Some nodes) = nodes_told count nodes _ _ _

-- and so a question
packet_told : (packet : Option Entry) → option_map_or (λ entry. packet_line entry.stamp entry.bytes) packet (refused_line refusals.Place) ≡ refused_line refusals.NoMemory → ⊥
packet_told None e = refusal_told refusals.Place (λ h. cc) e
packet_told (Some entry) e = begins_otherwise (packet_line entry.stamp entry.bytes) refusals.NoMemory (λ h. omega (arith, h)) e

lines_told : (refusal : Refusal) → (refusal ≡ refusals.NoMemory → ⊥) → (past : Bool) (lines : List (List ℕ)) → cond past (refused_line refusal) (lines_reply lines) ≡ refused_line refusals.NoMemory → ⊥
lines_told refusal other true lines same = refusal_told refusal other same
lines_told refusal other false lines same = begins_otherwise (lines_reply lines) refusals.NoMemory (λ h. omega (arith, h)) same

detail_told : (within : Bool) (text : List ℕ) → cond within (text_reply text) (refused_line refusals.Place) ≡ refused_line refusals.NoMemory → ⊥
detail_told true text same = begins_otherwise (text_reply text) refusals.NoMemory (λ h. omega (arith, h)) same
detail_told false text same = refusal_told refusals.Place (λ h. cc) same

question_told : (old : SessionState) (question : Question) → answer_to old question ≡ refused_line refusals.NoMemory → ⊥
question_told old (questions.Packet at) e = packet_told (slice_get (current_list old).entries at) e
question_told old (questions.Macroblocks at) e = detail_told (nat_lt at (length (current_list old).entries)) (detail_text what.Macroblocks old.tables (current_list old) at) e
question_told old (questions.Header at) e = detail_told (nat_lt at (length (current_list old).entries)) (detail_text what.Header old.tables (current_list old) at) e
question_told old questions.Script e = begins_otherwise (script_line old.script) refusals.NoMemory (λ h. omega (arith, h)) e
question_told old (questions.Origins first count) e = lines_told refusals.NoSuchFrame (λ h. cc) (nat_lt (frame_count old) first) (map (origin_line old) (range_with_len first (min count (frame_count old - first)))) e
question_told old (questions.List first count) e = lines_told refusals.Place (λ h. cc) (nat_lt (length (current_list old).entries) first) (lines_from (current_list old) first count) e
question_told old (questions.Check first count) e = lines_told refusals.Place (λ h. cc) (nat_lt (length (current_list old).entries) first) (check_lines old.tables (current_list old) first count) e

-- an answer to one line, other than `refused NoMemory`, and the state after it
pub record HasAnswer (old : SessionState) (line : Line) : Type 0 where
  pub answer : Answer
  pub new : SessionState
  pub means : Answers old line answer new
  pub enough : answer.reply ≡ refused_line refusals.NoMemory → ⊥

answered : (old : SessionState) (line : Line) → line ≢ requests.Lost → HasAnswer old line
answered old requests.Silent held = record { answer = reply_only []; new = old; means = (refl, refl); enough = λ e. cc }
answered old requests.Unknown held = record {
  answer = reply_only (refused_line refusals.Line);
  new = old;
  means = (refl, refl);
  enough = λ e. let other : 76 ≡ 78 = ap (λ (l : List ℕ). get_or l 8 0) e in absurd (omega (arith, other));
}
answered old (requests.Frame n) held =
    let frame : Result Shown Refusal = frame_of old n in
    let from : Option Origin = traced (shown_counts old) old.script n in
    record {
      answer = answer_to_frame old n frame;
      new = record (after_frame old (size_served frame)) { decoded = old.decoded };
      means = (frame, wanted_given old from, refl, record { rest = refl; steps = omega arith });
      enough = tells_no_lack old n frame (wanted_some old from);
    }
answered old (requests.Use source) held =
    let answer = choice_answer old source in
    record { answer = reply_only (edit_line answer); new = now_after_choice source old; means = (refl, refl); enough = (choice_told _ _).enough }
answered old (requests.Edit edit) held =
    let answer = edit_answer old edit in
    let is = edit_told old.tables old.lists (current_list old) edit in
    record { answer = reply_only (edit_line answer); new = now_after_edit edit old answer; means = (answer, written_told old.tables old.lists (current_list old) edit, (refl, refl)); enough = is.enough }
answered old (requests.Script text) held =
    let set = script_answer old text in
    let is = script_told (packet_count old) (length old.lists) (nodes_of text) in
    record { answer = reply_only (edit_line set); new = now_after_script text old set; means = (set, is.returned, (refl, refl)); enough = is.enough }
answered old requests.Count held =
    let reply = count_line (packet_count old) (frame_count old) in
    record { answer = reply_only reply; new = old; means = (refl, refl); enough = begins_otherwise reply refusals.NoMemory (λ h. omega (arith, h)) }
answered old requests.Stats held =
    let reply = stats_line old.decoded in
    record { answer = reply_only reply; new = old; means = (refl, refl); enough = begins_otherwise reply refusals.NoMemory (λ h. omega (arith, h)) }
answered old (requests.Ask question) held = record { answer = reply_only (answer_to old question); new = old; means = (answer_to old question, inl refl, refl, refl); enough = question_told old question }
answered old requests.Lost held = absurd (held refl)

-- answers to lines, none of which is `refused NoMemory`
pub record HaveAnswers (old : SessionState) (lines : List Line) : Type 0 where
  pub answers : List Answer
  pub new : SessionState
  pub run : AnswersEach old lines answers new
  pub enough : HaveMemory answers

pub all_answered : (old : SessionState) (lines : List Line) → All (λ line. line ≢ requests.Lost) lines → HaveAnswers old lines
all_answered old [] held = record { answers = []; new = old; run = refl; enough = tt }
all_answered old (line ∷ lines) held =
    let first = answered old line (All-head (λ line. line ≢ requests.Lost) line lines held) in
    let rest = all_answered first.new lines (All-tail (λ line. line ≢ requests.Lost) line lines held) in
    record {
      answers = first.answer ∷ rest.answers;
      new = rest.new;
      run = (first.new, first.means, rest.run);
      enough = (first.enough, rest.enough);
    }

pub meaning_exists : (old : SessionState) (lines : List Line) → All (λ line. line ≢ requests.Lost) lines → (answers : List Answer) × (new : SessionState) × AnswersEach old lines answers new × HaveMemory answers
meaning_exists old lines held = let all = all_answered old lines held in (all.answers, all.new, all.run, all.enough)
