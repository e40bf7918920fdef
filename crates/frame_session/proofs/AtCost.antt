-- The functions that answer lines keep to the cost of the lines.
use Rattle.std.proofs.Common.{◌≡◌, inl, ℕ, Bool, List, [], ◌∷◌, ◌++◌, map, Option, None, Some, Result, Ok, Err, refl, sym, ap, ◌∙◌, subst, append-nil}
use Rattle.std.specs.Io.KnownBytes.{Appends, Keeps}
use Rattle.std.specs.Prelude.{◌&&◌, false, is_some, IfOk, OnOk}
use Rattle.std.proofs.KnownBytes.{Appends-kept, Appends-nil}
use Rattle.pixel_planes.specs.Pictures.{PictureSamples}
use Rattle.vp8_tables.specs.declared.tables.Tables.{Tables}
use Rattle.stream_files.specs.Y4m.{frame_text}
use Rattle.stream_files.specs.declared.streams.FrameRate.{FrameRate}
use Rattle.stream_files.specs.declared.streams.Stream.{Stream}
use Rattle.script_nodes.specs.Shown.{Shown}
use Rattle.request_lines.specs.Requests.{asked_by}
use Rattle.request_lines.specs.declared.lines.Line.{Line}
use Rattle.request_lines.specs.declared.lines.Line.TheVariants as requests
use Rattle.request_lines.specs.declared.edit.Edit.{Edit}
use Rattle.request_lines.specs.declared.question.Question.{Question}
use Rattle.state_cache.specs.declared.capacity.Capacity.{Capacity}
use Rattle.frame_session.specs.declared.refusal.Refusal.{Refusal}
use Rattle.frame_session.specs.IsOrNoMemory.{IsOrNoMemory, IsFrameOrNoMemory}
use Rattle.frame_session.specs.Edits.{WrittenAnswers}
use Rattle.frame_session.specs.Noted.{is_frame, refuses_frame}
use Rattle.frame_session.specs.Told.{is_refusal}
use Rattle.frame_session.specs.Questions.{GainsAnswer, answer_to}
use Rattle.frame_session.specs.Replies.{refused_line, edit_line, served_line}
use Rattle.frame_session.specs.Sessions.{IsAfterFrame, choice_answer, current_list, now_after_choice, now_after_edit, now_after_script, frame_of, rate_due, script_answer, size_given}
use Rattle.frame_session.specs.Cached.{FrameCosts, SessionValue, begun, needs_picture, packet_of_frame}
use Rattle.frame_session.specs.Answers.{Answer, Answers, AreStreams, WritesAnswers, WritesAnswer, answer_to_frame, opening, reply_only, requests_of}
use Rattle.frame_session.specs.LineCosts.{AnswersAtCost, EditCosts, LineCosts, MeansAtCost, RunCosts, RunsAtCost}
use Rattle.frame_session.proofs.Served.{frame_same, size_same}

-- what holds anyway holds once a writer has not failed
on_ok_anyway : {A E P : Type 0} (w : Result A E) → P → OnOk w P
on_ok_anyway (Ok _) p = p
on_ok_anyway (Err _) p = tt

-- what is returned for a line reports the refusal of its answer: a line that is not a request for a frame has none
abbrev pub IsTold : {E : Type 0} → Result (Option Refusal) E → Line → Answer → Type 0
IsTold w line answer = IfOk w (λ refusal. refuses_frame line answer ≡ (is_frame line && is_some refusal))

no_frame : {E : Type 0} (w : Result (Option Refusal) E) (line : Line) (answer : Answer) → is_frame line ≡ false → IsTold w line answer
no_frame (Ok refusal) line answer none = ap (λ (b : Bool). b && is_refusal answer.reply) none ∙ sym (ap (λ (b : Bool). b && is_some refusal) none)
no_frame (Err fault) line answer none = tt

frame_told : {E : Type 0} (w : Result (Option Refusal) E) (n : ℕ) (answer : Answer) (refusal : Option Refusal) → IfOk w (λ told. told ≡ refusal) → is_refusal answer.reply ≡ is_some refusal → IsTold w (requests.Frame n) answer
frame_told (Ok told) n answer refusal is same = same ∙ ap (λ (r : Option Refusal). is_some r) (sym is)
frame_told (Err fault) n answer refusal is same = tt

-- the cost of a frame depends only on whether its answer follows from the packet's picture
costs_alike : {A B : Type 0} (packet : Option (ℕ × ℕ)) (old new : SessionValue) (a : Result A Refusal) (b : Result B Refusal) → needs_picture b ≡ needs_picture a → FrameCosts packet old a new → FrameCosts packet old b new
costs_alike None old new a b same costs = costs
costs_alike (Some packet) old new a b same costs =
    record { reached = costs.reached; costs = costs.costs; walks = costs.walks; others = costs.others; is_needed = λ needed. costs.is_needed (sym same ∙ needed) }

-- the answer of a line that was answered at its cost
abbrev pub serves_of : {E : Type 0} (old : SessionValue) (line : Line) (f f' r r' : Option (List ℕ)) (told : Option Refusal) (new : SessionValue) → AnswersAtCost {E = E} old line f f' r r' (Ok told) new → WritesAnswer old.state line f f' r r' new.state
serves_of old line f f' r r' told new at_cost = record { answer = at_cost.answer; means = at_cost.means; shown = at_cost.shown; said = at_cost.said }

-- a line that was answered, whether or not its reply was flushed
pub kept_at_cost : {E : Type 0} (w : Result (Option Refusal) E) (old : SessionValue) (line : Line) (f f' r r' r'' : Option (List ℕ)) (told : Option Refusal) (new : SessionValue) → AnswersAtCost {E = E} old line f f' r r' (Ok told) new → Keeps r' r'' → IfOk w (λ refusal. refusal ≡ told) → AnswersAtCost old line f f' r r'' w new
kept_at_cost {E} w old line f f' r r' r'' told new at_cost kept same = record {
  answer = at_cost.answer;
  means = at_cost.means;
  costs = at_cost.costs;
  shown = on_ok_anyway w at_cost.shown;
  said = on_ok_anyway w (Appends-kept r r' r'' at_cost.answer.reply at_cost.said kept);
  told = same_told w same;
}
  where
    same_told : (w : Result (Option Refusal) E) → IfOk w (λ refusal. refusal ≡ told) → IsTold w line at_cost.answer
    same_told (Ok refusal) e = at_cost.told ∙ ap (λ (r : Option Refusal). is_frame line && is_some r) (sym e)
    same_told (Err fault) e = tt

module _ {E : Type 0} (w : Result (Option Refusal) E) (old : SessionValue) (f f' r r' : Option (List ℕ)) where
  -- a line that only has a reply
  pub replied : (line : Line) (reply : List ℕ) (new : SessionValue) → Answers old.state line (reply_only reply) new.state → LineCosts old line (reply_only reply) new → OnOk w (Appends r r' reply) → is_frame line ≡ false → AnswersAtCost old line f f r r' w new
  replied line reply new means costs said none = record { answer = reply_only reply; means = means; costs = costs; shown = on_ok_anyway w (Appends-nil f); said = said; told = no_frame w line (reply_only reply) none }

  pub chosen_at_cost : (source : ℕ) (chosen : Result ℕ Refusal) (new : SessionValue) → chosen ≡ choice_answer old.state source → new ≡ record old { state = now_after_choice source old.state } → OnOk w (Appends r r' (edit_line chosen)) → AnswersAtCost old (requests.Use source) f f r r' w new
  chosen_at_cost source chosen new is after said =
      replied (requests.Use source) (edit_line chosen) new (ap (λ (c : Result ℕ Refusal). reply_only (edit_line c)) is, ap (λ (v : SessionValue). v.state) after) (record { stores = ap (λ (v : SessionValue). v.stores) after; cache = ap (λ (v : SessionValue). v.cache) after }) said refl

  pub script_at_cost : (text : List ℕ) (set : Result ℕ Refusal) (new : SessionValue) → IsOrNoMemory (script_answer old.state text) set → new ≡ record old { state = now_after_script text old.state set } → OnOk w (Appends r r' (edit_line set)) → AnswersAtCost old (requests.Script text) f f r r' w new
  script_at_cost text set new returned after said =
      replied (requests.Script text) (edit_line set) new (set, returned, (refl, ap (λ (v : SessionValue). v.state) after)) (record { stores = ap (λ (v : SessionValue). v.stores) after; cache = ap (λ (v : SessionValue). v.cache) after }) said refl

  pub edited_at_cost : (edit : Edit (List ℕ)) (edited : Result ℕ Refusal) (new : SessionValue) → WrittenAnswers old.state.tables old.state.lists (current_list old.state) edit edited → new.state ≡ now_after_edit edit old.state edited → EditCosts edit edited old new → OnOk w (Appends r r' (edit_line edited)) → AnswersAtCost old (requests.Edit edit) f f r r' w new
  edited_at_cost edit edited new returned after costs said = replied (requests.Edit edit) (edit_line edited) new (edited, returned, (refl, after)) (edited, refl, costs) said refl

  pub refused_at_cost : (n : ℕ) (refusal : Refusal) (new : SessionValue) → IsOrNoMemory (frame_of old.state n) (Err refusal) → IsAfterFrame old.state (size_given (Err refusal)) new.state → FrameCosts {A = PictureSamples} (packet_of_frame old.state n) old (Err refusal) new → OnOk w (Appends r r' (refused_line refusal)) → IfOk w (λ told. told ≡ Some refusal) → AnswersAtCost old (requests.Frame n) f f r r' w new
  refused_at_cost n refusal new returned after costs said told = record {
    answer = reply_only (refused_line refusal);
    means = (Err refusal, returned, refl, after);
    costs = (Err refusal, refl, costs_alike {A = PictureSamples} {B = Shown} (packet_of_frame old.state n) old new (Err refusal) (Err refusal) refl costs);
    shown = on_ok_anyway w (Appends-nil f);
    said = said;
    told = frame_told w n (reply_only (refused_line refusal)) (Some refusal) told refl;
  }

  -- a frame, written with the head that is due
  pub frame_at_cost : (n : ℕ) (picture : PictureSamples) (new : SessionValue) (head : Option FrameRate) → head ≡ rate_due old.state → IsFrameOrNoMemory (frame_of old.state n) (Ok picture) → IsAfterFrame old.state (size_given (Ok picture)) new.state → FrameCosts (packet_of_frame old.state n) old (Ok picture) new
      → OnOk w (Appends f f' (opening head picture.width picture.height ++ frame_text picture)) → OnOk w (Appends r r' (served_line n)) → IfOk w (λ told. told ≡ None) → AnswersAtCost old (requests.Frame n) f f' r r' w new
  frame_at_cost n picture new head is returned after costs shown said told = record {
    answer = answer_to_frame old.state n (Ok returned.0);
    means = (Ok returned.0, returned.1, refl, subst (λ size. IsAfterFrame old.state size new.state) (size_same picture returned.0 returned.2) after);
    costs = (Ok returned.0, refl, costs_alike {A = PictureSamples} {B = Shown} (packet_of_frame old.state n) old new (Ok picture) (Ok returned.0) refl costs);
    shown = subst (λ (text : List ℕ). OnOk w (Appends f f' text)) (ap (λ (h : Option FrameRate). opening h picture.width picture.height ++ frame_text picture) is ∙ frame_same old.state n picture returned.0 returned.3 returned.2) shown;
    said = said;
    told = frame_told w n (answer_to_frame old.state n (Ok returned.0)) None told refl;
  }

-- a question
pub asked_at_cost : {E : Type 0} (w : Result (Option Refusal) E) (old : SessionValue) (f r r' : Option (List ℕ)) (question : Question) → OnOk w (GainsAnswer old.state question r r') → AnswersAtCost old (requests.Ask question) f f r r' w old
asked_at_cost (Ok told) old f r r' question gains = record {
  answer = reply_only gains.reply;
  means = (gains.reply, gains.means, refl, refl);
  costs = record { stores = refl; cache = refl };
  shown = Appends-nil f;
  said = gains.said;
  told = refl;
}
asked_at_cost (Err fault) old f r r' question failed = record {
  answer = reply_only (answer_to old.state question);
  means = (answer_to old.state question, inl refl, refl, refl);
  costs = record { stores = refl; cache = refl };
  shown = tt;
  said = tt;
  told = tt;
}

-- one more line
pub costs_more : (old mid new : SessionValue) (lines : List Line) (answers : List Answer) (line : Line) (answer : Answer) → RunCosts old lines answers mid → Answers mid.state line answer new.state → LineCosts mid line answer new → RunCosts old (lines ++ line ∷ []) (answers ++ answer ∷ []) new
costs_more old mid new [] [] line answer same means costs =
    let P : SessionValue → Type 0 = λ v. Answers v.state line answer new.state × LineCosts v line answer new in
    let so : P old = subst P same (means, costs) in
    (new, so.0, so.1, refl)
costs_more old mid new [] (x ∷ answers) line answer ran means costs = absurd ran
costs_more old mid new (l ∷ lines) [] line answer ran means costs = absurd ran
costs_more old mid new (l ∷ lines) (x ∷ answers) line answer ran means costs = (ran.0, ran.1, ran.2, costs_more ran.0 mid new lines answers line answer ran.3 means costs)

-- lines, and lines after them
pub costs_append : (old mid new : SessionValue) (ls ls' : List Line) (xs ys : List Answer) → RunCosts old ls xs mid → RunCosts mid ls' ys new → RunCosts old (ls ++ ls') (xs ++ ys) new
costs_append old mid new [] ls' [] ys same ran = subst (λ (v : SessionValue). RunCosts v ls' ys new) same ran
costs_append old mid new [] ls' (x ∷ xs) ys ran ran' = absurd ran
costs_append old mid new (l ∷ ls) ls' [] ys ran ran' = absurd ran
costs_append old mid new (l ∷ ls) ls' (x ∷ xs) ys ran ran' = (ran.0, ran.1, ran.2, costs_append ran.0 mid new ls ls' xs ys ran.3 ran')

-- if no line is left, all are done
pub all_at_cost : (old new : SessionValue) (done : List Line) (left : List (List ℕ)) (all : List Line) (f f' r r' : Option (List ℕ)) → left ≡ [] → done ++ map asked_by left ≡ all → (ran : WritesAnswers old.state done f f' r r' new.state) → RunCosts old done ran.answers new → RunsAtCost old all f f' r r' new
all_at_cost old new done left all f f' r r' none whole ran costs =
    let same : done ≡ all = sym (append-nil done) ∙ ap (λ (ls : List (List ℕ)). done ++ map asked_by ls) (sym none) ∙ whole in
    subst (λ (ls : List Line). RunsAtCost old ls f f' r r' new) same (record { runs = ran; costs = costs })

-- a run from its first session
pub means_at_cost : (tables : Tables) (capacity : Capacity) (sources : List (List ℕ)) (requests : List ℕ) (f f' r r' : Option (List ℕ)) (files : List Stream) (first end : SessionValue) → AreStreams sources files → first ≡ begun tables capacity files → RunsAtCost first (requests_of requests) f f' r r' end → MeansAtCost tables capacity sources requests f f' r r' end
means_at_cost tables capacity sources requests f f' r r' files first end are is ran =
    let so : RunsAtCost (begun tables capacity files) (requests_of requests) f f' r r' end = subst (λ (v : SessionValue). RunsAtCost v (requests_of requests) f f' r r' end) is ran in
    record { means = record { files = files; are = are; runs = so.runs }; costs = so.costs }
