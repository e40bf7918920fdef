-- The functions that answer lines follow the meaning of the lines.
use Rattle.std.proofs.Common.{◌≡◌, ◌⊎◌, inl, inr, ℕ, List, [], ◌∷◌, ◌++◌, map, Option, None, Some, Result, Ok, Err, refl, sym, ap, ◌∙◌, subst, append_assoc, append-nil}
use Rattle.std.specs.List.{flat_map}
use Rattle.std.specs.Io.KnownBytes.{Appends, Keeps}
use Rattle.std.specs.Prelude.{OnOk}
use Rattle.std.proofs.KnownBytes.{Appends-nil, Appends-trans}
use Rattle.pixel_planes.specs.Pictures.{IsWholePicture, PictureSamples}
use Rattle.script_nodes.specs.Shown.{Shown, Shows}
use Rattle.stream_files.specs.Y4m.{frame_text}
use Rattle.stream_files.specs.declared.streams.FrameRate.{FrameRate}
use Rattle.request_lines.specs.declared.lines.Line.{Line}
use Rattle.request_lines.specs.declared.lines.Line.TheVariants as requests
use Rattle.request_lines.specs.declared.edit.Edit.{Edit}
use Rattle.request_lines.specs.declared.question.Question.{Question}
use Rattle.frame_session.specs.declared.refusal.Refusal.{Refusal}
use Rattle.frame_session.specs.declared.size.Size.{Size}
use Rattle.request_lines.specs.Requests.{asked_by}
use Rattle.frame_session.specs.IsOrNoMemory.{IsOrNoMemory, IsFrameOrNoMemory}
use Rattle.frame_session.specs.Edits.{WrittenAnswers}
use Rattle.frame_session.specs.Questions.{GainsAnswer}
use Rattle.frame_session.specs.Replies.{refused_line, edit_line, served_line}
use Rattle.frame_session.specs.Sessions.{IsAfterFrame, SessionState, choice_answer, current_list, now_after_choice, now_after_edit, now_after_script, frame_of, rate_due, script_answer, size_given, size_served}
use Rattle.frame_session.specs.Answers.{Answer, Answers, AnswersEach, WritesAnswers, WritesAnswer, WritesFrameFirst, answer_to_frame, frames_of, opening, replies_of, reply_only}
use Rattle.frame_session.proofs.Texts.{text_same}

-- a picture that shows a frame has its size and its text
pub size_same : (picture : PictureSamples) (shown : Shown) → Shows picture shown → size_given (Ok picture) ≡ size_served (Ok shown)
size_same picture shown shows =
    let size : ℕ → ℕ → Option Size = λ w h. Some (record { width = w; height = h }) in
    ap (λ (w : ℕ). size w picture.height) shows.wide ∙ ap (λ (h : ℕ). size shown.width h) shows.high

pub frame_same : (old : SessionState) (n : ℕ) (picture : PictureSamples) (shown : Shown) → IsWholePicture picture → Shows picture shown → opening (rate_due old) picture.width picture.height ++ frame_text picture ≡ (answer_to_frame old n (Ok shown)).frames
frame_same old n picture shown whole shows =
    ap (λ (w : ℕ). opening (rate_due old) w picture.height ++ frame_text picture) shows.wide
    ∙ ap (λ (h : ℕ). opening (rate_due old) shown.width h ++ frame_text picture) shows.high
    ∙ ap (λ (t : List ℕ). opening (rate_due old) shown.width shown.height ++ t) (text_same picture shown whole shows)

module _ (old : SessionState) (f f' r r' : Option (List ℕ)) where
  -- a line that only has a reply
  pub serves_reply : (line : Line) (reply : List ℕ) → Answers old line (reply_only reply) old → Appends r r' reply → WritesAnswer old line f f r r' old
  serves_reply line reply means said = record { answer = reply_only reply; means = means; shown = Appends-nil f; said = said }

  -- a question
  pub serves_asked : (question : Question) → GainsAnswer old question r r' → WritesAnswer old (requests.Ask question) f f r r' old
  serves_asked question gains = serves_reply (requests.Ask question) gains.reply (gains.reply, gains.means, refl, refl) gains.said

  pub serves_refused : (n : ℕ) (refusal : Refusal) (new : SessionState) → IsOrNoMemory (frame_of old n) (Err refusal) → IsAfterFrame old (size_given (Err refusal)) new → Appends r r' (refused_line refusal) → WritesAnswer old (requests.Frame n) f f r r' new
  serves_refused n refusal new returned after said = record {
    answer = reply_only (refused_line refusal);
    means = (Err refusal, returned, refl, after);
    shown = Appends-nil f;
    said = said;
  }

  pub serves_frame : (n : ℕ) (picture : PictureSamples) (new : SessionState) → IsFrameOrNoMemory (frame_of old n) (Ok picture) → IsAfterFrame old (size_given (Ok picture)) new → Appends f f' (opening (rate_due old) picture.width picture.height ++ frame_text picture) → Appends r r' (served_line n) → WritesAnswer old (requests.Frame n) f f' r r' new
  serves_frame n picture new returned after shown said = record {
    answer = answer_to_frame old n (Ok returned.0);
    means = (Ok returned.0, returned.1, refl, subst (λ size. IsAfterFrame old size new) (size_same picture returned.0 returned.2) after);
    shown = subst (λ t. Appends f f' t) (frame_same old n picture returned.0 returned.3 returned.2) shown;
    said = said;
  }

  pub serves_script : (text : List ℕ) (set : Result ℕ Refusal) (new : SessionState) → IsOrNoMemory (script_answer old text) set → new ≡ now_after_script text old set → Appends r r' (edit_line set) → WritesAnswer old (requests.Script text) f f r r' new
  serves_script text set new returned after said = record {
    answer = reply_only (edit_line set);
    means = (set, returned, (refl, after));
    shown = Appends-nil f;
    said = said;
  }

  pub serves_chosen : (source : ℕ) (chosen : Result ℕ Refusal) (new : SessionState) → chosen ≡ choice_answer old source → new ≡ now_after_choice source old → Appends r r' (edit_line chosen) → WritesAnswer old (requests.Use source) f f r r' new
  serves_chosen source chosen new is after said = record {
    answer = reply_only (edit_line chosen);
    means = (ap (λ (c : Result ℕ Refusal). reply_only (edit_line c)) is, after);
    shown = Appends-nil f;
    said = said;
  }

  pub serves_edited : (edit : Edit (List ℕ)) (edited : Result ℕ Refusal) (new : SessionState) → WrittenAnswers old.tables old.lists (current_list old) edit edited → new ≡ now_after_edit edit old edited → Appends r r' (edit_line edited) → WritesAnswer old (requests.Edit edit) f f r r' new
  serves_edited edit edited new returned after said = record {
    answer = reply_only (edit_line edited);
    means = (edited, returned, (refl, after));
    shown = Appends-nil f;
    said = said;
  }

-- a frame and its reply, written with the head that is due
module _ (old : SessionState) (f f' r r' : Option (List ℕ)) (n : ℕ) (picture : PictureSamples) (new : SessionState) (head : Option FrameRate) where
  pub frame_and_reply : {A E : Type 0} (w : Result A E) → head ≡ rate_due old → IsFrameOrNoMemory (frame_of old n) (Ok picture) → IsAfterFrame old (size_given (Ok picture)) new → OnOk w (Appends f f' (opening head picture.width picture.height ++ frame_text picture)) → OnOk w (Appends r r' (served_line n)) → OnOk w (WritesAnswer old (requests.Frame n) f f' r r' new)
  frame_and_reply (Ok _) is returned after shown said =
      serves_frame old f f' r r' n picture new returned after (subst (λ (h : Option FrameRate). Appends f f' (opening h picture.width picture.height ++ frame_text picture)) is shown) said
  frame_and_reply (Err _) is returned after shown said = tt

  pub frame_or_no_reply : head ≡ rate_due old → IsFrameOrNoMemory (frame_of old n) (Ok picture) → IsAfterFrame old (size_given (Ok picture)) new → Keeps r r' ⊎ Appends f f' (opening head picture.width picture.height ++ frame_text picture) → WritesFrameFirst old (requests.Frame n) f f' r r' new
  frame_or_no_reply is returned after (inl kept) = inl kept
  frame_or_no_reply is returned after (inr shown) =
      inr (serves_frame old f f' None None n picture new returned after (subst (λ (h : Option FrameRate). Appends f f' (opening h picture.width picture.height ++ frame_text picture)) is shown) tt)

-- one more line
pub run_more : (old mid new : SessionState) (lines : List Line) (answers : List Answer) (line : Line) (answer : Answer) → AnswersEach old lines answers mid → Answers mid line answer new → AnswersEach old (lines ++ line ∷ []) (answers ++ answer ∷ []) new
run_more old mid new [] [] line answer same step = let P : SessionState → Type 0 = λ s. Answers s line answer new in (new, subst P same step, refl)
run_more old mid new [] (x ∷ answers) line answer ran step = absurd ran
run_more old mid new (l ∷ lines) [] line answer ran step = absurd ran
run_more old mid new (l ∷ lines) (x ∷ answers) line answer ran step = (ran.0, ran.1, run_more ran.0 mid new lines answers line answer ran.2 step)

pub flat_map-push : (f : Answer → List ℕ) (xs : List Answer) (x : Answer) → flat_map f (xs ++ x ∷ []) ≡ flat_map f xs ++ f x
flat_map-push f [] x = append-nil (f x)
flat_map-push f (y ∷ xs) x = ap (λ (zs : List ℕ). f y ++ zs) (flat_map-push f xs x) ∙ sym (append_assoc (f y) (flat_map f xs) (f x))

-- nothing asked, nothing answered
abbrev pub runs_none : (old : SessionState) (f r : Option (List ℕ)) → WritesAnswers old [] f f r r old
runs_none old f r = record { answers = []; means = refl; shown = Appends-nil f; said = Appends-nil r }

abbrev pub runs_more : (old mid new : SessionState) (lines : List Line) (line : Line) (f f' f'' r r' r'' : Option (List ℕ)) → WritesAnswers old lines f f' r r' mid → WritesAnswer mid line f' f'' r' r'' new → WritesAnswers old (lines ++ line ∷ []) f f'' r r'' new
runs_more old mid new lines line f f' f'' r r' r'' ran served =
    let P : List ℕ → Type 0 = λ zs. Appends f f'' zs in
    let Q : List ℕ → Type 0 = λ zs. Appends r r'' zs in
    record {
      answers = ran.answers ++ served.answer ∷ [];
      means = run_more old mid new lines ran.answers line served.answer ran.means served.means;
      shown = subst P (sym (flat_map-push (λ x. x.frames) ran.answers served.answer)) (Appends-trans f f' f'' (frames_of ran.answers) served.answer.frames ran.shown served.shown);
      said = subst Q (sym (flat_map-push (λ x. x.reply) ran.answers served.answer)) (Appends-trans r r' r'' (replies_of ran.answers) served.answer.reply ran.said served.said);
    }

-- the lines done and the lines left are all lines, with one more line
pub all_more : (done : List Line) (asked : Line) (line : List ℕ) (left following : List (List ℕ)) (all : List Line) → asked ≡ asked_by line → left ≡ line ∷ following → done ++ map asked_by left ≡ all → (done ++ asked ∷ []) ++ map asked_by following ≡ all
all_more done asked line left following all is next whole =
    append_assoc done (asked ∷ []) (map asked_by following)
    ∙ ap (λ (l : Line). done ++ l ∷ map asked_by following) is
    ∙ ap (λ (ls : List (List ℕ)). done ++ map asked_by ls) (sym next)
    ∙ whole

-- if no line is left, all are done
pub runs_all : (old new : SessionState) (done : List Line) (left : List (List ℕ)) (all : List Line) (f f' r r' : Option (List ℕ)) → left ≡ [] → done ++ map asked_by left ≡ all → WritesAnswers old done f f' r r' new → WritesAnswers old all f f' r r' new
runs_all old new done left all f f' r r' none whole ran =
    let same : done ≡ all = sym (append-nil done) ∙ ap (λ (ls : List (List ℕ)). done ++ map asked_by ls) (sym none) ∙ whole in
    let P : List Line → Type 0 = λ ls. WritesAnswers old ls f f' r r' new in
    subst P same ran
