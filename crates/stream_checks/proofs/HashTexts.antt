-- The text of some frames, and of one more.
use Rattle.std.proofs.Common.{◌≡◌, ℕ, Bool, true, false, if◌then◌else◌, List, [], ◌∷◌, ◌++◌, ◌||◌, Option, Some, None, is_some, refl, sym, ap, ◌∙◌, append_assoc, append-nil}
use Rattle.std.proofs.lemmas.Grind.{flat_map-append}
use Rattle.std.specs.List.{cons_option, flat_map}
use Rattle.stream_files.specs.declared.streams.Head.{Head}
use Rattle.stream_checks.specs.declared.time_bases.TimeBase.{TimeBase}
use Rattle.stream_checks.specs.Hashes.{added_by, text_of}
use Rattle.stream_checks.specs.HashLines.{Frame, head_lines, line_of}

-- the text that is written after some frames: none before the first
abbrev pub so_far : Head → TimeBase → List Frame → List ℕ
so_far head base [] = []
so_far head base (frame ∷ frames) = text_of head base (frame ∷ frames)

abbrev pub has_frames : List Frame → Bool
has_frames [] = false
has_frames (frame ∷ frames) = true

abbrev pub with_frame : List Frame → Option Frame → List Frame
with_frame done None = done
with_frame done (Some frame) = done ++ frame ∷ []

pub with_frame-append : (done : List Frame) (frame : Option Frame) (more : List Frame) → with_frame done frame ++ more ≡ done ++ cons_option frame more
with_frame-append done None more = refl
with_frame-append done (Some frame) more = append_assoc done (frame ∷ []) more

pub has_frames-with_frame : (done : List Frame) (frame : Option Frame) → has_frames (with_frame done frame) ≡ (has_frames done || is_some frame)
has_frames-with_frame [] None = refl
has_frames-with_frame [] (Some frame) = refl
has_frames-with_frame (first ∷ done) None = refl
has_frames-with_frame (first ∷ done) (Some frame) = refl

-- after the last packet only the head lines may be missing
pub last_part : (head : Head) (base : TimeBase) (done : List Frame) → so_far head base done ++ (if has_frames done then [] else head_lines base head.width head.height) ≡ text_of head base done
last_part head base [] = sym (append-nil (head_lines base head.width head.height))
last_part head base (first ∷ done) = append-nil (text_of head base (first ∷ done))

-- a packet adds the text of its frame
pub one_more : (head : Head) (base : TimeBase) (done : List Frame) (frame : Option Frame) → so_far head base (with_frame done frame) ≡ so_far head base done ++ added_by base (has_frames done) frame
one_more head base done None = sym (append-nil (so_far head base done))
one_more head base [] (Some frame) = ap (λ (text : List ℕ). head_lines base frame.picture.width frame.picture.height ++ text) (append-nil (line_of frame))
one_more head base (first ∷ done) (Some frame) =
    let begun = head_lines base first.picture.width first.picture.height in
    ap (λ (text : List ℕ). begun ++ text) (flat_map-append line_of (first ∷ done) (frame ∷ []) ∙ ap (λ (text : List ℕ). flat_map line_of (first ∷ done) ++ text) (append-nil (line_of frame)))
    ∙ sym (append_assoc begun (flat_map line_of (first ∷ done)) (line_of frame))

-- the text of all frames begins with the text of some of them
pub rest_of : Head → TimeBase → List Frame → List Frame → List ℕ
rest_of head base [] more = text_of head base more
rest_of head base (frame ∷ done) more = flat_map line_of more

pub front_of : (head : Head) (base : TimeBase) (done more : List Frame) → text_of head base (done ++ more) ≡ so_far head base done ++ rest_of head base done more
unfolding rest_of
front_of head base [] more = refl
front_of head base (frame ∷ done) more =
    let begun = head_lines base frame.picture.width frame.picture.height in
    ap (λ (text : List ℕ). begun ++ text) (flat_map-append line_of (frame ∷ done) more)
    ∙ sym (append_assoc begun (flat_map line_of (frame ∷ done)) (flat_map line_of more))
