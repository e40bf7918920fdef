-- What the observer of a run has seen.
use Rattle.std.proofs.Common.{◌≡◌, ℕ, Bool, true, false, ◌&&◌, ◌||◌, is_some, List, [], ◌∷◌, ◌++◌, map, Option, refl, sym, ap, ◌∙◌, subst, append-nil}
use Rattle.vp8_tables.specs.declared.tables.Tables.{Tables}
use Rattle.stream_files.specs.declared.streams.Stream.{Stream}
use Rattle.request_lines.specs.Requests.{asked_by}
use Rattle.request_lines.specs.declared.lines.Line.{Line}
use Rattle.request_lines.specs.declared.lines.Line.TheVariants as requests
use Rattle.state_cache.specs.declared.capacity.Capacity.{Capacity}
use Rattle.frame_session.specs.declared.refusal.Refusal.{Refusal}
use Rattle.frame_session.specs.Answers.{Answer, AreStreams, AnswersEach, WritesAnswers, requests_of}
use Rattle.frame_session.specs.Cached.{SessionValue, begun}
use Rattle.frame_session.specs.Noted.{MeansNoted, Notes, RunsNoted, is_frame, refuses_frame, refuses_some}
use Rattle.frame_session.specs.Sessions.{SessionState, start}

pub or_false : (b : Bool) → (b || false) ≡ b
or_false true = refl
or_false false = refl

pub or_assoc : (x y z : Bool) → ((x || y) || z) ≡ (x || (y || z))
or_assoc true y z = refl
or_assoc false y z = refl

-- lines, and lines after them
pub some_append : (old new : SessionState) (ls ls' : List Line) (xs ys : List Answer) → AnswersEach old ls xs new → refuses_some (ls ++ ls') (xs ++ ys) ≡ (refuses_some ls xs || refuses_some ls' ys)
some_append old new [] ls' [] ys ran = refl
some_append old new [] ls' (x ∷ xs) ys ran = absurd ran
some_append old new (l ∷ ls) ls' [] ys ran = absurd ran
some_append old new (l ∷ ls) ls' (x ∷ xs) ys ran = ap (λ (b : Bool). refuses_frame l x || b) (some_append ran.0 new ls ls' xs ys ran.2) ∙ sym (or_assoc (refuses_frame l x) (refuses_some ls xs) (refuses_some ls' ys))

pub noted_append : (old new : SessionState) (ls ls' : List Line) (xs ys : List Answer) (seen seen' seen'' : Bool) → AnswersEach old ls xs new → seen' ≡ (seen || refuses_some ls xs) → seen'' ≡ (seen' || refuses_some ls' ys) → seen'' ≡ (seen || refuses_some (ls ++ ls') (xs ++ ys))
noted_append old new ls ls' xs ys seen seen' seen'' ran before after =
    after
    ∙ ap (λ (b : Bool). b || refuses_some ls' ys) before
    ∙ or_assoc seen (refuses_some ls xs) (refuses_some ls' ys)
    ∙ ap (λ (b : Bool). seen || b) (sym (some_append old new ls ls' xs ys ran))

-- a line that is no request for a frame
pub not_frame : (line : Line) → ((n : ℕ) → line ≡ requests.Frame n → ⊥) → false ≡ is_frame line
not_frame (requests.Frame n) other = absurd (other n refl)
not_frame requests.Silent other = refl
not_frame requests.Unknown other = refl
not_frame (requests.Use source) other = refl
not_frame (requests.Edit edit) other = refl
not_frame (requests.Script text) other = refl
not_frame requests.Count other = refl
not_frame requests.Stats other = refl
not_frame (requests.Ask question) other = refl
not_frame requests.Lost other = refl

-- one line
pub noted_line : (line : Line) (answer : Answer) (asks : Bool) (refusal : Option Refusal) (seen seen' : Bool) → asks ≡ is_frame line → refuses_frame line answer ≡ (is_frame line && is_some refusal) → Notes seen seen' asks refusal → seen' ≡ (seen || refuses_some (line ∷ []) (answer ∷ []))
noted_line line answer asks refusal seen seen' is reported notes =
    notes
    ∙ ap (λ (b : Bool). seen || b && is_some refusal) is
    ∙ ap (λ (b : Bool). seen || b) (sym reported ∙ sym (or_false (refuses_frame line answer)))

-- if no line is left, all are done
pub all_noted : (old new : SessionState) (done : List Line) (left : List (List ℕ)) (all : List Line) (f f' r r' : Option (List ℕ)) (seen seen' : Bool) → left ≡ [] → done ++ map asked_by left ≡ all → (ran : WritesAnswers old done f f' r r' new) → seen' ≡ (seen || refuses_some done ran.answers) → RunsNoted old all f f' r r' new seen seen'
all_noted old new done left all f f' r r' seen seen' none whole ran noted =
    let same : done ≡ all = sym (append-nil done) ∙ ap (λ (ls : List (List ℕ)). done ++ map asked_by ls) (sym none) ∙ whole in
    subst (λ (ls : List Line). RunsNoted old ls f f' r r' new seen seen') same (record { runs = ran; noted = noted })

-- a run from its first session
pub means_noted : (tables : Tables) (capacity : Capacity) (sources : List (List ℕ)) (requests : List ℕ) (f f' r r' : Option (List ℕ)) (files : List Stream) (first : SessionValue) (end : SessionState) (seen seen' : Bool) → AreStreams sources files → first ≡ begun tables capacity files → RunsNoted first.state (requests_of requests) f f' r r' end seen seen' → MeansNoted tables sources requests f f' r r' end seen seen'
means_noted tables capacity sources requests f f' r r' files first end seen seen' are is ran =
    let so : RunsNoted (start tables files) (requests_of requests) f f' r r' end seen seen' = subst (λ (v : SessionValue). RunsNoted v.state (requests_of requests) f f' r r' end seen seen') is ran in
    record { means = record { files = files; are = are; runs = so.runs }; noted = so.noted }
