-- What packets show, one after another, and their outcomes.
use Rattle.std.proofs.Common.{◌≡◌, ℕ, zero, suc, ◌+◌, Bool, true, false, cond, List, [], ◌∷◌, ◌++◌, length, slice_get, Option, Some, None, Ok, IsOk, refl, sym, ap, subst, ◌∙◌, arith, inl, inr, add-zero, zero-add, if◌then◌else◌}
use Rattle.std.specs.Prelude.{option_and_then}
use Rattle.std.proofs.lemmas.Bool.{cases_Bool}
use Rattle.vp8_tables.specs.declared.tables.Tables.{Tables}
use Rattle.vp8_tables.specs.Tables.{TableEntries}
use Rattle.frame_header.specs.Tags.{has_key_tag, is_shown}
use Rattle.pixel_planes.specs.Pictures.{PictureSamples}
use Rattle.packet_edits.specs.Shown.{shown_from, shown_indexes}
use Rattle.reference_frames.specs.StepLaws.{KeysStepFromNone}
use Rattle.reference_frames.specs.Steps.{step_of}
use Rattle.reference_frames.specs.declared.states.State.{State}
use Rattle.stream_steps.specs.Decoding.{Outcome, Progress, following, left_by, outcome, outcomes, outcomes_from, reported_at}
use Rattle.lossless_cuts.specs.Exports.{ShowsExactly, outcome_shown}

-- the pictures with one more, if it is shown
abbrev pub shown_before : Bool → PictureSamples → List PictureSamples → List PictureSamples
shown_before shown picture later = if shown then picture ∷ later else later

-- the first packet is accepted, and this holds of the state after it and the pictures shown later
pub record PlaysFirst (tables : TableEntries) (before : Option State) (packet : List ℕ) (pictures : List PictureSamples) (rest : Option State → List PictureSamples → Type 0) : Type 0 where
  pub d : State × PictureSamples
  pub later : List PictureSamples
  pub is : step_of tables before packet ≡ Ok d
  pub shows : pictures ≡ shown_before (is_shown packet) d.1 later
  pub onward : rest (Some d.0) later

-- packets are accepted in sequence, the shown ones with these pictures
abbrev pub Plays : TableEntries → Option State → List (List ℕ) → List PictureSamples → Option State → Type 0
Plays tables before [] pictures after = (pictures ≡ []) × (before ≡ after)
Plays tables before (packet ∷ packets) pictures after = PlaysFirst tables before packet pictures (λ mid later. Plays tables mid packets later after)

shown_append : (shown : Bool) (picture : PictureSamples) (xs ys : List PictureSamples) → shown_before shown picture xs ++ ys ≡ shown_before shown picture (xs ++ ys)
shown_append true picture xs ys = refl
shown_append false picture xs ys = refl

pub plays_append : (tables : TableEntries) (before mid after : Option State) (xs ys : List (List ℕ)) (ps qs : List PictureSamples) → Plays tables before xs ps mid → Plays tables mid ys qs after → Plays tables before (xs ++ ys) (ps ++ qs) after
plays_append tables before mid after [] ys ps qs h k =
    subst (λ (s : Option State). Plays tables s ys (ps ++ qs) after) (sym h.1) (subst (λ (rs : List PictureSamples). Plays tables mid ys (rs ++ qs) after) (sym h.0) k)
plays_append tables before mid after (x ∷ xs) ys ps qs h k = record {
  d = h.d;
  later = h.later ++ qs;
  is = h.is;
  shows = ap (λ (rs : List PictureSamples). rs ++ qs) h.shows ∙ shown_append (is_shown x) h.d.1 h.later qs;
  onward = plays_append tables (Some h.d.0) mid after xs ys h.later qs h.onward k;
}

-- ---- outcomes

-- a packet's outcome is its step, whether it has a key tag or not
outcome_is : KeysStepFromNone → (tables : Tables) (place : ℕ) (before : Option State) (x : List ℕ) (d : State × PictureSamples) → step_of tables before x ≡ Ok d → outcome tables place (Ok before) x ≡ Ok d
outcome_is keys tables place before x d is = elim (cases_Bool (has_key_tag x)) [
  | inl key ↦
      ap (λ (b : Bool). cond b (reported_at place (step_of tables None x)) (following tables place (Ok before) x)) key
      ∙ ap (reported_at place) (sym (keys tables before x key) ∙ is)
  | inr plain ↦
      ap (λ (b : Bool). cond b (reported_at place (step_of tables None x)) (following tables place (Ok before) x)) plain
      ∙ ap (reported_at place) is
]

all_accepted : KeysStepFromNone → (tables : Tables) (place : ℕ) (before after : Option State) (xs : List (List ℕ)) (ps : List PictureSamples) → Plays tables before xs ps after → (i : ℕ) (o : Outcome) → slice_get (outcomes_from tables place (Ok before) xs) i ≡ Some o → IsOk o
all_accepted keys tables place before after [] ps h i o found = cc
all_accepted keys tables place before after (x ∷ xs) ps h zero o found =
    let here : outcome tables place (Ok before) x ≡ Ok h.d = outcome_is keys tables place before x h.d h.is in
    let same : outcome tables place (Ok before) x ≡ o = cc in
    subst (λ (r : Outcome). IsOk r) (sym here ∙ same) refl
all_accepted keys tables place before after (x ∷ xs) ps h (suc i) o found =
    let left : left_by (outcome tables place (Ok before) x) ≡ Ok (Some h.d.0) = ap left_by (outcome_is keys tables place before x h.d h.is) in
    all_accepted keys tables (place + 1) (Some h.d.0) after xs h.later h.onward i o
    (ap (λ (progress : Progress). slice_get (outcomes_from tables (place + 1) progress xs) i) (sym left) ∙ found)

count_if : (shown : Bool) (start : ℕ) (later : List ℕ) (picture : PictureSamples) (pictures : List PictureSamples) → length later ≡ length pictures → length (cond shown (start ∷ later) later) ≡ length (shown_before shown picture pictures)
count_if true start later picture pictures same = ap suc same
count_if false start later picture pictures same = same

shown_count : (tables : TableEntries) (start : ℕ) (before after : Option State) (xs : List (List ℕ)) (ps : List PictureSamples) → Plays tables before xs ps after → length (shown_from start xs) ≡ length ps
shown_count tables start before after [] ps h = sym (ap length h.0)
shown_count tables start before after (x ∷ xs) ps h =
    count_if (is_shown x) start (shown_from (start + 1) xs) h.d.1 h.later (shown_count tables (start + 1) (Some h.d.0) after xs h.later h.onward) ∙ sym (ap length h.shows)

-- picture n is the picture of a packet, whose index is item n of the shown list
record IsShownAt (tables : Tables) (place start : ℕ) (before : Option State) (xs : List (List ℕ)) (n : ℕ) (picture : PictureSamples) : Type 0 where
  index : ℕ
  state : State
  listed : slice_get (shown_from start xs) n ≡ Some (start + index)
  accepted : slice_get (outcomes_from tables place (Ok before) xs) index ≡ Some (Ok (state, picture))

shown_first : (tables : Tables) (place start : ℕ) (before : Option State) (x : List ℕ) (xs : List (List ℕ)) (d : State × PictureSamples) (picture : PictureSamples) → is_shown x ≡ true → outcome tables place (Ok before) x ≡ Ok d → d.1 ≡ picture → IsShownAt tables place start before (x ∷ xs) 0 picture
shown_first tables place start before x xs d picture shown is same = record {
  index = 0;
  state = d.0;
  listed = ap (λ (b : Bool). slice_get (cond b (start ∷ shown_from (start + 1) xs) (shown_from (start + 1) xs)) 0) shown ∙ ap (λ (k : ℕ). Some k) (sym (add-zero start));
  accepted = ap (λ (o : Outcome). Some o) is ∙ ap (λ (p : PictureSamples). let o : Option Outcome = Some (Ok (d.0, p)) in o) same;
}

shown_later : (tables : Tables) (place start : ℕ) (before next : Option State) (x : List ℕ) (xs : List (List ℕ)) (shown : Bool) (n m : ℕ) (picture : PictureSamples) → is_shown x ≡ shown → n ≡ (if shown then suc m else m) → left_by (outcome tables place (Ok before) x) ≡ Ok next
    → IsShownAt tables (place + 1) (start + 1) next xs m picture → IsShownAt tables place start before (x ∷ xs) n picture
shown_later tables place start before next x xs true n m picture shown is left rest =
    let moved : start + 1 + rest.index ≡ start + suc rest.index = omega arith in
    record {
      index = suc rest.index;
      state = rest.state;
      listed = ap (λ (k : ℕ). slice_get (shown_from start (x ∷ xs)) k) is ∙ ap (λ (b : Bool). slice_get (cond b (start ∷ shown_from (start + 1) xs) (shown_from (start + 1) xs)) (suc m)) shown ∙ rest.listed ∙ ap (λ (k : ℕ). Some k) moved;
      accepted = ap (λ (progress : Progress). slice_get (outcomes_from tables (place + 1) progress xs) rest.index) left ∙ rest.accepted;
    }
shown_later tables place start before next x xs false n m picture shown is left rest =
    let moved : start + 1 + rest.index ≡ start + suc rest.index = omega arith in
    record {
      index = suc rest.index;
      state = rest.state;
      listed = ap (λ (k : ℕ). slice_get (shown_from start (x ∷ xs)) k) is ∙ ap (λ (b : Bool). slice_get (cond b (start ∷ shown_from (start + 1) xs) (shown_from (start + 1) xs)) m) shown ∙ rest.listed ∙ ap (λ (k : ℕ). Some k) moved;
      accepted = ap (λ (progress : Progress). slice_get (outcomes_from tables (place + 1) progress xs) rest.index) left ∙ rest.accepted;
    }

-- picture n of a packet and those after it
data Placed (x : List ℕ) (d : State × PictureSamples) (later : List PictureSamples) (n : ℕ) (picture : PictureSamples) : Type 0 where
  at_first : n ≡ 0 → is_shown x ≡ true → d.1 ≡ picture → Placed x d later n picture
  after_first : (m : ℕ) (shown : Bool) → is_shown x ≡ shown → n ≡ (if shown then suc m else m) → slice_get later m ≡ Some picture → Placed x d later n picture

placed : (x : List ℕ) (d : State × PictureSamples) (later : List PictureSamples) (n : ℕ) (picture : PictureSamples) (shown : Bool) → is_shown x ≡ shown → slice_get (shown_before shown d.1 later) n ≡ Some picture → Placed x d later n picture
placed x d later zero picture true shown found = let same : d.1 ≡ picture = cc in at_first refl shown same
placed x d later (suc n) picture true shown found = after_first n true shown refl found
placed x d later n picture false shown found = after_first n false shown refl found

placed_in : (x : List ℕ) (d : State × PictureSamples) (later ps : List PictureSamples) (n : ℕ) (picture : PictureSamples) → ps ≡ shown_before (is_shown x) d.1 later → slice_get ps n ≡ Some picture → Placed x d later n picture
placed_in x d later ps n picture is found = placed x d later n picture (is_shown x) refl (ap (λ (rs : List PictureSamples). slice_get rs n) (sym is) ∙ found)

shown_at : KeysStepFromNone → (tables : Tables) (place start : ℕ) (before after : Option State) (xs : List (List ℕ)) (ps : List PictureSamples) → Plays tables before xs ps after → (n : ℕ) (picture : PictureSamples) → slice_get ps n ≡ Some picture → IsShownAt tables place start before xs n picture
shown_at keys tables place start before after [] ps h n picture found =
    let none : slice_get ps n ≡ None = ap (λ (rs : List PictureSamples). slice_get rs n) h.0 in
    cc
shown_at keys tables place start before after (x ∷ xs) ps h n picture found =
    let here : outcome tables place (Ok before) x ≡ Ok h.d = outcome_is keys tables place before x h.d h.is in
    elim (placed_in x h.d h.later ps n picture h.shows found) [
      | at_first at shown same ↦ subst (λ (k : ℕ). IsShownAt tables place start before (x ∷ xs) k picture) (sym at) (shown_first tables place start before x xs h.d picture shown here same)
      | after_first m shown says at rest ↦
          shown_later tables place start before (Some h.d.0) x xs shown n m picture says at (ap left_by here) (shown_at keys tables (place + 1) (start + 1) (Some h.d.0) after xs h.later h.onward m picture rest)
    ]

by_index : (tables : Tables) (xs : List (List ℕ)) (n : ℕ) (picture : PictureSamples) → IsShownAt tables 0 0 None xs n picture → (state : State) × (outcome_shown tables xs n ≡ Some (Ok (state, picture)))
by_index tables xs n picture s =
    let listed : slice_get (shown_indexes xs) n ≡ Some s.index = s.listed ∙ ap (λ (k : ℕ). Some k) (zero-add s.index) in
    (s.state, ap (λ (o : Option ℕ). option_and_then (λ (place : ℕ). slice_get (outcomes tables xs) place) o) listed ∙ s.accepted)

-- packets that play from no state show exactly their pictures
pub shows_exactly : KeysStepFromNone → (tables : Tables) (after : Option State) (xs : List (List ℕ)) (ps : List PictureSamples) → Plays tables None xs ps after → ShowsExactly tables xs ps
shows_exactly keys tables after xs ps h = record {
  accepts = all_accepted keys tables 0 None after xs ps h;
  count = shown_count tables 0 None after xs ps h;
  each = λ n picture found. by_index tables xs n picture (shown_at keys tables 0 0 None after xs ps h n picture found);
}
