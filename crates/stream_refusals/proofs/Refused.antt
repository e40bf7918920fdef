-- Which packets decoding refuses, by their outlines.
use Rattle.std.proofs.Common.{◌≡◌, ℕ, zero, suc, ◌+◌, ◌<◌, ◌≤◌, ◌==◌, Bool, true, false, cond, List, [], ◌∷◌, length, slice_get, slice_index_or, Option, Some, None, Result, Ok, Err, refl, sym, ap, subst, ◌∙◌, arith, inl, inr, nat_lt, if◌then◌else◌, zero-add}
use Rattle.std.specs.Prelude.{is_some}
use Rattle.std.specs.Option.{option_map, option_map_or}
use Rattle.std.specs.Result.{result_err}
use Rattle.std.proofs.lemmas.Bool.{cases_Bool, cases_eq, cases_order, lt-ltb, le-ltb}
use Rattle.std.proofs.lemmas.Option.{get_or_from_slice_get}
use Rattle.vp8_tables.specs.declared.tables.Tables.{Tables}
use Rattle.vp8_tables.specs.Tables.{TableEntries}
use Rattle.frame_header.specs.Header.{header_of}
use Rattle.frame_header.specs.Outlines.{OutlinesAreHeaders, outline_of, outlined}
use Rattle.frame_header.specs.Tags.{has_key_tag}
use Rattle.frame_header.specs.declared.cause.Cause.{Cause}
use Rattle.frame_header.specs.declared.cause.Cause.TheVariants.{NoKeyFrame}
use Rattle.frame_header.specs.declared.context.Context.{Context}
use Rattle.frame_header.specs.declared.header.Header.{Header}
use Rattle.pixel_planes.specs.Pictures.{PictureSamples}
use Rattle.reference_frames.specs.Steps.{decoded_by, repeated, step_of}
use Rattle.reference_frames.specs.declared.states.State.{State}
use Rattle.stream_steps.specs.declared.broken.Broken.{Broken}
use Rattle.stream_steps.specs.Decoding.{Outcome, Progress, following, left_by, outcome, outcomes, outcomes_from, reported_at}
use Rattle.stream_refusals.specs.Refusals.{AcceptsAreByBytes, HaveNoCause, IsBreak, RefusalsAreByBytes, cause_against, cause_at, key_tag_at, run_start}

-- ---- the cause of a step

abbrev Step : Type 0
Step = Result (State × PictureSamples) Cause

caused-if : (b : Bool) (x y : Step) → result_err (if b then x else y) ≡ (if b then result_err x else result_err y)
caused-if true x y = refl
caused-if false x y = refl

caused-repeated : (state : Option State) → result_err (repeated state) ≡ (if is_some state then None else Some NoKeyFrame)
caused-repeated None = refl
caused-repeated (Some state) = refl

caused-header : (tables : TableEntries) (packet : List ℕ) (state : Option State) (header : Result Header Cause) → result_err (decoded_by tables packet state header) ≡ result_err (outlined header)
caused-header tables packet state (Ok header) = refl
caused-header tables packet state (Err cause) = refl

follows-context : (state : Option State) → is_some (option_map (λ (s : State). s.context) state) ≡ is_some state
follows-context None = refl
follows-context (Some state) = refl

-- the cause against a packet after a state or none
pub step-cause : OutlinesAreHeaders → (tables : TableEntries) (state : Option State) (packet : List ℕ) → result_err (step_of tables state packet) ≡ cause_against (is_some state) packet
unfolding step_of
step-cause outlines tables state packet =
    let context : Option Context = option_map (λ (s : State). s.context) state in
    let empty : Bool = length packet == 0 in
    let coded : Step = decoded_by tables packet state (header_of tables context packet) in
    let own : Option Cause = if is_some state then None else Some NoKeyFrame in
    let by_outline : result_err coded ≡ result_err (outline_of (is_some state) packet) =
    caused-header tables packet state (header_of tables context packet) ∙ ap result_err (outlines tables context packet) ∙ ap (λ (b : Bool). result_err (outline_of b packet)) (follows-context state) in
    caused-if empty (repeated state) coded ∙ ap (λ (c : Option Cause). if empty then c else result_err coded) (caused-repeated state) ∙ ap (λ (c : Option Cause). if empty then own else c) by_outline

-- ---- runs

pub run_start-key : (packets : List (List ℕ)) (place : ℕ) → key_tag_at packets (suc place) ≡ true → run_start packets (suc place) ≡ suc place
run_start-key packets place key = ap (λ (b : Bool). cond b (suc place) (run_start packets place)) key

pub run_start-plain : (packets : List (List ℕ)) (place : ℕ) → key_tag_at packets (suc place) ≡ false → run_start packets (suc place) ≡ run_start packets place
run_start-plain packets place plain = ap (λ (b : Bool). cond b (suc place) (run_start packets place)) plain

pub run_start-within : (packets : List (List ℕ)) (place : ℕ) → run_start packets place ≤ place
run_start-within packets zero = omega arith
run_start-within packets (suc place) = elim (cases_Bool (key_tag_at packets (suc place))) [
  | inl key ↦ omega (arith, run_start-key packets place key)
  | inr plain ↦ omega (arith, run_start-plain packets place plain, run_start-within packets place)
]

packet-at : (packets : List (List ℕ)) (place : ℕ) (packet : List ℕ) → slice_get packets place ≡ Some packet → slice_index_or packets place [] ≡ packet
packet-at packets place packet here = get_or_from_slice_get packets place packet [] here

cause-at : (packets : List (List ℕ)) (place : ℕ) (packet : List ℕ) (follows : Bool) → slice_get packets place ≡ Some packet → nat_lt (run_start packets place) place ≡ follows → cause_at packets place ≡ cause_against follows packet
cause-at packets place packet follows here is =
    ap (λ (p : List ℕ). cause_against (nat_lt (run_start packets place) place) p) (packet-at packets place packet here) ∙ ap (λ (b : Bool). cause_against b packet) is

-- ---- one outcome

-- what an outcome says of the packets of its run
Decided : List (List ℕ) → ℕ → Outcome → Type 0
Decided packets place (Ok step) = HaveNoCause packets (run_start packets place) (suc place)
Decided packets place (Err broken) = IsBreak packets place broken

one-more : (packets : List (List ℕ)) (first place k : ℕ) → HaveNoCause packets first place → cause_at packets place ≡ None → first ≤ k → k < suc place → cause_at packets k ≡ None
one-more packets first place k before here low high = elim (cases_eq k place) [
  | inl same ↦ ap (cause_at packets) same ∙ here
  | inr other ↦ before k low (omega (arith, high, other))
]

-- a packet whose run is accepted before it
decided-by : (packets : List (List ℕ)) (place : ℕ) (step : Step) → HaveNoCause packets (run_start packets place) place → cause_at packets place ≡ result_err step → Decided packets place (reported_at place step)
unfolding Decided
decided-by packets place (Ok step) before cause = λ k low high. one-more packets (run_start packets place) place k before cause low high
decided-by packets place (Err why) before cause = record { same_run = refl; within = omega arith; cause = cause; first = before }

-- the first packet of a run
fresh : OutlinesAreHeaders → (tables : Tables) (packets : List (List ℕ)) (place : ℕ) (packet : List ℕ) → slice_get packets place ≡ Some packet → run_start packets place ≡ place → Decided packets place (reported_at place (step_of tables None packet))
fresh outlines tables packets place packet here start =
    let none : HaveNoCause packets (run_start packets place) place = λ k low high. absurd (omega (arith, start, low, high)) in
    let alone : nat_lt (run_start packets place) place ≡ false = le-ltb (run_start packets place) place (omega (arith, start)) in
    decided-by packets place (step_of tables None packet) none (cause-at packets place packet false here alone ∙ sym (step-cause outlines tables None packet))

pub key-tag : (packets : List (List ℕ)) (place : ℕ) (packet : List ℕ) → slice_get packets place ≡ Some packet → key_tag_at packets place ≡ has_key_tag packet
key-tag packets place packet here = ap (λ (p : Option (List ℕ)). option_map_or has_key_tag p false) here

either : (tables : Tables) (place : ℕ) (progress : Progress) (packet : List ℕ) (key : Bool) → has_key_tag packet ≡ key → outcome tables place progress packet ≡ cond key (reported_at place (step_of tables None packet)) (following tables place progress packet)
either tables place progress packet key is = ap (λ (b : Bool). cond b (reported_at place (step_of tables None packet)) (following tables place progress packet)) is

-- the break before a packet of the same run is its own
still-broken : (packets : List (List ℕ)) (place : ℕ) (broken : Broken) → run_start packets (suc place) ≡ run_start packets place → IsBreak packets place broken → IsBreak packets (suc place) broken
still-broken packets place broken same is = record {
  same_run = is.same_run ∙ sym same;
  within = let earlier : broken.place ≤ place = is.within in omega (arith, earlier);
  cause = is.cause;
  first = subst (λ (start : ℕ). HaveNoCause packets start broken.place) (sym same) is.first;
}

-- a packet without a key tag, after another one
later : OutlinesAreHeaders → (tables : Tables) (packets : List (List ℕ)) (place : ℕ) (before : Outcome) (packet : List ℕ) → slice_get packets (suc place) ≡ Some packet → run_start packets (suc place) ≡ run_start packets place → Decided packets place before
    → Decided packets (suc place) (following tables (suc place) (left_by before) packet)
unfolding Decided
later outlines tables packets place (Err broken) packet here same is = still-broken packets place broken same is
later outlines tables packets place (Ok step) packet here same is =
    let none : HaveNoCause packets (run_start packets (suc place)) (suc place) = subst (λ (start : ℕ). HaveNoCause packets start (suc place)) (sym same) is in
    let follows : nat_lt (run_start packets (suc place)) (suc place) ≡ true = lt-ltb (run_start packets (suc place)) (suc place) (omega (arith, same, run_start-within packets place)) in
    decided-by packets (suc place) (step_of tables (Some step.0) packet) none (cause-at packets (suc place) packet true here follows ∙ sym (step-cause outlines tables (Some step.0) packet))

next : OutlinesAreHeaders → (tables : Tables) (packets : List (List ℕ)) (place : ℕ) (before : Outcome) (packet : List ℕ) → slice_get packets (suc place) ≡ Some packet → Decided packets place before
    → Decided packets (suc place) (outcome tables (suc place) (left_by before) packet)
next outlines tables packets place before packet here is = elim (cases_Bool (has_key_tag packet)) [
  | inl key ↦
      let start : run_start packets (suc place) ≡ suc place = run_start-key packets place (key-tag packets (suc place) packet here ∙ key) in
      subst (Decided packets (suc place)) (sym (either tables (suc place) (left_by before) packet true key)) (fresh outlines tables packets (suc place) packet here start)
  | inr plain ↦
      let same : run_start packets (suc place) ≡ run_start packets place = run_start-plain packets place (key-tag packets (suc place) packet here ∙ plain) in
      subst (Decided packets (suc place)) (sym (either tables (suc place) (left_by before) packet false plain)) (later outlines tables packets place before packet here same is)
]

same-if : {A : Type 0} (b : Bool) (x : A) → (if b then x else x) ≡ x
same-if true x = refl
same-if false x = refl

first : OutlinesAreHeaders → (tables : Tables) (packets : List (List ℕ)) (packet : List ℕ) → slice_get packets 0 ≡ Some packet → Decided packets 0 (outcome tables 0 (Ok None) packet)
first outlines tables packets packet here =
    subst (Decided packets 0) (sym (same-if (has_key_tag packet) (reported_at 0 (step_of tables None packet)))) (fresh outlines tables packets 0 packet here refl)

-- ---- the outcome at each index

-- the first outcome, and one after another
pub record FirstOutcome (tables : Tables) (place : ℕ) (progress : Progress) (packets : List (List ℕ)) (found : Outcome) : Type 0 where
  pub packet : List ℕ
  pub here : slice_get packets 0 ≡ Some packet
  pub is : outcome tables place progress packet ≡ found

pub record NextOutcome (tables : Tables) (place : ℕ) (progress : Progress) (packets : List (List ℕ)) (i : ℕ) (found : Outcome) : Type 0 where
  pub before : Outcome
  pub was : slice_get (outcomes_from tables place progress packets) i ≡ Some before
  pub packet : List ℕ
  pub here : slice_get packets (suc i) ≡ Some packet
  pub is : outcome tables (place + suc i) (left_by before) packet ≡ found

pub first-outcome : (tables : Tables) (place : ℕ) (progress : Progress) (packets : List (List ℕ)) (found : Outcome) → slice_get (outcomes_from tables place progress packets) 0 ≡ Some found → FirstOutcome tables place progress packets found
first-outcome tables place progress [] found at = cc
first-outcome tables place progress (packet ∷ packets) found at = record { packet = packet; here = refl; is = (let same : outcome tables place progress packet ≡ found = cc in same) }

pub next-outcome : (tables : Tables) (place : ℕ) (progress : Progress) (packets : List (List ℕ)) (i : ℕ) (found : Outcome) → slice_get (outcomes_from tables place progress packets) (suc i) ≡ Some found → NextOutcome tables place progress packets i found
next-outcome tables place progress [] i found at = cc
next-outcome tables place progress (packet ∷ packets) zero found at =
    let one : FirstOutcome tables (place + 1) (left_by (outcome tables place progress packet)) packets found = first-outcome tables (place + 1) (left_by (outcome tables place progress packet)) packets found at in
    record { before = outcome tables place progress packet; was = refl; packet = one.packet; here = one.here; is = one.is }
next-outcome tables place progress (packet ∷ packets) (suc i) found at =
    let rest : NextOutcome tables (place + 1) (left_by (outcome tables place progress packet)) packets i found = next-outcome tables (place + 1) (left_by (outcome tables place progress packet)) packets i found at in
    let moved : place + suc (suc i) ≡ place + 1 + suc i = omega arith in
    record { before = rest.before; was = rest.was; packet = rest.packet; here = rest.here; is = ap (λ (n : ℕ). outcome tables n (left_by rest.before) rest.packet) moved ∙ rest.is }

decided : OutlinesAreHeaders → (tables : Tables) (packets : List (List ℕ)) (place : ℕ) (found : Outcome) → slice_get (outcomes tables packets) place ≡ Some found → Decided packets place found
decided outlines tables packets zero found at =
    let one : FirstOutcome tables 0 (Ok None) packets found = first-outcome tables 0 (Ok None) packets found at in
    subst (Decided packets 0) one.is (first outlines tables packets one.packet one.here)
decided outlines tables packets (suc place) found at =
    let one : NextOutcome tables 0 (Ok None) packets place found = next-outcome tables 0 (Ok None) packets place found at in
    let index : suc place ≡ 0 + suc place = sym (zero-add (suc place)) in
    subst (Decided packets (suc place)) (ap (λ (n : ℕ). outcome tables n (left_by one.before) one.packet) index ∙ one.is)
    (next outlines tables packets place one.before one.packet one.here (decided outlines tables packets place one.before one.was))

-- each packet has an outcome
pub has-outcome : (tables : Tables) (place : ℕ) (progress : Progress) (packets : List (List ℕ)) (i : ℕ) → i < length packets → (found : Outcome) × (slice_get (outcomes_from tables place progress packets) i ≡ Some found)
has-outcome tables place progress [] i less = absurd (omega (arith, less))
has-outcome tables place progress (packet ∷ packets) zero less = (outcome tables place progress packet, refl)
has-outcome tables place progress (packet ∷ packets) (suc i) less = has-outcome tables (place + 1) (left_by (outcome tables place progress packet)) packets i (omega (arith, less))

-- ---- there is one break

earliest : (packets : List (List ℕ)) (place : ℕ) (one other : Broken) → IsBreak packets place one → IsBreak packets place other → one.place < other.place → ⊥
earliest packets place one other is also less =
    let run : run_start packets one.place ≡ run_start packets place = is.same_run in
    let none : cause_at packets one.place ≡ None = also.first one.place (omega (arith, run, run_start-within packets one.place)) less in
    let some : cause_at packets one.place ≡ Some one.cause = is.cause in
    cc

some-cause : (x y : Cause) → ◌≡◌ {A = Option Cause} (Some x) (Some y) → x ≡ y
some-cause x y same = cc

broken-at : (place other : ℕ) (cause why : Cause) → place ≡ other → cause ≡ why → ◌≡◌ {A = Broken} (record { place = place; cause = cause }) (record { place = other; cause = why })
broken-at place other cause why same alike = ap (λ (n : ℕ). let b : Broken = record { place = n; cause = cause } in b) same ∙ ap (λ (c : Cause). let b : Broken = record { place = other; cause = c } in b) alike

one-break : (packets : List (List ℕ)) (place : ℕ) (one other : Broken) → IsBreak packets place one → IsBreak packets place other → one ≡ other
one-break packets place one other is also = elim (cases_order one.place other.place) [
  | inl same ↦ broken-at one.place other.place one.cause other.cause same (some-cause one.cause other.cause (sym is.cause ∙ ap (cause_at packets) same ∙ also.cause))
  | inr apart ↦ elim apart [
    | inl less ↦ absurd (earliest packets place one other is also less)
    | inr more ↦ absurd (earliest packets place other one also is more)
  ]
]

-- a run with no cause is not broken
not-broken : (packets : List (List ℕ)) (place : ℕ) (broken : Broken) → IsBreak packets place broken → HaveNoCause packets (run_start packets place) (suc place) → ⊥
not-broken packets place broken is none =
    let run : run_start packets broken.place ≡ run_start packets place = is.same_run in
    let within : broken.place ≤ place = is.within in
    let no : cause_at packets broken.place ≡ None = none broken.place (omega (arith, run, run_start-within packets broken.place)) (omega (arith, within)) in
    let some : cause_at packets broken.place ≡ Some broken.cause = is.cause in
    cc

broken-by : (packets : List (List ℕ)) (place : ℕ) (broken : Broken) (o : Option Outcome) (found : Outcome) → o ≡ Some found → Decided packets place found → IsBreak packets place broken → o ≡ Some (Err broken)
unfolding Decided
broken-by packets place broken o (Ok step) at so is = absurd (not-broken packets place broken is so)
broken-by packets place broken o (Err other) at so is = at ∙ ap (λ (b : Broken). let r : Option Outcome = Some (Err b) in r) (one-break packets place other broken so is)

pub refusals_by_bytes : OutlinesAreHeaders → RefusalsAreByBytes
unfolding Decided
refusals_by_bytes outlines tables packets place broken less =
    let some = has-outcome tables 0 (Ok None) packets place less in (
      λ at. decided outlines tables packets place (Err broken) at,
      λ is. broken-by packets place broken (slice_get (outcomes tables packets) place) some.0 some.1 (decided outlines tables packets place some.0 some.1) is,
    )

accepted-by : (packets : List (List ℕ)) (place : ℕ) (o : Option Outcome) (found : Outcome) → o ≡ Some found → Decided packets place found → HaveNoCause packets (run_start packets place) (suc place) → (step : State × PictureSamples) × (o ≡ Some (Ok step))
unfolding Decided
accepted-by packets place o (Ok step) at so none = (step, at)
accepted-by packets place o (Err broken) at so none = absurd (not-broken packets place broken so none)

pub accepts_by_bytes : OutlinesAreHeaders → AcceptsAreByBytes
unfolding Decided
accepts_by_bytes outlines tables packets place less =
    let some = has-outcome tables 0 (Ok None) packets place less in (
      λ found. decided outlines tables packets place (Ok found.0) found.1,
      λ none. accepted-by packets place (slice_get (outcomes tables packets) place) some.0 some.1 (decided outlines tables packets place some.0 some.1) none,
    )

-- ---- packets of one run

pub run_start-same : (packets : List (List ℕ)) (place k : ℕ) → run_start packets place ≤ k → k ≤ place → run_start packets k ≡ run_start packets place
run_start-same packets zero k low high = let first : k ≡ 0 = omega arith in ap (run_start packets) first
run_start-same packets (suc place) k low high = elim (cases_eq k (suc place)) [
  | inl same ↦ ap (run_start packets) same
  | inr other ↦
      let earlier : k ≤ place = omega (arith, high, other) in
      elim (cases_Bool (key_tag_at packets (suc place))) [
        | inl key ↦ absurd (omega (arith, run_start-key packets place key, low, earlier))
        | inr plain ↦ run_start-same packets place k (omega (arith, low, run_start-plain packets place plain)) earlier ∙ sym (run_start-plain packets place plain)
      ]
]
