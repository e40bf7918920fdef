-- The facts of packets report the outcomes of decoding.
use Rattle.std.proofs.Common.{◌≡◌, ℕ, zero, suc, ◌+◌, ◌<◌, ◌==◌, ◌&&◌, ◌||◌, Bool, true, false, not, cond, List, [], ◌∷◌, length, slice_get, Option, Some, None, Result, Ok, Err, refl, sym, ap, subst, ◌∙◌, arith, inl, inr, add-zero, if◌then◌else◌}
use Rattle.std.specs.Prelude.{IsOk, is_ok, is_some}
use Rattle.std.specs.Result.{result_err}
use Rattle.std.proofs.Math.Dec.{eqb-suc-zero}
use Rattle.std.proofs.lemmas.Bool.{cases_Bool}
use Rattle.vp8_tables.specs.declared.tables.Tables.{Tables}
use Rattle.frame_header.specs.Outlines.{OutlinesAreHeaders, outline_of, outlined}
use Rattle.frame_header.specs.Padding.{zero_context}
use Rattle.frame_header.specs.Tags.{has_key_tag}
use Rattle.frame_header.specs.declared.cause.Cause.{Cause}
use Rattle.frame_header.specs.declared.cause.Cause.TheVariants.{NoKeyFrame}
use Rattle.frame_header.specs.declared.outline.Outline.{Outline}
use Rattle.frame_header.proofs.KeyLemmas.{header_of-key}
use Rattle.pixel_planes.specs.Pictures.{PictureSamples}
use Rattle.reference_frames.specs.Steps.{step_of}
use Rattle.reference_frames.specs.declared.states.State.{State}
use Rattle.stream_files.specs.declared.packets.Packet.{Packet}
use Rattle.stream_facts.specs.Facts.{facts_from, facts_of, fields_in, first_position, follows_after, follows_by, header_facts, position_after, repeated}
use Rattle.stream_facts.specs.declared.facts.Facts.{Facts}
use Rattle.stream_facts.specs.declared.facts.Position.{Position}
use Rattle.stream_steps.specs.Decoding.{Outcome, Progress, following, left_by, outcome, outcomes_from, reported_at}
use Rattle.stream_refusals.specs.Refusals.{cause_against}
use Rattle.stream_refusals.proofs.Refused.{step-cause}
use Rattle.stream_checks.specs.Packets.{bytes_of}
use Rattle.refusal_reports.specs.Reports.{FactsAreDecoded, Report}

abbrev Step : Type 0
Step = Result (State × PictureSamples) Cause

-- ---- the cause of a header

header-if : (b : Bool) (x y : Result (Option Outline) Cause) → result_err (if b then x else y) ≡ (if b then result_err x else result_err y)
header-if true x y = refl
header-if false x y = refl

repeated-cause : (follows : Bool) → result_err (repeated follows) ≡ (if follows then None else Some NoKeyFrame)
repeated-cause true = refl
repeated-cause false = refl

fields-cause : (outline : Result Outline Cause) → result_err (fields_in outline) ≡ result_err outline
fields-cause (Ok outline) = refl
fields-cause (Err cause) = refl

header-cause : (follows : Bool) (bytes : List ℕ) → result_err (header_facts follows bytes) ≡ cause_against follows bytes
header-cause follows bytes =
    let empty : Bool = length bytes == 0 in
    header-if empty (repeated follows) (fields_in (outline_of follows bytes))
    ∙ ap (λ (c : Option Cause). if empty then c else result_err (fields_in (outline_of follows bytes))) (repeated-cause follows)
    ∙ ap (λ (c : Option Cause). if empty then (if follows then None else Some NoKeyFrame) else c) (fields-cause (outline_of follows bytes))

-- of a packet with a key tag it is the same whatever came before
outline-key : OutlinesAreHeaders → (tables : Tables) (follows : Bool) (bytes : List ℕ) → has_key_tag bytes ≡ true → outline_of follows bytes ≡ outline_of false bytes
outline-key outlines tables false bytes key = refl
outline-key outlines tables true bytes key = sym (outlines tables (Some zero_context) bytes) ∙ ap outlined (header_of-key tables (Some zero_context) bytes key) ∙ outlines tables None bytes

has-bytes : (bytes : List ℕ) → has_key_tag bytes ≡ true → (length bytes == 0) ≡ false
has-bytes [] key = cc
has-bytes (byte ∷ bytes) key = eqb-suc-zero (length bytes)

cause-key : OutlinesAreHeaders → (tables : Tables) (follows : Bool) (bytes : List ℕ) → has_key_tag bytes ≡ true → cause_against follows bytes ≡ cause_against false bytes
cause-key outlines tables follows bytes key =
    let some : (length bytes == 0) ≡ false = has-bytes bytes key in
    let plain : (f : Bool) → cause_against f bytes ≡ result_err (outline_of f bytes) = λ f. ap (λ (b : Bool). cond b (if f then None else Some NoKeyFrame) (result_err (outline_of f bytes))) some in
    plain follows ∙ ap result_err (outline-key outlines tables follows bytes key) ∙ sym (plain false)

-- ---- what follows

by-outline : (follows : Bool) (outline : Result Outline Cause) → result_err (fields_in outline) ≡ None → follows_by follows outline ≡ true
by-outline follows (Ok outline) none = refl
by-outline follows (Err cause) none = cc

by-repeat : (follows : Bool) → result_err (repeated follows) ≡ None → follows ≡ true
by-repeat true none = refl
by-repeat false none = cc

by-empty : (empty follows : Bool) (outline : Result Outline Cause) → result_err (if empty then repeated follows else fields_in outline) ≡ None → (if empty then follows else follows_by follows outline) ≡ true
by-empty true follows outline none = by-repeat follows none
by-empty false follows outline none = by-outline follows outline none

follows-accepted : (follows : Bool) (bytes : List ℕ) → result_err (header_facts follows bytes) ≡ None → follows_after follows bytes ≡ true
follows-accepted follows bytes none = by-empty (length bytes == 0) follows (outline_of follows bytes) none

-- ---- one packet

-- the position before a packet, and what decoding has there
Agree : ℕ → Position → Progress → Type 0
Agree place position (Ok state) = (position.is_broken ≡ false) × (position.follows ≡ is_some state)
Agree place position (Err broken) = (position.is_broken ≡ true) × (broken.place < place)

record Agrees (place : ℕ) (position : Position) (packet : Packet) (found : Outcome) : Type 0 where
  report : Report place (facts_of position packet) found
  after : Agree (place + 1) (position_after position packet) (left_by found)

ok-header : (header : Result (Option Outline) Cause) → result_err header ≡ None → IsOk header
ok-header (Ok fields) none = refl
ok-header (Err cause) none = cc

ok-test : (header : Result (Option Outline) Cause) → result_err header ≡ None → not (is_ok header) ≡ false
ok-test (Ok fields) none = refl
ok-test (Err cause) none = cc

err-header : (header : Result (Option Outline) Cause) (cause : Cause) → result_err header ≡ Some cause → header ≡ Err cause
err-header (Ok fields) cause some = cc
err-header (Err why) cause some = let same : why ≡ cause = cc in ap (λ (c : Cause). let r : Result (Option Outline) Cause = Err c in r) same

-- a packet that is not lost
own : (place : ℕ) (position : Position) (packet : Packet) (step : Step) → position.is_broken && not (has_key_tag packet.bytes) ≡ false → result_err (header_facts position.follows packet.bytes) ≡ result_err step → Agrees place position packet (reported_at place step)
unfolding Agree
own place position packet (Ok step) kept cause = record {
  report = (kept, ok-header (header_facts position.follows packet.bytes) cause);
  after = (
    ap (λ (b : Bool). b || not (is_ok (header_facts position.follows packet.bytes))) kept ∙ ok-test (header_facts position.follows packet.bytes) cause,
    follows-accepted position.follows packet.bytes cause,
  );
}
own place position packet (Err why) kept cause =
    let header : header_facts position.follows packet.bytes ≡ Err why = err-header (header_facts position.follows packet.bytes) why cause in
    record {
      report = inl (kept, refl, header);
      after = (ap (λ (b : Bool). b || not (is_ok (header_facts position.follows packet.bytes))) kept ∙ ap (λ (r : Result (Option Outline) Cause). not (is_ok r)) header, omega arith);
    }

and-false : (b : Bool) → b && false ≡ false
and-false true = refl
and-false false = refl

either : (tables : Tables) (place : ℕ) (progress : Progress) (bytes : List ℕ) (key : Bool) → has_key_tag bytes ≡ key → outcome tables place progress bytes ≡ cond key (reported_at place (step_of tables None bytes)) (following tables place progress bytes)
either tables place progress bytes key is = ap (λ (b : Bool). cond b (reported_at place (step_of tables None bytes)) (following tables place progress bytes)) is

key-packet : OutlinesAreHeaders → (tables : Tables) (place : ℕ) (position : Position) (packet : Packet) → has_key_tag packet.bytes ≡ true → Agrees place position packet (reported_at place (step_of tables None packet.bytes))
key-packet outlines tables place position packet key =
    own place position packet (step_of tables None packet.bytes) (ap (λ (b : Bool). position.is_broken && not b) key ∙ and-false position.is_broken)
    (header-cause position.follows packet.bytes ∙ cause-key outlines tables position.follows packet.bytes key ∙ sym (step-cause outlines tables None packet.bytes))

later-packet : OutlinesAreHeaders → (tables : Tables) (place : ℕ) (position : Position) (progress : Progress) (packet : Packet) → has_key_tag packet.bytes ≡ false → Agree place position progress → Agrees place position packet (following tables place progress packet.bytes)
unfolding Agree
later-packet outlines tables place position (Ok state) packet plain agree =
    own place position packet (step_of tables state packet.bytes) (ap (λ (b : Bool). b && not (has_key_tag packet.bytes)) agree.0)
    (header-cause position.follows packet.bytes ∙ ap (λ (b : Bool). cause_against b packet.bytes) agree.1 ∙ sym (step-cause outlines tables state packet.bytes))
later-packet outlines tables place position (Err broken) packet plain agree =
    let lost : position.is_broken && not (has_key_tag packet.bytes) ≡ true = ap (λ (b : Bool). b && not (has_key_tag packet.bytes)) agree.0 ∙ ap not plain in
    let less : broken.place < place = agree.1 in
    record {
      report = inr (lost, less);
      after = (ap (λ (b : Bool). b || not (is_ok (header_facts position.follows packet.bytes))) lost, omega (arith, less));
    }

one : OutlinesAreHeaders → (tables : Tables) (place : ℕ) (position : Position) (progress : Progress) (packet : Packet) → Agree place position progress → Agrees place position packet (outcome tables place progress packet.bytes)
one outlines tables place position progress packet agree = elim (cases_Bool (has_key_tag packet.bytes)) [
  | inl key ↦ subst (Agrees place position packet) (sym (either tables place progress packet.bytes true key)) (key-packet outlines tables place position packet key)
  | inr plain ↦ subst (Agrees place position packet) (sym (either tables place progress packet.bytes false plain)) (later-packet outlines tables place position progress packet plain agree)
]

same-facts : (x y : Facts) → ◌≡◌ {A = Option Facts} (Some x) (Some y) → x ≡ y
same-facts x y same = cc

same-outcome : (x y : Outcome) → ◌≡◌ {A = Option Outcome} (Some x) (Some y) → x ≡ y
same-outcome x y same = cc

all : OutlinesAreHeaders → (tables : Tables) (place : ℕ) (position : Position) (progress : Progress) (packets : List Packet) (i : ℕ) (facts : Facts) (found : Outcome) → Agree place position progress
    → slice_get (facts_from position packets) i ≡ Some facts → slice_get (outcomes_from tables place progress (bytes_of packets)) i ≡ Some found → Report (place + i) facts found
all outlines tables place position progress [] i facts found agree here at = cc
all outlines tables place position progress (packet ∷ packets) zero facts found agree here at =
    let first : Report place (facts_of position packet) (outcome tables place progress packet.bytes) = (one outlines tables place position progress packet agree).report in
    let own_facts : Report place facts (outcome tables place progress packet.bytes) = subst (λ (f : Facts). Report place f (outcome tables place progress packet.bytes)) (same-facts (facts_of position packet) facts here) first in
    let own_outcome : Report place facts found = subst (Report place facts) (same-outcome (outcome tables place progress packet.bytes) found at) own_facts in
    subst (λ (n : ℕ). Report n facts found) (sym (add-zero place)) own_outcome
all outlines tables place position progress (packet ∷ packets) (suc i) facts found agree here at =
    let moved : place + 1 + i ≡ place + suc i = omega arith in
    subst (λ (n : ℕ). Report n facts found) moved
    (all outlines tables (place + 1) (position_after position packet) (left_by (outcome tables place progress packet.bytes)) packets i facts found (one outlines tables place position progress packet agree).after here at)

pub facts_decoded : OutlinesAreHeaders → FactsAreDecoded
unfolding Agree
facts_decoded outlines tables begins packets place facts found here at =
    let moved : 0 + place ≡ place = omega arith in
    subst (λ (n : ℕ). Report n facts found) moved (all outlines tables 0 (first_position begins) (Ok None) packets place facts found (refl, refl) here at)
