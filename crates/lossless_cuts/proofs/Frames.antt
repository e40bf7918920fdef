-- The packets of one frame show its picture.
use Rattle.std.proofs.Common.{◌≡◌, ℕ, zero, suc, ◌+◌, ◌-◌, ◌≤◌, ◌<◌, max, ◌==◌, ◌||◌, Bool, true, false, not, cond, List, [], ◌∷◌, ◌++◌, length, take, drop, slice_get, Option, Some, None, Result, Ok, Err, refl, sym, ap, subst, ◌∙◌, arith, inl, inr, nat_lt, if◌then◌else◌}
use Rattle.std.specs.Prelude.{slice_range}
use Rattle.std.proofs.Math.Dec.{eqb-suc-zero}
use Rattle.std.proofs.lemmas.Bool.{and_parts, cases_Bool, cases_lt, eqb-true, ltb-true}
use Rattle.std.specs.Result.{result_unwrap_or}
use Rattle.vp8_tables.specs.declared.tables.Tables.{Tables}
use Rattle.frame_header.specs.Outlines.{OutlinesAreHeaders}
use Rattle.frame_header.specs.Tags.{has_key_tag, is_shown}
use Rattle.pixel_planes.specs.Pictures.{IsWholePicture, PictureSamples}
use Rattle.packet_edits.specs.Sizes.{key_tag_at}
use Rattle.packet_forge.specs.Laws.{AreBytes, AreUpdates, HasLast}
use Rattle.packet_forge.specs.Packets.{hold_of}
use Rattle.packet_forge.specs.declared.faults.ForgeFault.{ForgeFault}
use Rattle.reference_frames.specs.Steps.{step_of}
use Rattle.reference_frames.specs.declared.states.State.{State}
use Rattle.stream_steps.specs.Decoding.{outcomes}
use Rattle.stream_refusals.specs.GoodPictures.{HasBytes}
use Rattle.lossless_cuts.specs.Holds.{unbiased}
use Rattle.lossless_cuts.specs.Exports.{IsDecoded}
use Rattle.lossless_cuts.specs.declared.targets.Target.{Target}
use Rattle.lossless_cuts.specs.Plans.{continues, first_place, frame_packets, has_bytes, held, hidden, is_held, key_place, last_key, leaves_last, packet_at, place_after, repeats}
use Rattle.lossless_cuts.proofs.Keys.{IsLastKey, finds_at, finds_none, finds_key, key_place-is}
use Rattle.lossless_cuts.proofs.Leads.{Holds, Laws, Like, Ready, alike_as, alike_cleared, hold_like, other_is, ready_after, ready_key}
use Rattle.lossless_cuts.proofs.Plays.{Plays, plays_append, shown_before}
use Rattle.lossless_cuts.proofs.Runs.{FromKey, FromState, from_key, from_state, never_reached}
use Rattle.lossless_cuts.proofs.Views.{HasPictureSize, has_bytes-cons, last_is_picture, sized}

-- the state of an export after the packets of a frame
pub record Shown (tables : Tables) (own : Option State) (packets : List (List ℕ)) (picture : PictureSamples) (state : State) : Type 0 where
  pub last : Option State
  pub like : Like last (Some state)
  pub plays : Plays tables own packets (picture ∷ []) last

-- ---- one packet that is shown

plays_one : (tables : Tables) (own : Option State) (packet : List ℕ) (d : State × PictureSamples) → is_shown packet ≡ true → step_of tables own packet ≡ Ok d → Plays tables own (packet ∷ []) (d.1 ∷ []) (Some d.0)
plays_one tables own packet d shown is = record { d = d; later = []; is = is; shows = sym (ap (λ (b : Bool). shown_before b d.1 []) shown); onward = (refl, refl) }

plays_led : (tables : Tables) (own last after : Option State) (packets : List (List ℕ)) (packet : List ℕ) (picture : PictureSamples) → Plays tables own packets [] last → Plays tables last (packet ∷ []) (picture ∷ []) after → Plays tables own (packets ++ packet ∷ []) (picture ∷ []) after
plays_led tables own last after packets packet picture front back = plays_append tables own last after packets (packet ∷ []) [] (picture ∷ []) front back

-- ---- a hold

-- the last reference can be held if it is a picture that can
has_last : (state : State) (picture : PictureSamples) → state.references.last ≡ picture → HasBytes picture → HasLast state
has_last state picture last can = record {
  whole = subst IsWholePicture (sym last) can.whole;
  luma = subst (λ (p : PictureSamples). AreBytes p.luma) (sym last) can.luma;
  cb = subst (λ (p : PictureSamples). AreBytes p.cb) (sym last) can.cb;
  cr = subst (λ (p : PictureSamples). AreBytes p.cr) (sym last) can.cr;
}

-- a packet that is held in its place: a hold packet, or, if none can be forged, a dropped frame, which shows the last reference too
dropped_step : (tables : Tables) (state : State) → step_of tables (Some state) [] ≡ Ok (state, state.references.last)
unfolding step_of
dropped_step tables state = refl

none_forged : (tables : Tables) (own : Option State) (d : State × PictureSamples) → d.0.references.last ≡ d.1 → Like own (Some d.0) → Shown tables own ([] ∷ []) d.1 d.0
none_forged tables own d last (alike_as e) =
    let is : step_of tables own [] ≡ Ok (d.0, d.0.references.last) = ap (λ (s : Option State). step_of tables s []) e ∙ dropped_step tables d.0 in
    let one : Plays tables own ([] ∷ []) (d.0.references.last ∷ []) (Some d.0) = plays_one tables own [] (d.0, d.0.references.last) refl is in
    record { last = Some d.0; like = alike_as refl; plays = subst (λ (p : PictureSamples). Plays tables own ([] ∷ []) (p ∷ []) (Some d.0)) last one }
none_forged tables own d last (alike_cleared other e f) =
    let whole : other ≡ d.0 = other_is other d.0 e in
    let own_is : own ≡ Some (unbiased d.0) = f ∙ ap (λ (s : State). let o : Option State = Some (unbiased s) in o) whole in
    let is : step_of tables own [] ≡ Ok (unbiased d.0, d.0.references.last) = ap (λ (s : Option State). step_of tables s []) own_is ∙ dropped_step tables (unbiased d.0) in
    let one : Plays tables own ([] ∷ []) (d.0.references.last ∷ []) (Some (unbiased d.0)) = plays_one tables own [] (unbiased d.0, d.0.references.last) refl is in
    record { last = Some (unbiased d.0); like = alike_cleared d.0 refl refl; plays = subst (λ (p : PictureSamples). Plays tables own ([] ∷ []) (p ∷ []) (Some (unbiased d.0))) last one }

one_forged : Laws → (tables : Tables) (own : Option State) (target : Target) (d : State × PictureSamples) (packet : List ℕ) → AreUpdates tables → HasBytes d.1 → hold_of tables target.width target.height ≡ Ok packet → HasPictureSize d → d.1.width ≡ target.width → d.1.height ≡ target.height → d.0.references.last ≡ d.1
    → Like own (Some d.0) → Shown tables own (packet ∷ []) d.1 d.0
one_forged laws tables own target d packet updates bytes made size wide high last like =
    let forged : hold_of tables d.0.references.last.width d.0.references.last.height ≡ Ok packet =
    ap (λ (w : ℕ). hold_of tables w d.0.references.last.height) (size.wide ∙ wide) ∙ ap (λ (h : ℕ). hold_of tables target.width h) (size.high ∙ high) ∙ made in
    let h : Holds tables own d.0 packet = hold_like laws tables own d.0 packet updates (has_last d.0 d.1 last bytes) like forged in
    let one : Plays tables own (packet ∷ []) (d.0.references.last ∷ []) (Some (unbiased d.0)) = plays_one tables own packet (unbiased d.0, d.0.references.last) h.shown h.is in
    record { last = Some (unbiased d.0); like = alike_cleared d.0 refl refl; plays = subst (λ (p : PictureSamples). Plays tables own (packet ∷ []) (p ∷ []) (Some (unbiased d.0))) last one }

-- the packet that holds a frame whose picture is the last reference
held_by : Laws → (tables : Tables) (own : Option State) (target : Target) (d : State × PictureSamples) (made : Result (List ℕ) ForgeFault) → hold_of tables target.width target.height ≡ made → AreUpdates tables → HasBytes d.1 → HasPictureSize d → d.1.width ≡ target.width → d.1.height ≡ target.height
    → d.0.references.last ≡ d.1 → Like own (Some d.0) → Shown tables own (result_unwrap_or made [] ∷ []) d.1 d.0
held_by laws tables own target d (Ok packet) is updates bytes size wide high last like = one_forged laws tables own target d packet updates bytes is size wide high last like
held_by laws tables own target d (Err fault) is updates bytes size wide high last like = none_forged tables own d last like

hold_shown : Laws → (tables : Tables) (own : Option State) (target : Target) (d : State × PictureSamples) → AreUpdates tables → HasBytes d.1 → HasPictureSize d → d.1.width ≡ target.width → d.1.height ≡ target.height → d.0.references.last ≡ d.1 → Like own (Some d.0)
    → Shown tables own (held tables target ∷ []) d.1 d.0
hold_shown laws tables own target d updates bytes size wide high last like = held_by laws tables own target d (hold_of tables target.width target.height) refl updates bytes size wide high last like

-- ---- the packet at an index

pub packet-is : (packets : List (List ℕ)) (place : ℕ) (packet : List ℕ) → slice_get packets place ≡ Some packet → packet_at packets place ≡ packet
packet-is [] place packet here = cc
packet-is (x ∷ packets) zero packet here = let same : x ≡ packet = cc in same
packet-is (x ∷ packets) (suc place) packet here = packet-is packets place packet here

-- ---- where the lead begins

by_left : (packets : List (List ℕ)) (k n : ℕ) (packet : List ℕ) → slice_get packets (k + n) ≡ Some packet → key_tag_at (take n (drop k packets) ++ packet ∷ []) 0 ≡ key_tag_at packets k
by_left [] k n packet here = cc
by_left (x ∷ packets) zero zero packet here = let same : x ≡ packet = cc in ap has_key_tag (sym same)
by_left (x ∷ packets) zero (suc n) packet here = refl
by_left (x ∷ packets) (suc k) n packet here =
    let moved : suc (k + n) ≡ suc k + n = omega arith in
    by_left packets k n packet (ap (λ (m : ℕ). slice_get (x ∷ packets) m) moved ∙ here)

-- the first packet of a range that ends with the packet of the frame
range_first : (packets : List (List ℕ)) (k p : ℕ) (packet : List ℕ) → k ≤ p → slice_get packets p ≡ Some packet → key_tag_at (take (p - k) (drop k packets) ++ packet ∷ []) 0 ≡ key_tag_at packets k
range_first packets k p packet low here =
    let whole : k + (p - k) ≡ p = omega arith in
    by_left packets k (p - k) packet (ap (λ (n : ℕ). slice_get packets n) whole ∙ here)

-- ---- the lead and the packet of the frame

-- the frame before was accepted, and the export's state is like the one after it
pub record After (tables : Tables) (own : Option State) (packets : List (List ℕ)) (before : Target) : Type 0 where
  pub e : State × PictureSamples
  pub accepted : slice_get (outcomes tables packets) before.place ≡ Some (Ok e)
  pub like : Like own (Some e.0)

-- the packet of a frame, and its outcome
record Own (tables : Tables) (packets : List (List ℕ)) (target : Target) : Type 0 where
  packet : List ℕ
  d : State × PictureSamples
  here : slice_get packets target.place ≡ Some packet
  accepted : slice_get (outcomes tables packets) target.place ≡ Some (Ok d)

from_last : (tables : Tables) (packets : List (List ℕ)) (target : Target) (own : Own tables packets target) (k : ℕ) → IsLastKey packets (suc target.place) k → FromKey tables (take (target.place - k) (drop k packets)) own.packet own.d
from_last tables packets target own k last =
    let below : k < suc target.place = last.below in
    from_key tables packets k target.place own.packet own.d (omega arith) last.key (λ j low high. last.none j low (omega (arith, high))) own.here own.accepted

key_ready : Laws → (tables : Tables) (mine : Option State) (packets : List (List ℕ)) (target : Target) (own : Own tables packets target) (k : ℕ) → IsLastKey packets (suc target.place) k → Ready tables mine (slice_range packets k target.place) own.packet own.d
key_ready laws tables mine packets target own k last =
    let below : k < suc target.place = last.below in
    let key : key_tag_at (take (target.place - k) (drop k packets) ++ own.packet ∷ []) 0 ≡ true = range_first packets k target.place own.packet (omega arith) own.here ∙ last.key in
    ready_key laws tables mine (take (target.place - k) (drop k packets)) own.packet own.d key (from_last tables packets target own k last)

-- where it begins
first_off : (packets : List (List ℕ)) (before : Option Target) (target : Target) (k : ℕ) → continues before target ≡ false → last_key packets (suc target.place) ≡ Some k → first_place packets before target ≡ k
first_off packets before target k off is =
    ap (λ (c : Bool). cond c (max (place_after before) (key_place packets target.place)) (key_place packets target.place)) off ∙ key_place-is packets target.place k is

first_on : (packets : List (List ℕ)) (before target : Target) (k : ℕ) → continues (Some before) target ≡ true → last_key packets (suc target.place) ≡ Some k → first_place packets (Some before) target ≡ max (suc before.place) k
first_on packets before target k on is =
    ap (λ (c : Bool). cond c (max (suc before.place) (key_place packets target.place)) (key_place packets target.place)) on ∙ ap (max (suc before.place)) (key_place-is packets target.place k is)

ready_from : Laws → (tables : Tables) (mine : Option State) (packets : List (List ℕ)) (target : Target) (own : Own tables packets target) (start k : ℕ) → start ≡ k → Ready tables mine (slice_range packets k target.place) own.packet own.d → Ready tables mine (slice_range packets start target.place) own.packet own.d
ready_from laws tables mine packets target own start k is r = subst (λ (s : ℕ). Ready tables mine (take (target.place - s) (drop s packets)) own.packet own.d) (sym is) r

ready_on : Laws → (tables : Tables) (mine : Option State) (packets : List (List ℕ)) (before target : Target) (own : Own tables packets target) (k : ℕ) → continues (Some before) target ≡ true → last_key packets (suc target.place) ≡ Some k → IsLastKey packets (suc target.place) k → After tables mine packets before
    → Ready tables mine (slice_range packets (first_place packets (Some before) target) target.place) own.packet own.d
ready_on laws tables mine packets before target own k on is last earlier =
    let less : before.place < target.place = ltb-true before.place target.place (and_parts (before.source == target.source) (nat_lt before.place target.place) on).1 in
    let first : first_place packets (Some before) target ≡ max (suc before.place) k = first_on packets before target k on is in
    elim (cases_lt before.place k) [
      | inl key_later ↦
          let right : max (suc before.place) k ≡ k = omega (arith, key_later) in
          ready_from laws tables mine packets target own (first_place packets (Some before) target) k (first ∙ right) (key_ready laws tables mine packets target own k last)
      | inr key_earlier ↦
          let left : max (suc before.place) k ≡ suc before.place = omega (arith, key_earlier) in
          let from : FromState tables earlier.e.0 (take (target.place - suc before.place) (drop (suc before.place) packets)) own.packet own.d =
          from_state tables packets before.place target.place own.packet earlier.e own.d less (λ j low high. last.none j (omega (arith, low, key_earlier)) (omega (arith, high))) own.here earlier.accepted own.accepted in
          ready_from laws tables mine packets target own (first_place packets (Some before) target) (suc before.place) (first ∙ left)
          (ready_after laws tables mine earlier.e.0 (take (target.place - suc before.place) (drop (suc before.place) packets)) own.packet own.d earlier.like from)
    ]

-- what is known of the frame before, if it is of the same source
abbrev pub Knows : Tables → Option State → List (List ℕ) → Option Target → Target → Type 0
Knows tables mine packets before target = (b : Target) → before ≡ Some b → b.source ≡ target.source → After tables mine packets b

ready_by : Laws → (tables : Tables) (mine : Option State) (packets : List (List ℕ)) (before : Option Target) (target : Target) (own : Own tables packets target) (k : ℕ) (on : Bool) → continues before target ≡ on → last_key packets (suc target.place) ≡ Some k → IsLastKey packets (suc target.place) k → Knows tables mine packets before target
    → Ready tables mine (slice_range packets (first_place packets before target) target.place) own.packet own.d
ready_by laws tables mine packets before target own k false off is last knows =
    ready_from laws tables mine packets target own (first_place packets before target) k (first_off packets before target k off is) (key_ready laws tables mine packets target own k last)
ready_by laws tables mine packets None target own k true on is last knows = cc
ready_by laws tables mine packets (Some before) target own k true on is last knows =
    let source : before.source ≡ target.source = eqb-true before.source target.source (and_parts (before.source == target.source) (nat_lt before.place target.place) on).0 in
    ready_on laws tables mine packets before target own k on is last (knows before refl source)

ready : Laws → (tables : Tables) (mine : Option State) (packets : List (List ℕ)) (before : Option Target) (target : Target) (own : Own tables packets target) → Knows tables mine packets before target
    → Ready tables mine (slice_range packets (first_place packets before target) target.place) own.packet own.d
ready laws tables mine packets before target own knows = elim (finds_key packets (suc target.place)) [
  | finds_at k is last ↦ ready_by laws tables mine packets before target own k (continues before target) refl is last knows
  | finds_none is none ↦ absurd (never_reached tables packets target.place own.packet own.d (λ j low. none j (omega (arith, low))) own.here own.accepted)
]

-- some step has this outcome
record AnyStep (tables : Tables) (packet : List ℕ) (d : State × PictureSamples) : Type 0 where
  from : Option State
  is : step_of tables from packet ≡ Ok d

any_step : (tables : Tables) (packets : List (List ℕ)) (target : Target) (own : Own tables packets target) → AnyStep tables own.packet own.d
any_step tables packets target own = elim (finds_key packets (suc target.place)) [
  | finds_at k is last ↦ let f = from_last tables packets target own k last in record { from = f.state; is = f.is }
  | finds_none is none ↦ absurd (never_reached tables packets target.place own.packet own.d (λ j low. none j (omega (arith, low))) own.here own.accepted)
]

-- ---- the packets of a frame

frame-held : (tables : Tables) (packets : List (List ℕ)) (before : Option Target) (target : Target) → is_held packets before target ≡ true → frame_packets tables packets before target ≡ held tables target ∷ []
frame-held tables packets before target is =
    ap (λ (b : Bool). (if b then [] else hidden (slice_range packets (first_place packets before target) target.place)) ++ (if b || not (has_bytes (packet_at packets target.place)) then held tables target else packet_at packets target.place) ∷ []) is

frame-free : (tables : Tables) (packets : List (List ℕ)) (before : Option Target) (target : Target) (bytes : Bool) → is_held packets before target ≡ false → has_bytes (packet_at packets target.place) ≡ bytes
    → frame_packets tables packets before target ≡ hidden (slice_range packets (first_place packets before target) target.place) ++ (if not bytes then held tables target else packet_at packets target.place) ∷ []
frame-free tables packets before target bytes off is =
    ap (λ (b : Bool). (if b then [] else hidden (slice_range packets (first_place packets before target) target.place)) ++ (if b || not (has_bytes (packet_at packets target.place)) then held tables target else packet_at packets target.place) ∷ []) off
    ∙ ap (λ (b : Bool). hidden (slice_range packets (first_place packets before target) target.place) ++ (if not b then held tables target else packet_at packets target.place) ∷ []) is

empty_is : (packet : List ℕ) → has_bytes packet ≡ false → packet ≡ []
empty_is [] none = refl
empty_is (byte ∷ bytes) none = let some : has_bytes (byte ∷ bytes) ≡ true = has_bytes-cons byte bytes in cc

some_is : (packet : List ℕ) → has_bytes packet ≡ true → (length packet == 0) ≡ false
some_is [] some = cc
some_is (byte ∷ bytes) some = eqb-suc-zero (length bytes)

abbrev own_of : (tables : Tables) (packets : List (List ℕ)) (target : Target) (picture : PictureSamples) → IsDecoded tables packets target picture → Own tables packets target
own_of tables packets target picture h = record { packet = h.packet; d = (h.state, picture); here = h.here; accepted = h.accepted }

held_case : Laws → OutlinesAreHeaders → (tables : Tables) (mine : Option State) (packets : List (List ℕ)) (before : Option Target) (target : Target) (picture : PictureSamples) → AreUpdates tables → (h : IsDecoded tables packets target picture) → is_held packets before target ≡ true → Like mine (Some h.state)
    → Shown tables mine (frame_packets tables packets before target) picture h.state
held_case laws outlines tables mine packets before target picture updates h is like =
    let d : State × PictureSamples = (h.state, picture) in
    let step : AnyStep tables h.packet d = any_step tables packets target (own_of tables packets target picture h) in
    let parts = and_parts (repeats before target) (leaves_last (packet_at packets target.place)) is in
    let leaves : leaves_last h.packet ≡ true = ap leaves_last (sym (packet-is packets target.place h.packet h.here)) ∙ parts.1 in
    let last : h.state.references.last ≡ picture = last_is_picture outlines tables step.from h.packet d leaves step.is in
    let one : Shown tables mine (held tables target ∷ []) picture h.state = hold_shown laws tables mine target d updates h.bytes (sized tables step.from h.packet d step.is) h.wide h.high last like in
    record { last = one.last; like = one.like; plays = subst (λ (ps : List (List ℕ)). Plays tables mine ps (picture ∷ []) one.last) (sym (frame-held tables packets before target is)) one.plays }

bytes_case : Laws → (tables : Tables) (mine : Option State) (packets : List (List ℕ)) (before : Option Target) (target : Target) (picture : PictureSamples) → (h : IsDecoded tables packets target picture) → is_held packets before target ≡ false → has_bytes h.packet ≡ true
    → Ready tables mine (slice_range packets (first_place packets before target) target.place) h.packet (h.state, picture) → Shown tables mine (frame_packets tables packets before target) picture h.state
bytes_case laws tables mine packets before target picture h off bytes r =
    let d : State × PictureSamples = (h.state, picture) in
    let at : packet_at packets target.place ≡ h.packet = packet-is packets target.place h.packet h.here in
    let one : Plays tables r.last (h.packet ∷ []) (picture ∷ []) (Some h.state) = plays_one tables r.last h.packet d h.shown (r.is (some_is h.packet bytes)) in
    let all : Plays tables mine (hidden (slice_range packets (first_place packets before target) target.place) ++ h.packet ∷ []) (picture ∷ []) (Some h.state) = plays_led tables mine r.last (Some h.state) (hidden (slice_range packets (first_place packets before target) target.place)) h.packet picture r.plays one in
    let is : frame_packets tables packets before target ≡ hidden (slice_range packets (first_place packets before target) target.place) ++ h.packet ∷ [] =
    frame-free tables packets before target true off (ap has_bytes at ∙ bytes) ∙ ap (λ (p : List ℕ). hidden (slice_range packets (first_place packets before target) target.place) ++ p ∷ []) at in
    record {
      last = Some h.state;
      like = alike_as refl;
      plays = subst (λ (ps : List (List ℕ)). Plays tables mine ps (picture ∷ []) (Some h.state)) (sym is) all;
    }

dropped_case : Laws → (tables : Tables) (mine : Option State) (packets : List (List ℕ)) (before : Option Target) (target : Target) (picture : PictureSamples) → AreUpdates tables → (h : IsDecoded tables packets target picture) → is_held packets before target ≡ false → has_bytes h.packet ≡ false
    → Ready tables mine (slice_range packets (first_place packets before target) target.place) h.packet (h.state, picture) → Shown tables mine (frame_packets tables packets before target) picture h.state
dropped_case laws tables mine packets before target picture updates h off none r =
    let d : State × PictureSamples = (h.state, picture) in
    let at : packet_at packets target.place ≡ h.packet = packet-is packets target.place h.packet h.here in
    let step : AnyStep tables h.packet d = any_step tables packets target (own_of tables packets target picture h) in
    let known = r.dropped (empty_is h.packet none) in
    let one : Shown tables r.last (held tables target ∷ []) picture h.state = hold_shown laws tables r.last target d updates h.bytes (sized tables step.from h.packet d step.is) h.wide h.high known.1 known.0 in
    let all : Plays tables mine (hidden (slice_range packets (first_place packets before target) target.place) ++ held tables target ∷ []) (picture ∷ []) one.last = plays_led tables mine r.last one.last (hidden (slice_range packets (first_place packets before target) target.place)) (held tables target) picture r.plays one.plays in
    let is : frame_packets tables packets before target ≡ hidden (slice_range packets (first_place packets before target) target.place) ++ held tables target ∷ [] = frame-free tables packets before target false off (ap has_bytes at ∙ none) in
    record { last = one.last; like = one.like; plays = subst (λ (ps : List (List ℕ)). Plays tables mine ps (picture ∷ []) one.last) (sym is) all }

-- a frame that is held has the outcome of the frame before
same_outcome : (tables : Tables) (packets : List (List ℕ)) (p q : ℕ) (e d : State × PictureSamples) → q ≡ p → slice_get (outcomes tables packets) q ≡ Some (Ok e) → slice_get (outcomes tables packets) p ≡ Some (Ok d) → e ≡ d
same_outcome tables packets p q e d same first second =
    let at : slice_get (outcomes tables packets) p ≡ Some (Ok e) = ap (λ (n : ℕ). slice_get (outcomes tables packets) n) (sym same) ∙ first in
    cc

held_like : (tables : Tables) (mine : Option State) (packets : List (List ℕ)) (before : Option Target) (target : Target) (picture : PictureSamples) → (h : IsDecoded tables packets target picture) → repeats before target ≡ true → Knows tables mine packets before target → Like mine (Some h.state)
held_like tables mine packets None target picture h again knows = cc
held_like tables mine packets (Some before) target picture h again knows =
    let parts = and_parts (before.source == target.source) (before.place == target.place) again in
    let source : before.source ≡ target.source = eqb-true before.source target.source parts.0 in
    let place : before.place ≡ target.place = eqb-true before.place target.place parts.1 in
    let earlier : After tables mine packets before = knows before refl source in
    let same : earlier.e ≡ (h.state, picture) = same_outcome tables packets target.place before.place earlier.e (h.state, picture) place earlier.accepted h.accepted in
    subst (λ (e : State × PictureSamples). Like mine (Some e.0)) same earlier.like

pub frame_shown : Laws → OutlinesAreHeaders → (tables : Tables) (mine : Option State) (packets : List (List ℕ)) (before : Option Target) (target : Target) (picture : PictureSamples) → AreUpdates tables → (h : IsDecoded tables packets target picture) → Knows tables mine packets before target
    → Shown tables mine (frame_packets tables packets before target) picture h.state
frame_shown laws outlines tables mine packets before target picture updates h knows = elim (cases_Bool (is_held packets before target)) [
  | inl is ↦
      let again : repeats before target ≡ true = (and_parts (repeats before target) (leaves_last (packet_at packets target.place)) is).0 in
      held_case laws outlines tables mine packets before target picture updates h is (held_like tables mine packets before target picture h again knows)
  | inr off ↦
      let r = ready laws tables mine packets before target (own_of tables packets target picture h) knows in
      elim (cases_Bool (has_bytes h.packet)) [
        | inl bytes ↦ bytes_case laws tables mine packets before target picture h off bytes r
        | inr none ↦ dropped_case laws tables mine packets before target picture updates h off none r
      ]
]
