-- Padded packets show what the packets show.
use Rattle.std.proofs.Common.{◌≡◌, ℕ, ◌+◌, ◌≤◌, Bool, cond, List, [], ◌∷◌, length, slice_get, None, Result, Ok, Err, refl, sym, ap, ◌∙◌, inl, inr, if◌then◌else◌}
use Rattle.std.specs.Prelude.{option_and_then}
use Rattle.std.proofs.lemmas.Bool.{cases_Bool}
use Rattle.vp8_tables.specs.declared.tables.Tables.{Tables}
use Rattle.frame_header.specs.Padding.{ShownIsKept, ends_empty, padded, with_zero}
use Rattle.frame_header.specs.Tags.{has_key_tag, is_shown}
use Rattle.frame_header.specs.declared.cause.Cause.{Cause}
use Rattle.frame_header.proofs.PartitionLemmas.{ends_has_tag}
use Rattle.packet_edits.specs.Shown.{shown_from, shown_indexes}
use Rattle.pixel_planes.specs.Pictures.{PictureSamples}
use Rattle.reference_frames.specs.StepLaws.{PaddingKeepsSteps}
use Rattle.reference_frames.specs.Steps.{step_of}
use Rattle.reference_frames.specs.declared.states.State.{State}
use Rattle.stream_steps.specs.Decoding.{Outcome, Progress, following, left_by, outcome, outcomes, outcomes_from, reported_at}
use Rattle.lossless_cuts.specs.Exports.{ShowsExactly, outcome_shown}
use Rattle.lossless_cuts.specs.Plans.{written}

-- a test of packets with a tag that a byte 00 after them leaves
test-padded : (test : List ℕ → Bool) → ((packet : List ℕ) → 3 ≤ length packet → test (with_zero packet) ≡ test packet) → (packet : List ℕ) → test (padded packet) ≡ test packet
test-padded test same packet = elim (cases_Bool (ends_empty packet)) [
  | inl ends ↦ ap (λ (b : Bool). test (cond b (with_zero packet) packet)) ends ∙ same packet (ends_has_tag packet ends)
  | inr plain ↦ ap (λ (b : Bool). test (cond b (with_zero packet) packet)) plain
]

key-padded : ShownIsKept → (packet : List ℕ) → has_key_tag (padded packet) ≡ has_key_tag packet
key-padded kept packet = test-padded has_key_tag (λ p enough. (kept p enough).0) packet

shown-padded : ShownIsKept → (packet : List ℕ) → is_shown (padded packet) ≡ is_shown packet
shown-padded kept packet = test-padded is_shown (λ p enough. (kept p enough).1) packet

shown_from-padded : ShownIsKept → (place : ℕ) (packets : List (List ℕ)) → shown_from place (written packets) ≡ shown_from place packets
shown_from-padded kept place [] = refl
shown_from-padded kept place (packet ∷ packets) =
    ap (λ (b : Bool). if b then place ∷ shown_from (place + 1) (written packets) else shown_from (place + 1) (written packets)) (shown-padded kept packet)
    ∙ ap (λ (rest : List ℕ). if is_shown packet then place ∷ rest else rest) (shown_from-padded kept (place + 1) packets)

following-padded : PaddingKeepsSteps → (tables : Tables) (place : ℕ) (progress : Progress) (packet : List ℕ) → following tables place progress (padded packet) ≡ following tables place progress packet
following-padded pads tables place (Ok state) packet = ap (reported_at place) (pads tables state packet)
following-padded pads tables place (Err broken) packet = refl

outcome-padded : PaddingKeepsSteps → ShownIsKept → (tables : Tables) (place : ℕ) (progress : Progress) (packet : List ℕ) → outcome tables place progress (padded packet) ≡ outcome tables place progress packet
outcome-padded pads kept tables place progress packet =
    ap (λ (b : Bool). if b then reported_at place (step_of tables None (padded packet)) else following tables place progress (padded packet)) (key-padded kept packet)
    ∙ ap (λ (step : Result (State × PictureSamples) Cause). if has_key_tag packet then reported_at place step else following tables place progress (padded packet)) (pads tables None packet)
    ∙ ap (λ (o : Outcome). if has_key_tag packet then reported_at place (step_of tables None packet) else o) (following-padded pads tables place progress packet)

outcomes-padded : PaddingKeepsSteps → ShownIsKept → (tables : Tables) (place : ℕ) (progress : Progress) (packets : List (List ℕ)) → outcomes_from tables place progress (written packets) ≡ outcomes_from tables place progress packets
outcomes-padded pads kept tables place progress [] = refl
outcomes-padded pads kept tables place progress (packet ∷ packets) =
    ap (λ (o : Outcome). o ∷ outcomes_from tables (place + 1) (left_by o) (written packets)) (outcome-padded pads kept tables place progress packet)
    ∙ ap (λ (os : List Outcome). outcome tables place progress packet ∷ os) (outcomes-padded pads kept tables (place + 1) (left_by (outcome tables place progress packet)) packets)

pub padded_shows : PaddingKeepsSteps → ShownIsKept → (tables : Tables) (packets : List (List ℕ)) (pictures : List PictureSamples) → ShowsExactly tables packets pictures → ShowsExactly tables (written packets) pictures
padded_shows pads kept tables packets pictures shows =
    let same : outcomes tables (written packets) ≡ outcomes tables packets = outcomes-padded pads kept tables 0 (Ok None) packets in
    let indexes : shown_indexes (written packets) ≡ shown_indexes packets = shown_from-padded kept 0 packets in
    record {
      accepts = λ place found at. shows.accepts place found (ap (λ (os : List Outcome). slice_get os place) (sym same) ∙ at);
      count = ap length indexes ∙ shows.count;
      each = λ n picture at.
          let step = shows.each n picture at in
          let moved : outcome_shown tables (written packets) n ≡ outcome_shown tables packets n =
          ap (λ (os : List Outcome). option_and_then (λ (place : ℕ). slice_get os place) (slice_get (shown_indexes (written packets)) n)) same
          ∙ ap (λ (is : List ℕ). option_and_then (λ (place : ℕ). slice_get (outcomes tables packets) place) (slice_get is n)) indexes in
          (step.0, moved ∙ step.1);
    }
