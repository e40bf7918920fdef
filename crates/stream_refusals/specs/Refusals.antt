-- Which packets decoding refuses. Their bytes decide it: no tables, no context and no sample.
use Rattle.std.specs.Prelude.{◌≡◌, ℕ, zero, suc, ◌<◌, ◌≤◌, ◌==◌, ◌↔◌, nat_lt, Bool, false, if◌then◌else◌, List, [], length, slice_get, slice_index_or, Option, Some, None, Ok, Err}
use Rattle.std.specs.Option.{option_map_or}
use Rattle.std.specs.Result.{result_err}
use Rattle.vp8_tables.specs.declared.tables.Tables.{Tables}
use Rattle.frame_header.specs.Outlines.{outline_of}
use Rattle.frame_header.specs.Tags.{has_key_tag}
use Rattle.frame_header.specs.declared.cause.Cause.{Cause}
use Rattle.frame_header.specs.declared.cause.Cause.TheVariants.{NoKeyFrame}
use Rattle.pixel_planes.specs.Pictures.{PictureSamples}
use Rattle.reference_frames.specs.declared.states.State.{State}
use Rattle.stream_steps.specs.declared.broken.Broken.{Broken}
use Rattle.stream_steps.specs.Decoding.{outcomes}

-- the cause against a packet; `follows` says whether a packet was accepted since the last key tag or the start. A packet of no bytes
-- repeats the frame before it
abbrev pub cause_against : Bool → List ℕ → Option Cause
cause_against follows packet = if length packet == 0 then (if follows then None else Some NoKeyFrame) else result_err (outline_of follows packet)

abbrev pub key_tag_at : List (List ℕ) → ℕ → Bool
key_tag_at packets place = option_map_or has_key_tag (slice_get packets place) false

-- the first packet of the run of packets that an index is in: the last one with a key tag at the index or before it, or the first of all
abbrev pub run_start : List (List ℕ) → ℕ → ℕ
run_start packets zero = 0
run_start packets (suc place) = if key_tag_at packets (suc place) then suc place else run_start packets place

-- the cause against the packet at an index, if the packets before it in its run are accepted
abbrev pub cause_at : List (List ℕ) → ℕ → Option Cause
cause_at packets place = cause_against (nat_lt (run_start packets place) place) (slice_index_or packets place [])

-- no packet from this index to another one has a cause
abbrev pub HaveNoCause : List (List ℕ) → ℕ → ℕ → Type 0
HaveNoCause packets first end = (k : ℕ) → first ≤ k → k < end → cause_at packets k ≡ None

-- this is the break at a packet: the first one of its run, up to it, that has a cause
pub record IsBreak (packets : List (List ℕ)) (place : ℕ) (broken : Broken) : Type 0 where
  pub same_run : run_start packets broken.place ≡ run_start packets place
  pub within : broken.place ≤ place
  pub cause : cause_at packets broken.place ≡ Some broken.cause
  pub first : HaveNoCause packets (run_start packets place) broken.place

-- with all tables, a packet is refused exactly if its run is broken up to it, at that index and for that cause
abbrev pub RefusalsAreByBytes : Type 0
RefusalsAreByBytes =
    (tables : Tables) (packets : List (List ℕ)) (place : ℕ) (broken : Broken) → place < length packets
    → (slice_get (outcomes tables packets) place ≡ Some (Err broken)) ↔ IsBreak packets place broken

-- and accepted exactly if no packet of its run has a cause up to it
abbrev pub AcceptsAreByBytes : Type 0
AcceptsAreByBytes =
    (tables : Tables) (packets : List (List ℕ)) (place : ℕ) → place < length packets
    → ((step : State × PictureSamples) × (slice_get (outcomes tables packets) place ≡ Some (Ok step))) ↔ HaveNoCause packets (run_start packets place) (suc place)
