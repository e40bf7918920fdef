-- The meaning of an export: what its packets show.
use Rattle.std.specs.Prelude.{◌≡◌, ℕ, true, List, [], ◌∷◌, length, slice_get, Option, Some, option_and_then, Ok, IsOk}
use Rattle.vp8_tables.specs.declared.tables.Tables.{Tables}
use Rattle.frame_header.specs.Tags.{is_shown}
use Rattle.pixel_planes.specs.Pictures.{PictureSamples}
use Rattle.reference_frames.specs.declared.states.State.{State}
use Rattle.packet_edits.specs.Shown.{shown_indexes}
use Rattle.stream_steps.specs.Decoding.{Outcome, outcomes}
use Rattle.stream_refusals.specs.GoodPictures.{HasBytes}
use Rattle.lossless_cuts.specs.declared.targets.Target.{Target}
use Rattle.lossless_cuts.specs.Plans.{stream_at}

-- a frame's packet is shown, and decoding its source accepts it, with this picture
pub record IsDecoded (tables : Tables) (packets : List (List ℕ)) (target : Target) (picture : PictureSamples) : Type 0 where
  pub packet : List ℕ
  pub here : slice_get packets target.place ≡ Some packet
  pub shown : is_shown packet ≡ true
  pub state : State
  pub accepted : slice_get (outcomes tables packets) target.place ≡ Some (Ok (state, picture))
  pub wide : picture.width ≡ target.width
  pub high : picture.height ≡ target.height
  pub bytes : HasBytes picture

-- each frame is, with these pictures
abbrev pub AreDecoded : Tables → List (List (List ℕ)) → List Target → List PictureSamples → Type 0
AreDecoded tables streams [] [] = Unit {0}
AreDecoded tables streams (target ∷ targets) (picture ∷ pictures) =
    IsDecoded tables (stream_at streams target.source) target picture × AreDecoded tables streams targets pictures
AreDecoded tables streams [] (picture ∷ pictures) = ⊥
AreDecoded tables streams (target ∷ targets) [] = ⊥

-- the outcome of shown packet n of a stream, if there is one
abbrev pub outcome_shown : Tables → List (List ℕ) → ℕ → Option Outcome
outcome_shown tables packets n = option_and_then (λ place. slice_get (outcomes tables packets) place) (slice_get (shown_indexes packets) n)

-- a stream shows exactly these pictures: decoding refuses none of its packets, and each shown packet has its picture
pub record ShowsExactly (tables : Tables) (packets : List (List ℕ)) (pictures : List PictureSamples) : Type 0 where
  pub accepts : (place : ℕ) (outcome : Outcome) → slice_get (outcomes tables packets) place ≡ Some outcome → IsOk outcome
  pub count : length (shown_indexes packets) ≡ length pictures
  pub each : (n : ℕ) (picture : PictureSamples) → slice_get pictures n ≡ Some picture → (state : State) × (outcome_shown tables packets n ≡ Some (Ok (state, picture)))
