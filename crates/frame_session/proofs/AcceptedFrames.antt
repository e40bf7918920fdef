-- Frames whose packets decoding accepts, by their outlines.
use Rattle.std.proofs.Common.{◌≡◌, ℕ, suc, ◌+◌, ◌<◌, ◌==◌, Bool, true, false, List, [], length, slice_get, slice_index_or, Option, Some, None, Ok, Err, refl, sym, ap, subst, ◌∙◌, arith, if◌then◌else◌}
use Rattle.std.specs.Prelude.{IfSome, unwrap_or}
use Rattle.std.proofs.lemmas.Bool.{eqb-true}
use Rattle.std.proofs.lemmas.List.{length-map}
use Rattle.std.proofs.lemmas.Option.{slice_get_within}
use Rattle.frame_header.specs.Tags.{key_size_of}
use Rattle.packet_edits.specs.Edits.{Listing}
use Rattle.packet_edits.specs.Marks.{StoreValue}
use Rattle.packet_edits.specs.Shown.{stream_of}
use Rattle.pixel_planes.specs.Pictures.{PictureSamples}
use Rattle.reference_frames.specs.declared.states.State.{State}
use Rattle.stream_steps.specs.declared.broken.Broken.{Broken}
use Rattle.stream_steps.specs.Decoding.{outcomes}
use Rattle.stream_refusals.specs.GoodPictures.{IsOfRun, PicturesAreOfRuns}
use Rattle.stream_refusals.specs.Refusals.{AcceptsAreByBytes, HaveNoCause, IsBreak, RefusalsAreByBytes, run_start}
use Rattle.stream_steps.proofs.Breaks.{each_outcome}
use Rattle.lossless_cuts.specs.declared.targets.Target.{Target}
use Rattle.frame_session.specs.declared.refusal.Refusal.TheVariants as refusals
use Rattle.frame_session.specs.Cached.{lists_of, store_at}
use Rattle.frame_session.specs.Edits.{list_at}
use Rattle.frame_session.specs.Exported.{HasPicture, index_in}
use Rattle.frame_session.specs.Sessions.{SessionState, picture_from}
use Rattle.frame_session.proofs.ExportedFrames.{picture_got}
use Rattle.frame_session.proofs.Stores.{found, list_of_store}

abbrev pub stream_in : SessionState → ℕ → List (List ℕ)
stream_in now source = stream_of (list_at now.lists source)

-- the packets up to this index in its run have no cause
abbrev pub IsAccepted : List (List ℕ) → ℕ → Type 0
IsAccepted packets place = HaveNoCause packets (run_start packets place) (place + 1)

one-more : (packets : List (List ℕ)) (first place : ℕ) → HaveNoCause packets first (suc place) → HaveNoCause packets first (place + 1)
one-more packets first place none k low high = none k low (omega (arith, high))

one-less : (packets : List (List ℕ)) (first place : ℕ) → HaveNoCause packets first (place + 1) → HaveNoCause packets first (suc place)
one-less packets first place none k low high = none k low (omega (arith, high))

pub accepted_is : AcceptsAreByBytes → (now : SessionState) (source place : ℕ) (size : ℕ × ℕ) → HasPicture now source place size → IsAccepted (stream_in now source) place
accepted_is law now source place size has =
    let packets : List (List ℕ) = stream_in now source in
    let got = picture_got source (slice_get (outcomes now.tables packets) place) has.picture has.accepted in
    let within : place < length (outcomes now.tables packets) = slice_get_within (outcomes now.tables packets) place (Ok (got.0, has.picture)) got.1 in
    let less : place < length packets = omega (arith, within, each_outcome now.tables packets) in
    one-more packets (run_start packets place) place ((law now.tables packets place less).0 ((got.0, has.picture), got.1))

-- of the frame before, if it is of this source
accepted-if : (now : SessionState) (source : ℕ) (target : Target) (same : Bool) → (target.source == source) ≡ same → IsAccepted (stream_in now target.source) target.place → IfSome (if same then Some target.place else None) (IsAccepted (stream_in now source))
accepted-if now source target false is accepted = tt
accepted-if now source target true is accepted = subst (λ (s : ℕ). IsAccepted (stream_in now s) target.place) (eqb-true target.source source is) accepted

pub accepted_before : AcceptsAreByBytes → (now : SessionState) (before : Option Target) (source : ℕ) → IfSome before (λ target. HasPicture now target.source target.place (target.width, target.height))
    → IfSome (index_in before source) (IsAccepted (stream_in now source))
accepted_before law now None source has = tt
accepted_before law now (Some target) source has = accepted-if now source target (target.source == source) refl (accepted_is law now target.source target.place (target.width, target.height) has)

-- a packet whose run has no cause up to it has a picture, whose size is in the first packet of the run
pub picture_has : AcceptsAreByBytes → PicturesAreOfRuns → (now : SessionState) (source place : ℕ) → place < length (stream_in now source) → IsAccepted (stream_in now source) place
    → HasPicture now source place (unwrap_or (key_size_of (slice_index_or (stream_in now source) (run_start (stream_in now source) place) [])) (0, 0))
picture_has law runs now source place less accepted =
    let packets : List (List ℕ) = stream_in now source in
    let found = (law now.tables packets place less).1 (one-less packets (run_start packets place) place accepted) in
    let step : State × PictureSamples = found.0 in
    let is : IsOfRun packets place step.1 = runs now.tables packets place step found.1 in
    let size : unwrap_or (key_size_of (slice_index_or packets (run_start packets place) [])) (0, 0) ≡ (step.1.width, step.1.height) = ap (λ (o : Option (ℕ × ℕ)). unwrap_or o (0, 0)) is.size in
    record { picture = step.1; accepted = ap (picture_from source) found.1; wide = sym (ap (λ (s : ℕ × ℕ). s.0) size); high = sym (ap (λ (s : ℕ × ℕ). s.1) size); bytes = is.bytes }

-- a packet whose run is broken up to it is refused
pub refused_is : RefusalsAreByBytes → (now : SessionState) (source place : ℕ) (broken : Broken) → place < length (stream_in now source) → IsBreak (stream_in now source) place broken
    → picture_from source (slice_get (outcomes now.tables (stream_in now source)) place) ≡ Err (refusals.Packet source broken.place broken.cause)
refused_is law now source place broken less is = ap (picture_from source) ((law now.tables (stream_in now source) place broken less).1 is)

-- the packets of a store of a session
pub store-is : (stores : List StoreValue) (source : ℕ) (store : StoreValue) → source < length stores → store ≡ slice_index_or stores source store → stream_of store.list ≡ stream_of (list_at (lists_of stores) source)
store-is stores source store within is = ap (λ (s : StoreValue). stream_of s.list) (is ∙ found stores source store within) ∙ ap stream_of (sym (list_of_store stores source))

pub within-is : (stores : List StoreValue) (source place : ℕ) → place < length (store_at stores source).list.entries → place < length (stream_of (list_at (lists_of stores) source))
within-is stores source place less =
    let count : length (stream_of (store_at stores source).list) ≡ length (store_at stores source).list.entries = length-map (store_at stores source).list.entries (λ entry. entry.bytes) in
    let here : place < length (stream_of (store_at stores source).list) = omega (arith, less, count) in
    subst (λ (list : Listing). place < length (stream_of list)) (sym (list_of_store stores source)) here
