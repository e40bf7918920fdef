-- A frame that a session returns is the wanted frame.
use Rattle.std.proofs.Common.{◌≡◌, ℕ, suc, ◌+◌, ◌≤◌, List, [], ◌∷◌, Bool, true, false, cond, Option, Some, None, Result, Ok, Err, length, option_map, slice_get, refl, sym, ap, ◌∙◌, arith, subst}
use Rattle.std.specs.Prelude.{option_and_then}
use Rattle.std.proofs.lemmas.List.{length-map}
use Rattle.frame_header.specs.Tags.{is_shown}
use Rattle.pixel_planes.specs.Pictures.{PictureSamples, IsWholePicture}
use Rattle.packet_edits.specs.Edits.{Listing}
use Rattle.packet_edits.specs.Shown.{shown_from, shown_indexes, stream_of}
use Rattle.packet_edits.specs.declared.entry.Entry.{Entry}
use Rattle.script_nodes.specs.declared.traces.Step.{Step}
use Rattle.script_nodes.specs.Frames.{Origin, traced}
use Rattle.script_nodes.specs.Planes.{ShowsMade}
use Rattle.script_nodes.specs.Scripts.{origin_of}
use Rattle.script_nodes.specs.Shown.{Shown, Shows, shown_in, steps_shown}
use Rattle.frame_session.specs.declared.refusal.Refusal.{Refusal}
use Rattle.frame_session.specs.declared.refusal.Refusal.TheVariants as refusals
use Rattle.frame_session.specs.declared.size.Size.{Size}
use Rattle.state_cache.specs.Costs.{Costs}
use Rattle.stream_steps.specs.Decoding.{Outcome, outcomes}
use Rattle.state_cache.specs.Walks.{IsWalk}
use Rattle.frame_session.specs.Cached.{FrameCosts, LeavesOthers, SessionValue, packet_of_frame, store_at}
use Rattle.frame_session.specs.IsOrNoMemory.{IsFrameOrNoMemory}
use Rattle.frame_session.specs.Edits.{list_at}
use Rattle.frame_session.specs.Sessions.{SessionState, fits, fitted, frame_from, frame_made, frame_of, outcome_of, picture_from, shown_counts, size_of}

-- there are at most as many shown packets as packets
few_from : (place : ℕ) (xs : List (List ℕ)) → length (shown_from place xs) ≤ length xs
few_from place [] = omega arith
few_from place (x ∷ xs) = by_first (is_shown x) (few_from (place + 1) xs)
  where
    by_first : (b : Bool) → length (shown_from (place + 1) xs) ≤ length xs → length (cond b (place ∷ shown_from (place + 1) xs) (shown_from (place + 1) xs)) ≤ suc (length xs)
    by_first true ih = omega (arith, ih)
    by_first false ih = omega (arith, ih)

pub few_shown : (list : Listing) (count most : ℕ) → count ≡ length (shown_indexes (stream_of list)) → length list.entries ≤ most → count ≤ most
few_shown list count most is few =
    let long : length (stream_of list) ≡ length list.entries = length-map list.entries (λ (e : Entry). e.bytes) in
    omega (arith, is, few, long, few_from 0 (stream_of list))

-- a frame with the size of the stream is returned
chosen : (shown : Shown) (b : Bool) → b ≡ true → cond b (Ok shown) (Err refusals.SizeDiffers) ≡ Ok shown
chosen shown true e = refl
chosen shown false e = cc

fitted_given : (size : Option Size) (m : Option Shown) (made : PictureSamples) → ShowsMade m made → fits size (record { width = made.width; height = made.height }) ≡ true → (shown : Shown) × (fitted size m ≡ Ok shown) × Shows made shown
fitted_given size None made shows fit = absurd shows
fitted_given size (Some shown) made shows fit =
    let P : ℕ → ℕ → Type 0 = λ w h. fits size (record { width = w; height = h }) ≡ true in
    let fit' : P shown.width shown.height = subst (λ h. P shown.width h) shows.high (subst (λ w. P w made.height) shows.wide fit) in
    (shown, chosen shown (fits size (size_of shown)) fit', shows)

pub frame_given : (old : SessionState) (n : ℕ) (counts : List ℕ) (source frame place : ℕ) (steps : List Step) (picture made : PictureSamples) → counts ≡ shown_counts old → traced counts old.script n ≡ Some (origin_of source frame steps) → Some place ≡ slice_get (shown_indexes (stream_of (list_at old.lists source))) frame
    → picture_from source (slice_get (outcomes old.tables (stream_of (list_at old.lists source))) place) ≡ Ok picture → ShowsMade (steps_shown steps (shown_in picture)) made → fits old.size (record { width = made.width; height = made.height }) ≡ true → IsWholePicture made → IsFrameOrNoMemory (frame_of old n) (Ok made)
frame_given old n counts source frame place steps picture made same from at decoded shows fit whole =
    let stream = stream_of (list_at old.lists source) in
    let out : outcome_of old source frame ≡ slice_get (outcomes old.tables stream) place = ap (λ (s : Option ℕ). option_and_then (λ i. slice_get (outcomes old.tables stream) i) s) (sym at) in
    let is : frame_of old n ≡ fitted old.size (steps_shown steps (shown_in picture)) =
    ap (λ k. frame_from old (traced k old.script n)) (sym same)
    ∙ ap (λ (f : Option Origin). frame_from old f) from
    ∙ ap (λ (o : Option Outcome). frame_made old.size steps (picture_from source o)) out
    ∙ ap (λ (p : Result PictureSamples Refusal). frame_made old.size steps p) decoded in
    let given = fitted_given old.size (steps_shown steps (shown_in picture)) made shows fit in
    (given.0, is ∙ given.1, given.2, whole)

-- a frame of another size is refused
refused : (shown : Shown) (b : Bool) → b ≡ false → cond b (Ok shown) (Err refusals.SizeDiffers) ≡ Err refusals.SizeDiffers
refused shown true e = cc
refused shown false e = refl

fitted_refused : (size : Option Size) (m : Option Shown) (made : PictureSamples) → ShowsMade m made → fits size (record { width = made.width; height = made.height }) ≡ false → fitted size m ≡ Err refusals.SizeDiffers
fitted_refused size None made shows unfit = absurd shows
fitted_refused size (Some shown) made shows unfit =
    let P : ℕ → ℕ → Type 0 = λ w h. fits size (record { width = w; height = h }) ≡ false in
    let unfit' : P shown.width shown.height = subst (λ h. P shown.width h) shows.high (subst (λ w. P w made.height) shows.wide unfit) in
    refused shown (fits size (size_of shown)) unfit'

pub frame_refused : (old : SessionState) (n : ℕ) (counts : List ℕ) (source frame place : ℕ) (steps : List Step) (picture made : PictureSamples) → counts ≡ shown_counts old → traced counts old.script n ≡ Some (origin_of source frame steps) → Some place ≡ slice_get (shown_indexes (stream_of (list_at old.lists source))) frame
    → picture_from source (slice_get (outcomes old.tables (stream_of (list_at old.lists source))) place) ≡ Ok picture → ShowsMade (steps_shown steps (shown_in picture)) made → fits old.size (record { width = made.width; height = made.height }) ≡ false → frame_of old n ≡ Err refusals.SizeDiffers
frame_refused old n counts source frame place steps picture made same from at decoded shows unfit =
    let stream = stream_of (list_at old.lists source) in
    let out : outcome_of old source frame ≡ slice_get (outcomes old.tables stream) place = ap (λ (s : Option ℕ). option_and_then (λ i. slice_get (outcomes old.tables stream) i) s) (sym at) in
    ap (λ k. frame_from old (traced k old.script n)) (sym same)
    ∙ ap (λ (f : Option Origin). frame_from old f) from
    ∙ ap (λ (o : Option Outcome). frame_made old.size steps (picture_from source o)) out
    ∙ ap (λ (p : Result PictureSamples Refusal). frame_made old.size steps p) decoded
    ∙ fitted_refused old.size (steps_shown steps (shown_in picture)) made shows unfit

-- and it costs what reaching its packet costs
pub frame_costs : (old new : SessionValue) (n : ℕ) (counts : List ℕ) (source frame place : ℕ) (steps : List Step) (made : PictureSamples) → counts ≡ shown_counts old.state → traced counts old.state.script n ≡ Some (origin_of source frame steps) → Some place ≡ slice_get (shown_indexes (stream_of (list_at old.state.lists source))) frame
    → Costs old.state.tables source (store_at old.stores source) old.cache place true (store_at new.stores source) new.cache → IsWalk old.state.tables source (store_at old.stores source) old.cache place true (store_at new.stores source) new.cache → LeavesOthers source old new → FrameCosts (packet_of_frame old.state n) old (Ok made) new
frame_costs old new n counts source frame place steps made same from at costs walks leaves =
    let place_in : Origin → Option (ℕ × ℕ) = λ origin. option_map (λ (p : ℕ). (origin.source, p)) (slice_get (shown_indexes (stream_of (list_at old.state.lists origin.source))) origin.frame) in
    let is : packet_of_frame old.state n ≡ Some (source, place) =
    ap (λ (k : List ℕ). option_and_then place_in (traced k old.state.script n)) (sym same) ∙ ap (λ (o : Option Origin). option_and_then place_in o) from ∙ ap (λ (o : Option ℕ). option_map (λ (p : ℕ). (source, p)) o) (sym at) in
    subst (λ (o : Option (ℕ × ℕ)). FrameCosts o old (Ok made) new) (sym is) (record { reached = true; costs = costs; walks = walks; others = leaves; is_needed = λ h. refl })
