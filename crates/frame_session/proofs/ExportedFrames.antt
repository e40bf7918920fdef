-- The packets of a script's frames show the frames that the session serves.
use Rattle.std.proofs.Common.{◌≡◌, ℕ, zero, suc, ◌+◌, ◌*◌, ◌/◌, ◌≤◌, ◌<◌, ◌==◌, ◌&&◌, Bool, true, false, List, [], ◌∷◌, ◌++◌, length, map, slice_get, Option, Some, None, Result, Ok, Err, refl, sym, ap, subst, ◌∙◌, arith, zero-add, inr, if◌then◌else◌}
use Rattle.std.specs.Prelude.{IfSome, is_some, nat_le, nat_lt, option_and_then, unwrap_or}
use Rattle.std.specs.List.{list_all}
use Rattle.std.proofs.lemmas.Bool.{and_from, and_parts, eqb-true, le-leb}
use Rattle.vp8_tables.specs.declared.tables.Tables.{Tables}
use Rattle.pixel_planes.specs.Pictures.{PictureSamples}
use Rattle.pixel_planes.specs.declared.pictures.Component.{Component}
use Rattle.pixel_planes.specs.declared.pictures.Component.TheVariants.{Luma, Cb, Cr}
use Rattle.packet_edits.specs.Edits.{Listing}
use Rattle.packet_times.specs.Stamps.{stamped, stamps_after}
use Rattle.packet_edits.specs.Shown.{shown_indexes, stream_of}
use Rattle.stream_steps.specs.Decoding.{Outcome, outcomes}
use Rattle.stream_refusals.specs.GoodPictures.{HasBytes}
use Rattle.lossless_cuts.specs.Exports.{AreDecoded, IsDecoded}
use Rattle.lossless_cuts.specs.Laws.{ExportsShowTheirFrames}
use Rattle.lossless_cuts.specs.Plans.{exported, stream_at, streams_of, written}
use Rattle.lossless_cuts.specs.declared.targets.Target.{Target}
use Rattle.script_nodes.specs.Frames.{Origin, after_steps, origin, script_frame, traced, with_step}
use Rattle.script_nodes.specs.Lengths.{script_length}
use Rattle.script_nodes.specs.NodeSteps.{StepsAreOfNodes, changed_nodes, keeps_samples, node_steps}
use Rattle.script_nodes.specs.Scripts.{IsScript}
use Rattle.script_nodes.specs.declared.node_steps.NodeStep.{NodeStep}
use Rattle.script_nodes.specs.declared.nodes.Node.{Node}
use Rattle.script_nodes.specs.Shown.{Shown, Shows, Size, black, cut_to, faded_to, is_inside, position_in, shown_in, step_shown, step_size, steps_shown, use_step, weighed}
use Rattle.script_nodes.specs.declared.nodes.Area.{Area}
use Rattle.script_nodes.specs.declared.traces.Step.{Step}
use Rattle.script_nodes.specs.declared.traces.Step.TheVariants.{Cut, Weigh}
use Rattle.frame_session.specs.declared.refusal.Refusal.{Refusal}
use Rattle.frame_session.specs.declared.refusal.Refusal.TheVariants as refusals
use Rattle.frame_session.specs.declared.session.exports.ExportFault.{ExportFault}
use Rattle.frame_session.specs.declared.session.exports.ExportFault.TheVariants.{Frame, Changed, Packets}
use Rattle.lossless_cuts.specs.declared.faults.CutFault.{CutFault}
use Rattle.lossless_cuts.specs.declared.faults.CutFault.TheVariants as cuts
use Rattle.lossless_cuts.specs.Faults.{export_fault}
use Rattle.lossless_cuts.specs.Limits.{IsTooLarge}
use Rattle.lossless_cuts.proofs.Missing.{none_missing}
use Rattle.frame_session.specs.Edits.{list_at}
use Rattle.frame_session.specs.Exported.{AreTargets, CanExport, HasPicture, HasTarget, HaveTargets, IsChanged, IsExport, IsFrame, IsFrameFault, IsNotExported, IsPackingFault, IsTarget, ScriptsAreExported, source_picture, streams_in, unsized}
use Rattle.frame_session.specs.Sessions.{SessionState, fitted, frame_count, frame_from, frame_made, frame_of, outcome_of, picture_from, shown_counts}
use Rattle.frame_session.specs.Cached.{lists_of}
use Rattle.packet_edits.specs.Marks.{StoreValue}
use Rattle.packet_edits.specs.Laws.{IsShownList}
use Rattle.reference_frames.specs.declared.states.State.{State}
use Rattle.script_nodes.specs.Scripts.{origin_of}

-- ---- steps that change no sample

-- what a step makes of a picture that shows this
record Made (step : Step) (picture : PictureSamples) (shown : Shown) : Type 0 where
  made : Shown
  is : step_shown step shown ≡ Some made
  shows : Shows picture made

at_zero : (component : Component) (place x : ℕ) → place ≡ 0 → position_in component place + x ≡ x
at_zero Luma place x is = omega (arith, is)
at_zero Cb place x is = omega (arith, is)
at_zero Cr place x is = omega (arith, is)

whole_weight : (dark sample : ℕ) → (256 * sample + 0 * dark + 128) / 256 ≡ sample
whole_weight dark sample = omega arith

weighed_whole : (weight dark sample : ℕ) → weight ≡ 256 → weighed weight dark sample ≡ sample
weighed_whole weight dark sample is = ap (λ (w : ℕ). weighed w dark sample) is ∙ whole_weight dark sample

record WholeCut (area : Area) (width height : ℕ) : Type 0 where
  left : area.x ≡ 0
  top : area.y ≡ 0
  wide : area.width ≡ width
  high : area.height ≡ height

whole_cut : (area : Area) (width height : ℕ) → keeps_samples width height (Cut area) ≡ true → WholeCut area width height
whole_cut area width height keeps =
    let all = and_parts ((area.x == 0) && (area.y == 0) && (area.width == width)) (area.height == height) keeps in
    let three = and_parts ((area.x == 0) && (area.y == 0)) (area.width == width) all.0 in
    let two = and_parts (area.x == 0) (area.y == 0) three.0 in
    record { left = eqb-true area.x 0 two.0; top = eqb-true area.y 0 two.1; wide = eqb-true area.width width three.1; high = eqb-true area.height height all.1 }

cut_kept : (area : Area) (picture : PictureSamples) (shown : Shown) → WholeCut area picture.width picture.height → Shows picture shown → Made (Cut area) picture shown
cut_kept area picture shown whole shows =
    let wide : picture.width ≡ shown.width = shows.wide in
    let high : picture.height ≡ shown.height = shows.high in
    let fits_wide : area.x + area.width ≤ shown.width = omega (arith, whole.left, whole.wide, wide) in
    let fits_high : area.y + area.height ≤ shown.height = omega (arith, whole.top, whole.high, high) in
    let inside : is_inside area shown.width shown.height ≡ true = and_from (nat_le (area.x + area.width) shown.width) (nat_le (area.y + area.height) shown.height) (le-leb (area.x + area.width) shown.width fits_wide) (le-leb (area.y + area.height) shown.height fits_high) in
    record {
      made = cut_to area shown;
      is = ap (λ (b : Bool). if b then Some (cut_to area shown) else None) inside;
      shows = record {
        wide = sym whole.wide;
        high = sym whole.high;
        each = λ component x y less below.
            shows.each component x y less below
            ∙ ap (λ (column : ℕ). shown.sample component column y) (sym (at_zero component area.x x whole.left))
            ∙ ap (λ (row : ℕ). shown.sample component (position_in component area.x + x) row) (sym (at_zero component area.y y whole.top));
      };
    }

faded_kept : (weight : ℕ) (picture : PictureSamples) (shown : Shown) → weight ≡ 256 → Shows picture shown → Made (Weigh weight) picture shown
faded_kept weight picture shown is shows = record {
  made = faded_to weight shown;
  is = refl;
  shows = record {
    wide = shows.wide;
    high = shows.high;
    each = λ component x y less below. shows.each component x y less below ∙ sym (weighed_whole weight (black component) (shown.sample component x y) is);
  };
}

step_kept : (step : Step) (picture : PictureSamples) (shown : Shown) → keeps_samples picture.width picture.height step ≡ true → Shows picture shown → Made step picture shown
step_kept (Cut area) picture shown keeps shows = cut_kept area picture shown (whole_cut area picture.width picture.height keeps) shows
step_kept (Weigh weight) picture shown keeps shows = faded_kept weight picture shown (eqb-true weight 256 keeps) shows

-- what all steps make of it
record AllMade (steps : List Step) (picture : PictureSamples) (shown : Shown) : Type 0 where
  made : Shown
  is : after_steps use_step steps (Some shown) ≡ Some made
  shows : Shows picture made

steps_kept : (steps : List Step) (picture : PictureSamples) (shown : Shown) → list_all (keeps_samples picture.width picture.height) steps ≡ true → Shows picture shown → AllMade steps picture shown
steps_kept [] picture shown keeps shows = record { made = shown; is = refl; shows = shows }
steps_kept (step ∷ steps) picture shown keeps shows =
    let parts = and_parts (keeps_samples picture.width picture.height step) (list_all (keeps_samples picture.width picture.height) steps) keeps in
    let one : Made step picture shown = step_kept step picture shown parts.0 shows in
    let rest : AllMade steps picture one.made = steps_kept steps picture one.made parts.1 one.shows in
    record { made = rest.made; is = ap (after_steps use_step steps) one.is ∙ rest.is; shows = rest.shows }

-- ---- a frame

shows_itself : (picture : PictureSamples) → Shows picture (shown_in picture)
shows_itself picture = record { wide = refl; high = refl; each = λ component x y less below. refl }

pub is_frame : (now : SessionState) (n : ℕ) (target : Target) (picture : PictureSamples) → IsTarget now n target picture → IsFrame now n picture
is_frame now n target picture t =
    let free : SessionState = record now { size = None } in
    let stream : List (List ℕ) = stream_of (list_at now.lists target.source) in
    let keeps : list_all (keeps_samples picture.width picture.height) t.from.steps ≡ true =
    ap (λ (w : ℕ). list_all (keeps_samples w picture.height) t.from.steps) t.decoded.wide ∙ ap (λ (h : ℕ). list_all (keeps_samples target.width h) t.from.steps) t.decoded.high ∙ t.keeps in
    let all : AllMade t.from.steps picture (shown_in picture) = steps_kept t.from.steps picture (shown_in picture) keeps (shows_itself picture) in
    let outcome : outcome_of now t.from.source t.from.frame ≡ Some (Ok (t.decoded.state, picture)) =
    ap (λ (s : ℕ). outcome_of now s t.from.frame) t.source
    ∙ ap (λ (o : Option ℕ). option_and_then (λ (place : ℕ). slice_get (outcomes now.tables stream) place) o) t.place
    ∙ t.decoded.accepted in
    let frame : frame_from free (Some t.from) ≡ Ok all.made =
    ap (λ (o : Option Outcome). frame_made None t.from.steps (picture_from t.from.source o)) outcome ∙ ap (fitted None) all.is in
    (all.made, ap (frame_from free) t.traces ∙ frame, all.shows)

-- ---- all frames

stream_listed : (lists : List Listing) (source : ℕ) → stream_at (map stream_of lists) source ≡ stream_of (list_at lists source)
stream_listed [] source = refl
stream_listed (list ∷ lists) zero = refl
stream_listed (list ∷ lists) (suc source) = stream_listed lists source

are_decoded : (now : SessionState) (n : ℕ) (targets : List Target) (pictures : List PictureSamples) → AreTargets now n targets pictures → AreDecoded now.tables (streams_in now) targets pictures
are_decoded now n [] [] t = tt
are_decoded now n [] (picture ∷ pictures) t = absurd t
are_decoded now n (target ∷ targets) [] t = absurd t
are_decoded now n (target ∷ targets) (picture ∷ pictures) t =
    (subst (λ (packets : List (List ℕ)). IsDecoded now.tables packets target picture) (sym (stream_listed now.lists target.source)) t.0.decoded, are_decoded now (n + 1) targets pictures t.1)

are_frames : (now : SessionState) (n : ℕ) (targets : List Target) (pictures : List PictureSamples) → AreTargets now n targets pictures → (k : ℕ) (picture : PictureSamples) → slice_get pictures k ≡ Some picture → IsFrame now (n + k) picture
are_frames now n [] [] t k picture found = cc
are_frames now n [] (first ∷ pictures) t k picture found = absurd t
are_frames now n (target ∷ targets) [] t k picture found = absurd t
are_frames now n (target ∷ targets) (first ∷ pictures) t zero picture found =
    let same : first ≡ picture = cc in
    let here : n ≡ n + 0 = omega arith in
    subst (λ (m : ℕ). IsFrame now m picture) here (subst (λ (p : PictureSamples). IsFrame now n p) same (is_frame now n target first t.0))
are_frames now n (target ∷ targets) (first ∷ pictures) t (suc k) picture found =
    let moved : n + 1 + k ≡ n + suc k = omega arith in
    subst (λ (m : ℕ). IsFrame now m picture) moved (are_frames now (n + 1) targets pictures t.1 k picture found)

same_count : (now : SessionState) (n : ℕ) (targets : List Target) (pictures : List PictureSamples) → AreTargets now n targets pictures → length pictures ≡ length targets
same_count now n [] [] t = refl
same_count now n [] (picture ∷ pictures) t = absurd t
same_count now n (target ∷ targets) [] t = absurd t
same_count now n (target ∷ targets) (picture ∷ pictures) t = ap suc (same_count now (n + 1) targets pictures t.1)

pub scripts_are_exported : (tables : Tables) → ExportsShowTheirFrames tables → ScriptsAreExported tables
scripts_are_exported tables law now targets pictures same t count =
    let own : ExportsShowTheirFrames now.tables = subst ExportsShowTheirFrames (sym same) law in
    record {
      pictures = pictures;
      shows = own (streams_in now) targets pictures (are_decoded now 0 targets pictures t);
      count = same_count now 0 targets pictures t ∙ count;
      each = λ n picture found. subst (λ (m : ℕ). IsFrame now m picture) (zero-add n) (are_frames now 0 targets pictures t n picture found);
    }

-- ---- targets, one after another

pub have_more : (now : SessionState) (n : ℕ) (targets : List Target) (target : Target) → HaveTargets now n targets → HasTarget now (n + length targets) target → HaveTargets now n (targets ++ target ∷ [])
have_more now n [] target have has = (let here : n + 0 ≡ n = omega arith in subst (λ (m : ℕ). HasTarget now m target) here has, tt)
have_more now n (first ∷ targets) target have has =
    let moved : n + suc (length targets) ≡ n + 1 + length targets = omega arith in
    (have.0, have_more now (n + 1) targets target have.1 (subst (λ (m : ℕ). HasTarget now m target) moved has))

pub pictures_of : (now : SessionState) (n : ℕ) (targets : List Target) → HaveTargets now n targets → (pictures : List PictureSamples) × AreTargets now n targets pictures
pictures_of now n [] have = ([], tt)
pictures_of now n (target ∷ targets) have =
    let rest = pictures_of now (n + 1) targets have.1 in
    (have.0.0 ∷ rest.0, (have.0.1, rest.1))

pub picture_got : (source : ℕ) (o : Option Outcome) (picture : PictureSamples) → picture_from source o ≡ Ok picture → (state : State) × (o ≡ Some (Ok (state, picture)))
picture_got source None picture is = cc
picture_got source (Some (Err broken)) picture is = cc
picture_got source (Some (Ok d)) picture is =
    let same : d.1 ≡ picture = cc in
    (d.0, ap (λ (p : PictureSamples). let o : Option Outcome = Some (Ok (d.0, p)) in o) same)

-- the target of a frame, from what is found of it
pub target_is : (now : SessionState) (n source frame : ℕ) (target : Target) (steps : List Step) (picture : PictureSamples) → IsShownList → traced (shown_counts now) now.script n ≡ Some (origin_of source frame steps) → target.source ≡ source
    → slice_get (shown_indexes (stream_of (list_at now.lists source))) frame ≡ Some target.place → picture_from source (slice_get (outcomes now.tables (stream_of (list_at now.lists source))) target.place) ≡ Ok picture
    → list_all (keeps_samples target.width target.height) steps ≡ true → picture.width ≡ target.width → picture.height ≡ target.height → HasBytes picture → HasTarget now n target
target_is now n source frame target steps picture listed traces same place got keeps wide high bytes =
    let stream : ℕ → List (List ℕ) = λ s. stream_of (list_at now.lists s) in
    let shown = listed.each_is_shown (stream_of (list_at now.lists source)) frame target.place place in
    let accepted = picture_got source (slice_get (outcomes now.tables (stream_of (list_at now.lists source))) target.place) picture got in
    let decoded : IsDecoded now.tables (stream_of (list_at now.lists source)) target picture = record { packet = shown.0; here = shown.1; shown = shown.2; state = accepted.0; accepted = accepted.1; wide = wide; high = high; bytes = bytes } in (
      picture,
      record {
        from = origin_of source frame steps;
        traces = traces;
        source = sym same;
        place = subst (λ (s : ℕ). slice_get (shown_indexes (stream_of (list_at now.lists s))) frame ≡ Some target.place) (sym same) place;
        keeps = keeps;
        decoded = subst (λ (s : ℕ). IsDecoded now.tables (stream_of (list_at now.lists s)) target picture) (sym same) decoded;
      },
    )

-- the packets of all targets
pub export_is : (tables : Tables) (now : SessionState) (targets : List Target) → ExportsShowTheirFrames tables → now.tables ≡ tables → HaveTargets now 0 targets → length targets ≡ frame_count now
    → IsExport now (written (exported now.tables (streams_in now) None targets))
export_is tables now targets law same have count = let shown = pictures_of now 0 targets have in scripts_are_exported tables law now targets shown.0 same shown.1 count

-- a frame's packet has a picture
pub has_picture : (now : SessionState) (n : ℕ) (target : Target) → HasTarget now n target → HasPicture now target.source target.place (target.width, target.height)
has_picture now n target has =
    let d = has.1.decoded in
    record { picture = has.0; accepted = ap (picture_from target.source) d.accepted; wide = d.wide; high = d.high; bytes = d.bytes }

-- the packets of all stores
pub streams_same : (stores : List StoreValue) → streams_of stores ≡ map stream_of (lists_of stores)
streams_same [] = refl
streams_same (store ∷ stores) = ap (λ (ss : List (List (List ℕ))). stream_of store.list ∷ ss) (streams_same stores)

-- each packet gets a time stamp
pub stamped_length : (stamps : List ℕ) (packets : List (List ℕ)) → length (stamped stamps packets) ≡ length packets
stamped_length stamps [] = refl
stamped_length stamps (packet ∷ packets) = ap suc (stamped_length (stamps_after packet stamps) packets)

-- ---- why a frame is not exported

size_kept : (step : Step) (size : Size) → keeps_samples size.0 size.1 step ≡ true → unwrap_or (step_size step size) size ≡ size
size_kept (Weigh weight) size keeps = refl
size_kept (Cut area) size keeps = by_inside (is_inside area size.0 size.1)
  where
    by_inside : (b : Bool) → unwrap_or (if b then Some (area.width, area.height) else None) size ≡ size
    by_inside true =
        let whole : WholeCut area size.0 size.1 = whole_cut area size.0 size.1 keeps in
        ap (λ (w : ℕ). let s : Size = (w, area.height) in s) whole.wide ∙ ap (λ (h : ℕ). let s : Size = (size.0, h) in s) whole.high
    by_inside false = refl

-- if no node changes a sample, no step does
none_changed : (steps : List NodeStep) (size : Size) → changed_nodes size steps ≡ [] → list_all (keeps_samples size.0 size.1) (map (λ (s : NodeStep). s.step) steps) ≡ true
none_changed [] size none = refl
none_changed (s ∷ steps) size none = by_keeps (λ h. none_changed steps size h) (keeps_samples size.0 size.1 s.step) refl none
  where
    by_keeps : (changed_nodes size steps ≡ [] → list_all (keeps_samples size.0 size.1) (map (λ (s : NodeStep). s.step) steps) ≡ true) → (b : Bool) → keeps_samples size.0 size.1 s.step ≡ b → (if b then [] else s.node ∷ []) ++ changed_nodes (unwrap_or (step_size s.step size) size) steps ≡ [] → list_all (keeps_samples size.0 size.1) (map (λ (s : NodeStep). s.step) (s ∷ steps)) ≡ true
    by_keeps ih true keeps none =
        let rest : changed_nodes size steps ≡ [] = ap (λ (z : Size). changed_nodes z steps) (sym (size_kept s.step size keeps)) ∙ none in
        and_from (keeps_samples size.0 size.1 s.step) (list_all (keeps_samples size.0 size.1) (map (λ (s : NodeStep). s.step) steps)) keeps (ih rest)
    by_keeps ih false keeps none = cc

no_first : (xs : List ℕ) → slice_get xs 0 ≡ None → xs ≡ []
no_first [] none = refl
no_first (x ∷ xs) none = cc

-- the origin of a frame that the script has
traced_is : (counts : List ℕ) (nodes : List Node) (n : ℕ) (from : Origin) → traced counts nodes n ≡ Some from → script_frame with_step origin counts nodes n ≡ from
traced_is counts nodes n from is = by_less (nat_lt n (script_length counts nodes)) is
  where
    by_less : (b : Bool) → (if b then Some (script_frame with_step origin counts nodes n) else None) ≡ Some from → script_frame with_step origin counts nodes n ≡ from
    by_less true is = cc
    by_less false is = cc

pub none_changes : StepsAreOfNodes → (counts : List ℕ) (nodes : List Node) (n source frame : ℕ) (steps : List Step) (size : Size) → IsScript nodes → traced counts nodes n ≡ Some (origin_of source frame steps) → slice_get (changed_nodes size (node_steps counts nodes n)) 0 ≡ None → list_all (keeps_samples size.0 size.1) steps ≡ true
none_changes law counts nodes n source frame steps size script from none =
    let same : map (λ (s : NodeStep). s.step) (node_steps counts nodes n) ≡ steps = law counts nodes n script ∙ ap (λ (o : Origin). o.steps) (traced_is counts nodes n (origin_of source frame steps) from) in
    subst (λ (ss : List Step). list_all (keeps_samples size.0 size.1) ss ≡ true) same (none_changed (node_steps counts nodes n) size (no_first (changed_nodes size (node_steps counts nodes n)) none))

-- a frame, by the picture of its packet
pub frame_is : (now : SessionState) (n source frame place : ℕ) (steps : List Step) (o : Result PictureSamples Refusal) → traced (shown_counts now) now.script n ≡ Some (origin_of source frame steps) → slice_get (shown_indexes (stream_of (list_at now.lists source))) frame ≡ Some place
    → picture_from source (slice_get (outcomes now.tables (stream_of (list_at now.lists source))) place) ≡ o → (source_picture now (traced (shown_counts now) now.script n) ≡ o) × (frame_of (unsized now) n ≡ frame_made None steps o)
frame_is now n source frame place steps o from at decoded =
    let stream : List (List ℕ) = stream_of (list_at now.lists source) in
    let free : SessionState = unsized now in
    let out : outcome_of now source frame ≡ slice_get (outcomes now.tables stream) place = ap (λ (s : Option ℕ). option_and_then (λ (i : ℕ). slice_get (outcomes now.tables stream) i) s) at in
    let is : picture_from source (outcome_of now source frame) ≡ o = ap (picture_from source) out ∙ decoded in
    (ap (source_picture now) from ∙ is, ap (frame_from free) from ∙ ap (frame_made None steps) is)

-- a frame that is served, and one whose script cuts past the picture
served_shown : (o : Option Shown) → is_some o ≡ true → (shown : Shown) × (fitted None o ≡ Ok shown)
served_shown None some = cc
served_shown (Some shown) some = (shown, refl)

cut_off : (o : Option Shown) → is_some o ≡ false → fitted None o ≡ Err refusals.CropOutside
cut_off None none = refl
cut_off (Some shown) none = cc

pub frame_cut_off : (now : SessionState) (n : ℕ) (steps : List Step) (picture : PictureSamples) → frame_of (unsized now) n ≡ frame_made None steps (Ok picture) → is_some (steps_shown steps (shown_in picture)) ≡ false → frame_of (unsized now) n ≡ Err refusals.CropOutside
frame_cut_off now n steps picture is none = is ∙ cut_off (steps_shown steps (shown_in picture)) none

pub frame_refused : (now : SessionState) (n : ℕ) (steps : List Step) (o : Result PictureSamples Refusal) (refusal : Refusal) → frame_of (unsized now) n ≡ frame_made None steps o → o ≡ Err refusal → frame_of (unsized now) n ≡ Err refusal
frame_refused now n steps o refusal is why = is ∙ ap (frame_made None steps) why

pub frame_changed : (now : SessionState) (n node : ℕ) (steps : List Step) (picture : PictureSamples) → source_picture now (traced (shown_counts now) now.script n) ≡ Ok picture → frame_of (unsized now) n ≡ frame_made None steps (Ok picture) → is_some (steps_shown steps (shown_in picture)) ≡ true
    → slice_get (changed_nodes (picture.width, picture.height) (node_steps (shown_counts now) now.script n)) 0 ≡ Some node → IsChanged now n node
frame_changed now n node steps picture decoded is some first =
    let shown = served_shown (steps_shown steps (shown_in picture)) some in
    record { shown = shown.0; served = is ∙ shown.1; picture = picture; decoded = decoded; first = first }

pub changed_if : (now : SessionState) (n : ℕ) (o : Option ℕ) (steps : List Step) (picture : PictureSamples) → source_picture now (traced (shown_counts now) now.script n) ≡ Ok picture → frame_of (unsized now) n ≡ frame_made None steps (Ok picture) → is_some (steps_shown steps (shown_in picture)) ≡ true
    → o ≡ slice_get (changed_nodes (picture.width, picture.height) (node_steps (shown_counts now) now.script n)) 0 → IfSome o (IsChanged now n)
changed_if now n None steps picture decoded is some first = tt
changed_if now n (Some node) steps picture decoded is some first = frame_changed now n node steps picture decoded is some (sym first)

-- ---- the first fault

pub frame_fault : (now : SessionState) (n : ℕ) (fault : ExportFault) → n < frame_count now → CanExport now n → IsFrameFault now n fault → IsNotExported now fault
frame_fault now n (Frame frame refusal) less can why =
    (subst (λ (k : ℕ). k < frame_count now) (sym why.0) less, subst (λ (k : ℕ). CanExport now k) (sym why.0) can, subst (λ (k : ℕ). frame_of (unsized now) k ≡ Err refusal) (sym why.0) why.1)
frame_fault now n (Changed frame node) less can why =
    (subst (λ (k : ℕ). k < frame_count now) (sym why.0) less, subst (λ (k : ℕ). CanExport now k) (sym why.0) can, subst (λ (k : ℕ). IsChanged now k node) (sym why.0) why.1)
frame_fault now n (Packets fault) less can why = absurd why

pub packing_fault : (now : SessionState) (targets : List Target) (fault : ExportFault) → HaveTargets now 0 targets → length targets ≡ frame_count now → IsPackingFault now targets fault → IsNotExported now fault
packing_fault now targets (Frame frame refusal) have all why = absurd why
packing_fault now targets (Changed frame node) have all why = absurd why
packing_fault now targets (Packets cuts.NoMemory) have all why = tt
packing_fault now targets (Packets cuts.Full) have all why = inr (targets, have, all, why.0, why.1)
packing_fault now targets (Packets cuts.Place) have all why =
    let shown = pictures_of now 0 targets have in
    none_missing now.tables (streams_in now) targets shown.0 (are_decoded now 0 targets shown.0 shown.1) why
packing_fault now targets (Packets cuts.Size) have all why = (targets, have, all, why)
packing_fault now targets (Packets cuts.TooLarge) have all why = (targets, have, all, why)

pub packed_why : (now : SessionState) (targets : List Target) (fault : CutFault) → ((fault ≡ cuts.NoMemory → ⊥) → export_fault now.tables (streams_in now) targets ≡ Some fault)
    → (fault ≡ cuts.Full → IsTooLarge (exported now.tables (streams_in now) None targets)) → IsPackingFault now targets (Packets fault)
packed_why now targets cuts.NoMemory why large = tt
packed_why now targets cuts.Full why large = (why (λ is. cc), large refl)
packed_why now targets cuts.Place why large = why (λ is. cc)
packed_why now targets cuts.Size why large = why (λ is. cc)
packed_why now targets cuts.TooLarge why large = why (λ is. cc)
