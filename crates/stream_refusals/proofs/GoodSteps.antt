-- The picture of each accepted packet is whole, has bytes, and has the size in the first packet of its run.
use Rattle.std.proofs.Common.{◌≡◌, ℕ, zero, suc, ◌+◌, ◌*◌, ◌/◌, ◌<◌, ◌≤◌, ◌==◌, Bool, true, false, cond, List, [], ◌∷◌, length, slice_get, slice_index_or, Option, Some, None, Result, Ok, Err, IfOk, refl, sym, ap, subst, ◌∙◌, arith, inl, inr, zero-add, if◌then◌else◌}
use Rattle.std.specs.Option.{option_map, option_map_or}
use Rattle.std.proofs.lemmas.Bool.{cases_Bool}
use Rattle.std.proofs.lemmas.Option.{get_or_from_slice_get}
use Rattle.vp8_tables.specs.declared.tables.Tables.{Tables}
use Rattle.vp8_tables.specs.Tables.{TableEntries}
use Rattle.frame_header.specs.Header.{header_of}
use Rattle.frame_header.specs.Tags.{has_key_tag, key_size_of}
use Rattle.frame_header.specs.declared.cause.Cause.{Cause}
use Rattle.frame_header.specs.declared.header.Header.{Header}
use Rattle.loop_filter.specs.Frames.{filtered_planes}
use Rattle.mode_parser.specs.declared.records.MbMode.{MbMode}
use Rattle.pixel_planes.specs.Pictures.{IsWholePicture, PictureSamples, macroblocks}
use Rattle.pixel_planes.specs.PlaneSamples.{PlaneSamples}
use Rattle.pixel_planes.specs.Samples.{IsWhole, Samples}
use Rattle.reference_frames.specs.FrameTokens.{flags_of, residual_at, tokens_start}
use Rattle.reference_frames.specs.Steps.{coded_step, decoded, decoded_by, decoded_picture, repeated, step_of}
use Rattle.reference_frames.specs.Unfiltered.{unfiltered}
use Rattle.reference_frames.specs.declared.references.References.{References}
use Rattle.reference_frames.specs.declared.states.State.{State}
use Rattle.stream_steps.specs.Decoding.{Outcome, following, left_by, outcome, outcomes, reported_at}
use Rattle.stream_refusals.specs.GoodPictures.{HasBytes, IsOfRun, PicturesAreOfRuns}
use Rattle.stream_refusals.specs.Refusals.{key_tag_at, run_start}
use Rattle.stream_refusals.proofs.ByteLines.{small-at}
use Rattle.stream_refusals.proofs.BytePlanes.{ArePlanesOf, IsPlaneOf, filtered-are, unfiltered-planes}
use Rattle.stream_refusals.proofs.KeySizes.{AreSides, key-sides, key-size}
use Rattle.stream_refusals.proofs.Refused.{FirstOutcome, NextOutcome, first-outcome, key-tag, next-outcome, run_start-key, run_start-plain}
use Rattle.stream_steps.proofs.Starts.{either_ok}

-- ---- pictures

some-blocks : (n : ℕ) → 0 < n → n ≤ 16383 → (0 < macroblocks n) × (macroblocks n ≤ 1024)
some-blocks n some few = (omega (arith, some), omega (arith, few))

whole-plane : (side columns rows : ℕ) (p : Samples) → 0 < side → side ≤ 16 → (0 < columns) × (columns ≤ 1024) → (0 < rows) × (rows ≤ 1024) → IsPlaneOf (side * columns) (side * rows) p → IsWhole p
whole-plane side columns rows p some small wide high is =
    let w : p.width ≡ side * columns = is.wide in
    let h : p.height ≡ side * rows = is.high in
    let long : length p.samples ≡ p.width * p.height = is.long ∙ ap (λ (n : ℕ). n * (side * rows)) (sym w) ∙ ap (λ (n : ℕ). p.width * n) (sym h) in
    (grind (arith, w, wide.0, some), grind (arith, w, wide.1, small), grind (arith, h, high.0, some), grind (arith, h, high.1, small), long)

has-bytes : (width height : ℕ) (planes : PlaneSamples) → AreSides width height → ArePlanesOf (macroblocks width) (macroblocks height) planes → HasBytes (record { width = width; height = height; luma = planes.luma; cb = planes.cb; cr = planes.cr })
has-bytes width height planes sides are =
    let wide = some-blocks width sides.wide.0 sides.wide.1 in
    let high = some-blocks height sides.high.0 sides.high.1 in
    record {
      whole = (
        sides.wide.0,
        sides.wide.1,
        sides.high.0,
        sides.high.1,
        ((are.luma.wide, are.luma.high), (are.cb.wide, are.cb.high), (are.cr.wide, are.cr.high)),
        whole-plane 16 (macroblocks width) (macroblocks height) planes.luma (omega arith) (omega arith) wide high are.luma,
        whole-plane 8 (macroblocks width) (macroblocks height) planes.cb (omega arith) (omega arith) wide high are.cb,
        whole-plane 8 (macroblocks width) (macroblocks height) planes.cr (omega arith) (omega arith) wide high are.cr,
      );
      luma = small-at planes.luma.samples are.luma.small;
      cb = small-at planes.cb.samples are.cb.small;
      cr = small-at planes.cr.samples are.cr.small;
    }

picture-bytes : (packet : List ℕ) (header : Header) (references : Option References) (width height : ℕ) (modes : List MbMode) → AreSides width height → HasBytes (decoded_picture packet header references width height modes)
unfolding decoded_picture
picture-bytes packet header references width height modes sides =
    let columns : ℕ = macroblocks width in
    let rows : ℕ = macroblocks height in
    let start = tokens_start header.partitions.items packet columns in
    let planes : PlaneSamples = unfiltered header.version references columns rows modes (residual_at header columns start modes) in
    has-bytes width height (filtered_planes header modes (flags_of header columns start modes) planes) sides
    (filtered-are columns rows header modes (flags_of header columns start modes) planes (unfiltered-planes header.version references columns rows modes (residual_at header columns start modes)))

-- ---- steps

-- a picture has this size, and bytes
pub record IsSized (size : Option (ℕ × ℕ)) (picture : PictureSamples) : Type 0 where
  pub bytes : HasBytes picture
  pub is : size ≡ Some (picture.width, picture.height)

-- the picture of a step, and the last reference after it
pub record IsGood (size : Option (ℕ × ℕ)) (step : State × PictureSamples) : Type 0 where
  pub picture : IsSized size step.1
  pub last : IsSized size step.0.references.last

picture-width : (packet : List ℕ) (header : Header) (references : Option References) (width height : ℕ) (modes : List MbMode) → (decoded_picture packet header references width height modes).width ≡ width
unfolding decoded_picture
picture-width packet header references width height modes = refl

picture-height : (packet : List ℕ) (header : Header) (references : Option References) (width height : ℕ) (modes : List MbMode) → (decoded_picture packet header references width height modes).height ≡ height
unfolding decoded_picture
picture-height packet header references width height modes = refl

picture-sized : (size : Option (ℕ × ℕ)) (packet : List ℕ) (header : Header) (references : Option References) (width height : ℕ) (modes : List MbMode) → AreSides width height → size ≡ Some (width, height) → IsSized size (decoded_picture packet header references width height modes)
picture-sized size packet header references width height modes sides is = record {
  bytes = picture-bytes packet header references width height modes sides;
  is =
      is ∙ ap (λ (w : ℕ). let o : Option (ℕ × ℕ) = Some (w, height) in o) (sym (picture-width packet header references width height modes))
      ∙ ap (λ (h : ℕ). let o : Option (ℕ × ℕ) = Some ((decoded_picture packet header references width height modes).width, h) in o) (sym (picture-height packet header references width height modes));
}

-- of a key frame
key-decoded : (tables : TableEntries) (packet : List ℕ) (header : Header) (key : Bool) → key_size_of packet ≡ Some (header.width, header.height) → IsGood (key_size_of packet) (decoded tables packet header (if key then None else None))
key-decoded tables packet header true is = let p = picture-sized (key_size_of packet) packet header None header.width header.height _ (key-sides packet header.width header.height is) is in record { picture = p; last = p }
key-decoded tables packet header false is = let p = picture-sized (key_size_of packet) packet header None header.width header.height _ (key-sides packet header.width header.height is) is in record { picture = p; last = p }

key-by-header : (tables : TableEntries) (packet : List ℕ) (header : Result Header Cause) → IfOk header (λ h. key_size_of packet ≡ Some (h.width, h.height)) → IfOk (decoded_by tables packet None header) (IsGood (key_size_of packet))
key-by-header tables packet (Err cause) is = tt
key-by-header tables packet (Ok header) is = key-decoded tables packet header (has_key_tag packet) is

first-step : (tables : TableEntries) (packet : List ℕ) → IfOk (step_of tables None packet) (IsGood (key_size_of packet))
unfolding step_of
first-step tables packet =
    either_ok (IsGood (key_size_of packet)) (length packet == 0) (repeated None) (coded_step tables None packet) tt (key-by-header tables packet (header_of tables None packet) (key-size tables packet))

-- of a later frame
either-sized : (size : Option (ℕ × ℕ)) (b : Bool) (x y : PictureSamples) → IsSized size x → IsSized size y → IsSized size (if b then x else y)
either-sized size true x y first second = first
either-sized size false x y first second = second

sides-of : (size : Option (ℕ × ℕ)) (picture : PictureSamples) → IsSized size picture → AreSides picture.width picture.height
sides-of size picture is = let whole : IsWholePicture picture = is.bytes.whole in record { wide = (whole.0, whole.1); high = (whole.2, whole.3) }

later-decoded : (size : Option (ℕ × ℕ)) (tables : TableEntries) (packet : List ℕ) (header : Header) (state : State) (key : Bool) → key ≡ false → IsSized size state.references.last → IsGood size (decoded tables packet header (if key then None else Some state))
later-decoded size tables packet header state true plain last = cc
later-decoded size tables packet header state false plain last =
    let p = picture-sized size packet header (Some state.references) state.references.last.width state.references.last.height _ (sides-of size state.references.last last) last.is in
    record { picture = p; last = either-sized size header.references.refreshes_last _ state.references.last p last }

later-by-header : (size : Option (ℕ × ℕ)) (tables : TableEntries) (packet : List ℕ) (state : State) (header : Result Header Cause) → has_key_tag packet ≡ false → IsSized size state.references.last → IfOk (decoded_by tables packet (Some state) header) (IsGood size)
later-by-header size tables packet state (Err cause) plain last = tt
later-by-header size tables packet state (Ok header) plain last = later-decoded size tables packet header state (has_key_tag packet) plain last

later-step : (size : Option (ℕ × ℕ)) (tables : TableEntries) (packet : List ℕ) (state : State) → has_key_tag packet ≡ false → IsSized size state.references.last → IfOk (step_of tables (Some state) packet) (IsGood size)
unfolding step_of
later-step size tables packet state plain last =
    either_ok (IsGood size) (length packet == 0) (repeated (Some state)) (coded_step tables (Some state) packet) (record { picture = last; last = last })
    (later-by-header size tables packet state (header_of tables (option_map (λ (s : State). s.context) (Some state)) packet) plain last)

-- ---- outcomes

run_size : List (List ℕ) → ℕ → Option (ℕ × ℕ)
run_size packets place = key_size_of (slice_index_or packets (run_start packets place) [])

good-at : (P : State × PictureSamples → Type 0) (place : ℕ) (step : Result (State × PictureSamples) Cause) → IfOk step P → IfOk (reported_at place step) P
good-at P place (Ok step) good = good
good-at P place (Err cause) good = tt

fresh : (tables : Tables) (packets : List (List ℕ)) (place : ℕ) (packet : List ℕ) → slice_get packets place ≡ Some packet → run_start packets place ≡ place → IfOk (reported_at place (step_of tables None packet)) (IsGood (run_size packets place))
unfolding run_size
fresh tables packets place packet here start =
    let first : slice_index_or packets (run_start packets place) [] ≡ packet = ap (λ (n : ℕ). slice_index_or packets n []) start ∙ get_or_from_slice_get packets place packet [] here in
    subst (λ (p : List ℕ). IfOk (reported_at place (step_of tables None packet)) (IsGood (key_size_of p))) (sym first) (good-at (IsGood (key_size_of packet)) place (step_of tables None packet) (first-step tables packet))

later : (size : Option (ℕ × ℕ)) (tables : Tables) (place : ℕ) (before : Outcome) (packet : List ℕ) → has_key_tag packet ≡ false → IfOk before (IsGood size) → IfOk (following tables (suc place) (left_by before) packet) (IsGood size)
later size tables place (Err broken) packet plain good = tt
later size tables place (Ok step) packet plain good = good-at (IsGood size) (suc place) (step_of tables (Some step.0) packet) (later-step size tables packet step.0 plain good.last)

by-key : (tables : Tables) (place : ℕ) (before : Outcome) (packet : List ℕ) (P : State × PictureSamples → Type 0) (key : Bool) → has_key_tag packet ≡ key → IfOk (cond key (reported_at place (step_of tables None packet)) (following tables place (left_by before) packet)) P
    → IfOk (outcome tables place (left_by before) packet) P
by-key tables place before packet P key is good = subst (λ (b : Bool). IfOk (cond b (reported_at place (step_of tables None packet)) (following tables place (left_by before) packet)) P) (sym is) good

next : (tables : Tables) (packets : List (List ℕ)) (place : ℕ) (before : Outcome) (packet : List ℕ) → slice_get packets (suc place) ≡ Some packet → IfOk before (IsGood (run_size packets place))
    → IfOk (outcome tables (suc place) (left_by before) packet) (IsGood (run_size packets (suc place)))
unfolding run_size
next tables packets place before packet here good = elim (cases_Bool (has_key_tag packet)) [
  | inl key ↦
      let start : run_start packets (suc place) ≡ suc place = run_start-key packets place (key-tag packets (suc place) packet here ∙ key) in
      by-key tables (suc place) before packet (IsGood (run_size packets (suc place))) true key (fresh tables packets (suc place) packet here start)
  | inr plain ↦
      let same : run_start packets place ≡ run_start packets (suc place) = sym (run_start-plain packets place (key-tag packets (suc place) packet here ∙ plain)) in
      by-key tables (suc place) before packet (IsGood (run_size packets (suc place))) false plain
      (subst (λ (n : ℕ). IfOk (following tables (suc place) (left_by before) packet) (IsGood (key_size_of (slice_index_or packets n [])))) same (later (run_size packets place) tables place before packet plain good))
]

same-if : {A : Type 0} (b : Bool) (x : A) → (if b then x else x) ≡ x
same-if true x = refl
same-if false x = refl

first : (tables : Tables) (packets : List (List ℕ)) (packet : List ℕ) → slice_get packets 0 ≡ Some packet → IfOk (outcome tables 0 (Ok None) packet) (IsGood (run_size packets 0))
first tables packets packet here =
    subst (λ (o : Outcome). IfOk o (IsGood (run_size packets 0))) (sym (same-if (has_key_tag packet) (reported_at 0 (step_of tables None packet)))) (fresh tables packets 0 packet here refl)

good : (tables : Tables) (packets : List (List ℕ)) (place : ℕ) (found : Outcome) → slice_get (outcomes tables packets) place ≡ Some found → IfOk found (IsGood (run_size packets place))
good tables packets zero found at =
    let one : FirstOutcome tables 0 (Ok None) packets found = first-outcome tables 0 (Ok None) packets found at in
    subst (λ (o : Outcome). IfOk o (IsGood (run_size packets 0))) one.is (first tables packets one.packet one.here)
good tables packets (suc place) found at =
    let one : NextOutcome tables 0 (Ok None) packets place found = next-outcome tables 0 (Ok None) packets place found at in
    let index : suc place ≡ 0 + suc place = sym (zero-add (suc place)) in
    subst (λ (o : Outcome). IfOk o (IsGood (run_size packets (suc place)))) (ap (λ (n : ℕ). outcome tables n (left_by one.before) one.packet) index ∙ one.is)
    (next tables packets place one.before one.packet one.here (good tables packets place one.before one.was))

pub pictures_of_runs : PicturesAreOfRuns
unfolding run_size
pictures_of_runs tables packets place step at = let is : IsGood (run_size packets place) step = good tables packets place (Ok step) at in record { bytes = is.picture.bytes; size = is.picture.is }
