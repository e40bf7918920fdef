-- The state after a frame.
use Rattle.std.specs.Prelude.{Option, Some, None, if◌then◌else◌}
use Rattle.std.proofs.Common.{◌≡◌, ℕ, Bool, true, false, ◌*◌, List, length, refl, sym, ap, ◌∙◌}
use Rattle.std.specs.Option.{ForSome}
use Rattle.vp8_tables.specs.Tables.{TableEntries}
use Rattle.frame_header.specs.declared.header.Header.{Header}
use Rattle.frame_header.specs.declared.references.Reference.{Reference}
use Rattle.frame_header.specs.declared.references.Reference.TheVariants.{Last, Golden, Altref}
use Rattle.frame_header.specs.declared.references.ReferenceUpdates.{ReferenceUpdates}
use Rattle.mode_parser.specs.FrameModes.{FrameModes}
use Rattle.mode_parser.specs.declared.records.MbMode.{MbMode}
use Rattle.pixel_planes.specs.Pictures.{PictureSamples, macroblocks}
use Rattle.reference_frames.specs.References.{altref_copied, copied, picture_in, references_after}
use Rattle.reference_frames.specs.States.{StateValue, HasMap, HasSize, HaveOneSize}
use Rattle.reference_frames.specs.Steps.{decoded, decoded_picture, frame_modes, height_of, references_before, references_after_frame, width_of}
use Rattle.reference_frames.specs.declared.references.References.{References}
use Rattle.reference_frames.specs.declared.states.State.{State}

-- one of two pictures of a size has it
one_wide : (b : Bool) (one other : PictureSamples) (n : ℕ) → one.width ≡ n → other.width ≡ n → (if b then one else other).width ≡ n
one_wide true one other n a b = a
one_wide false one other n a b = b

one_high : (b : Bool) (one other : PictureSamples) (n : ℕ) → one.height ≡ n → other.height ≡ n → (if b then one else other).height ≡ n
one_high true one other n a b = a
one_high false one other n a b = b

behind_wide : (header : Header) (picture : PictureSamples) (before : Option State) → picture.width ≡ width_of header before → (references_after_frame header picture before).last.width ≡ width_of header before
behind_wide header picture None is = is
behind_wide header picture (Some state) is = one_wide header.references.refreshes_last picture state.references.last state.references.last.width is refl

behind_high : (header : Header) (picture : PictureSamples) (before : Option State) → picture.height ≡ height_of header before → (references_after_frame header picture before).last.height ≡ height_of header before
behind_high header picture None is = is
behind_high header picture (Some state) is = one_high header.references.refreshes_last picture state.references.last state.references.last.height is refl

decoded_wide : (packet : List ℕ) (header : Header) (references : Option References) (width height : ℕ) (modes : List MbMode) → (decoded_picture packet header references width height modes).width ≡ width
unfolding decoded_picture
decoded_wide packet header references width height modes = refl

decoded_high : (packet : List ℕ) (header : Header) (references : Option References) (width height : ℕ) (modes : List MbMode) → (decoded_picture packet header references width height modes).height ≡ height
unfolding decoded_picture
decoded_high packet header references width height modes = refl

-- the last reference after a frame has the size of the frame, and so the segment map that goes with it
pub has_map : (packet : List ℕ) (header : Header) (before : Option State) (sources : Option References) (width height columns rows : ℕ) (modes : List MbMode) (picture : PictureSamples) (state : StateValue) →
    width ≡ width_of header before → height ≡ height_of header before → picture ≡ decoded_picture packet header sources width height modes → state.references ≡ references_after_frame header picture before → columns ≡ macroblocks width → rows ≡ macroblocks height → length state.segment_map ≡ columns * rows → HasMap state
has_map packet header before sources width height columns rows modes picture state wide high picture_is references_are columns_are rows_are long =
    let across : picture.width ≡ width_of header before = ap (λ (p : PictureSamples). p.width) picture_is ∙ decoded_wide packet header sources width height modes ∙ wide in
    let down : picture.height ≡ height_of header before = ap (λ (p : PictureSamples). p.height) picture_is ∙ decoded_high packet header sources width height modes ∙ high in
    rw (references_are, behind_wide header picture before across, behind_high header picture before down, ← wide, ← high, ← columns_are, ← rows_are) long

-- the picture of a reference has the size of all
picture_sized : (references : References) (width height : ℕ) (reference : Reference) → HasSize references.last width height → HasSize references.golden width height → HasSize references.altref width height → HasSize (picture_in references reference) width height
picture_sized references width height Last last golden altref = last
picture_sized references width height Golden last golden altref = golden
picture_sized references width height Altref last golden altref = altref

copied_sized : (references : References) (width height : ℕ) (copy : Option Reference) (own : PictureSamples) → HasSize references.last width height → HasSize references.golden width height → HasSize references.altref width height → HasSize own width height → HasSize (copied references copy own) width height
copied_sized references width height None own last golden altref is = is
copied_sized references width height (Some reference) own last golden altref is = picture_sized references width height reference last golden altref

one_sized : (b : Bool) (one other : PictureSamples) (width height : ℕ) → HasSize one width height → HasSize other width height → HasSize (if b then one else other) width height
one_sized true one other width height a b = a
one_sized false one other width height a b = b

-- references of this size have one size
of_one_size : (references : References) (width height : ℕ) → HasSize references.last width height → HasSize references.golden width height → HasSize references.altref width height → HaveOneSize references
of_one_size references width height last golden altref =
    ((golden.0 ∙ sym last.0, golden.1 ∙ sym last.1), (altref.0 ∙ sym last.0, altref.1 ∙ sym last.1))

after_sized : (updates : ReferenceUpdates) (picture : PictureSamples) (references : References) → HasSize picture references.last.width references.last.height → HaveOneSize references → HaveOneSize (references_after updates picture references)
after_sized updates picture references is one =
    let width = references.last.width in
    let height = references.last.height in
    let last : HasSize references.last width height = (refl, refl) in
    let altref = copied_sized references width height updates.altref_copy references.altref last one.0 one.1 one.1 in
    let golden = copied_sized (altref_copied updates references) width height updates.golden_copy references.golden last one.0 altref one.0 in
    of_one_size (references_after updates picture references) width height
    (one_sized updates.refreshes_last picture references.last width height is last)
    (one_sized updates.refreshes_golden picture _ width height is golden)
    (one_sized updates.refreshes_altref picture _ width height is altref)

-- the references after a frame have one size
pub have_one_size : (packet : List ℕ) (header : Header) (before : Option State) (sources : Option References) (width height : ℕ) (modes : List MbMode) (picture : PictureSamples) (references : References) →
    width ≡ width_of header before → height ≡ height_of header before → picture ≡ decoded_picture packet header sources width height modes → references ≡ references_after_frame header picture before → ForSome before (λ s. HaveOneSize s.references) → HaveOneSize references
have_one_size packet header None sources width height modes picture references wide high picture_is references_are one = rw references_are ((refl, refl), (refl, refl))
have_one_size packet header (Some state) sources width height modes picture references wide high picture_is references_are one =
    let across : picture.width ≡ width_of header (Some state) = ap (λ (p : PictureSamples). p.width) picture_is ∙ decoded_wide packet header sources width height modes ∙ wide in
    let down : picture.height ≡ height_of header (Some state) = ap (λ (p : PictureSamples). p.height) picture_is ∙ decoded_high packet header sources width height modes ∙ high in
    rw references_are (after_sized header.references picture state.references (across, down) (one state refl))

-- the parts of a frame together
pub decoded_whole : (tables : TableEntries) (packet : List ℕ) (header : Header) (before : Option State) (modes : FrameModes) (picture : PictureSamples) (references : References) (map : List ℕ) (state : StateValue) →
    modes ≡ frame_modes tables header before → picture ≡ decoded_picture packet header (references_before before) (width_of header before) (height_of header before) modes.records → references ≡ references_after_frame header picture before → map ≡ modes.segment_map →
    state ≡ record { context = header.context_after; segment_map = map; references = references } → (state, picture) ≡ decoded tables packet header before
decoded_whole tables packet header before modes picture references map state modes_are picture_is references_are map_is state_is = rw (state_is, map_is, references_are, picture_is, modes_are) refl
