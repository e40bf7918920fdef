-- A frame does not depend on where its token partitions are, only on their readers.
use Rattle.std.proofs.Common.{◌≡◌, ℕ, zero, suc, ◌*◌, ◌==◌, ◌≤◌, Bool, true, false, List, [], ◌∷◌, length, map, Option, Result, Ok, Err, IfOk, IsOk, refl, sym, ap, ◌∙◌, arith, inl, inr, slice_get, if◌then◌else◌}
use mathlib.Core.Path.{fun_ext}
use Rattle.std.specs.Option.{option_map, option_map_or}
use Rattle.std.specs.List.{range_with_len}
use Rattle.std.proofs.Math.Dec.{eqb-suc-zero}
use Rattle.std.proofs.lemmas.Bool.{lt-leb, cases_lt}
use Rattle.vp8_tables.specs.Tables.{TableEntries}
use Rattle.bool_coder.specs.Reading.{Reading}
use Rattle.frame_header.specs.Header.{header_of}
use Rattle.frame_header.specs.Padding.{ends_empty, header_padded, one_longer, padded, readers_of, with_longer_last, with_zero}
use Rattle.frame_header.specs.Tags.{has_key_tag}
use Rattle.frame_header.specs.declared.cause.Cause.{Cause}
use Rattle.frame_header.specs.declared.context.Context.{Context}
use Rattle.frame_header.specs.declared.header.Header.{Header}
use Rattle.frame_header.specs.declared.tag_fields.Tag.{Tag}
use Rattle.frame_header.proofs.PaddingLemmas.{header_of-zero, length-zero, readers_of-zero, tag_of-zero}
use Rattle.frame_header.proofs.PartitionLemmas.{ends_has_tag, padding_keeps_headers}
use Rattle.mode_parser.specs.FrameModes.{FrameModes, first_modes, mode_at, modes_of}
use Rattle.mode_parser.specs.InterRecords.{inter_mode, referenced_mode}
use Rattle.mode_parser.specs.Segments.{map_after, segment_at}
use Rattle.mode_parser.specs.declared.records.MbMode.{MbMode}
use Rattle.pixel_planes.specs.Pictures.{PictureSamples, macroblocks}
use Rattle.pixel_planes.specs.PlaneSamples.{PlaneSamples, picture_of}
use Rattle.loop_filter.specs.Frames.{filtered_planes, strength_at, strength_of}
use Rattle.loop_filter.specs.Levels.{level_of}
use Rattle.transforms.specs.Factors.{factors_of}
use Rattle.reference_frames.specs.FrameTokens.{TokenState, flag_at, flags_of, residual_at, state_after, token_state, tokens_start}
use Rattle.reference_frames.specs.Restored.{Residual}
use Rattle.reference_frames.specs.Steps.{decoded, decoded_picture, frame_modes, height_of, references_before, state_before, state_with, step_of, width_of}
use Rattle.reference_frames.specs.Unfiltered.{unfiltered}
use Rattle.reference_frames.specs.declared.references.References.{References}
use Rattle.reference_frames.specs.declared.states.State.{State}

modes-zero : (n : ℕ) (tables : TableEntries) (header : Header) (columns rows : ℕ) (before : Option (List ℕ))
    → first_modes n tables (with_longer_last header) columns rows before ≡ first_modes n tables header columns rows before
unfolding first_modes mode_at segment_at inter_mode referenced_mode
modes-zero zero tables header columns rows before = refl
modes-zero (suc place) tables header columns rows before = rw (modes-zero place tables header columns rows before) refl

tokens-zero : (n : ℕ) (header : Header) (columns : ℕ) (start : TokenState) (modes : List MbMode)
    → token_state (with_longer_last header) columns start modes n ≡ token_state header columns start modes n
unfolding token_state
tokens-zero zero header columns start modes = refl
tokens-zero (suc n) header columns start modes = ap (λ (state : TokenState). state_after header columns state n (slice_get modes n)) (tokens-zero n header columns start modes)

residual-zero : (header : Header) (columns : ℕ) (start : TokenState) (modes : List MbMode) (n : ℕ)
    → residual_at (with_longer_last header) columns start modes n ≡ residual_at header columns start modes n
unfolding residual_at factors_of
residual-zero header columns start modes n = rw (tokens-zero n header columns start modes) refl

flag-zero : (header : Header) (columns : ℕ) (start : TokenState) (modes : List MbMode) (n : ℕ)
    → flag_at (with_longer_last header) columns start modes n ≡ flag_at header columns start modes n
unfolding flag_at
flag-zero header columns start modes n = rw (tokens-zero n header columns start modes) refl

filtered-zero : (header : Header) (records : List MbMode) (flags : List Bool) (planes : PlaneSamples)
    → filtered_planes (with_longer_last header) records flags planes ≡ filtered_planes header records flags planes
unfolding filtered_planes strength_at strength_of level_of
filtered-zero header records flags planes = refl

picture-zero : (packet longer : List ℕ) (header : Header) (references : Option References) (width height : ℕ) (modes : List MbMode)
    → readers_of longer (one_longer header.partitions.items) ≡ readers_of packet header.partitions.items
    → decoded_picture longer (with_longer_last header) references width height modes ≡ decoded_picture packet header references width height modes
unfolding decoded_picture
picture-zero packet longer header references width height modes read =
    let columns : ℕ = macroblocks width in
    let start : TokenState = tokens_start header.partitions.items packet columns in
    let other : Header = with_longer_last header in
    let begun : tokens_start (one_longer header.partitions.items) longer columns ≡ start = ap (λ readers. record start { readers = readers }) read in
    let residuals : residual_at other columns start modes ≡ residual_at header columns start modes = fun_ext (residual-zero header columns start modes) in
    let flags : flag_at other columns start modes ≡ flag_at header columns start modes = fun_ext (flag-zero header columns start modes) in
    let planes : PlaneSamples = unfiltered header.version references columns (macroblocks height) modes (residual_at header columns start modes) in
    ap (λ (s : TokenState). picture_of width height (filtered_planes other modes (flags_of other columns s modes) (unfiltered header.version references columns (macroblocks height) modes (residual_at other columns s modes)))) begun
    ∙ ap (λ (residual : ℕ → Residual). picture_of width height (filtered_planes other modes (flags_of other columns start modes) (unfiltered header.version references columns (macroblocks height) modes residual))) residuals
    ∙ ap (λ (flag : ℕ → Bool). picture_of width height (filtered_planes other modes (map flag (range_with_len 0 (length modes))) planes)) flags
    ∙ ap (picture_of width height) (filtered-zero header modes (flags_of header columns start modes) planes)

frame_modes-zero : (tables : TableEntries) (header : Header) (columns rows : ℕ) (before : Option (List ℕ))
    → modes_of tables (with_longer_last header) columns rows before ≡ modes_of tables header columns rows before
frame_modes-zero tables header columns rows before =
    ap (λ (records : Reading (List MbMode)). let read = records header.reader in let modes : FrameModes = record { records = read.0; segment_map = map_after header (columns * rows) before read.0; left = length read.1.rest } in modes)
    (modes-zero (columns * rows) tables header columns rows before)

decoded-zero : (tables : TableEntries) (packet longer : List ℕ) (header : Header) (before : Option State)
    → readers_of longer (one_longer header.partitions.items) ≡ readers_of packet header.partitions.items
    → decoded tables longer (with_longer_last header) before ≡ decoded tables packet header before
decoded-zero tables packet longer header before read =
    let references : Option References = references_before before in
    let width : ℕ = width_of header before in
    let height : ℕ = height_of header before in
    let modes : FrameModes = frame_modes tables header before in
    let same : frame_modes tables (with_longer_last header) before ≡ modes = frame_modes-zero tables header (macroblocks width) (macroblocks height) (option_map (λ (s : State). s.segment_map) before) in
    ap (λ (ms : FrameModes). let picture = decoded_picture longer (with_longer_last header) references width height ms.records in let step : State × PictureSamples = (state_with header ms picture before, picture) in step) same
    ∙ ap (λ (picture : PictureSamples). let step : State × PictureSamples = (state_with header modes picture before, picture) in step) (picture-zero packet longer header references width height modes.records read)

has_bytes : (packet : List ℕ) → 1 ≤ length packet → (length packet == 0) ≡ false
has_bytes [] some = absurd (omega arith)
has_bytes (byte ∷ bytes) some = eqb-suc-zero (length bytes)

-- a packet that is accepted has a tag
accepted_has_tag : (tables : TableEntries) (before : Option Context) (packet : List ℕ) (header : Header) → header_of tables before packet ≡ Ok header → 3 ≤ length packet
unfolding header_of
accepted_has_tag tables before packet header is =
    elim (cases_lt (length packet) 3) [
      | inl short ↦ absurd (let refused = rw (lt-leb 3 (length packet) short) at is in cc)
      | inr enough ↦ enough
    ]

stepped : (tables : TableEntries) (state : Option State) (packet : List ℕ) (result : Result Header Cause) → header_of tables (option_map (λ s. s.context) state) packet ≡ result
    → IfOk result (λ header. header_of tables (option_map (λ s. s.context) state) (with_zero packet) ≡ Ok (with_longer_last header))
    → IfOk result (λ header. readers_of (with_zero packet) (one_longer header.partitions.items) ≡ readers_of packet header.partitions.items)
    → IsOk result → step_of tables state (with_zero packet) ≡ step_of tables state packet
unfolding step_of
stepped tables state packet (Err cause) is longer read accepted = absurd (let never = accepted in cc)
stepped tables state packet (Ok header) is longer read accepted =
    let enough : 3 ≤ length packet = accepted_has_tag tables (option_map (λ (s : State). s.context) state) packet header is in
    let some : (length packet == 0) ≡ false = has_bytes packet (omega arith) in
    let more : (length (with_zero packet) == 0) ≡ false = has_bytes (with_zero packet) (omega (arith, length-zero packet)) in
    let key : has_key_tag (with_zero packet) ≡ has_key_tag packet = ap (λ (t : Option Tag). option_map_or (λ (u : Tag). u.key) t false) (tag_of-zero packet enough) in
    rw (some, more, is, longer, key) (ap (λ (d : State × PictureSamples). Ok d) (decoded-zero tables packet (with_zero packet) header (state_before packet state) read))

pub zeros_keep_steps : (tables : TableEntries) (state : Option State) (packet : List ℕ) → IsOk (header_of tables (option_map (λ s. s.context) state) packet) → step_of tables state (with_zero packet) ≡ step_of tables state packet
zeros_keep_steps tables state packet accepted =
    let before : Option Context = option_map (λ (s : State). s.context) state in
    stepped tables state packet _ refl (header_of-zero tables before packet) (readers_of-zero tables before packet) accepted

-- a padded packet is refused for the same cause
refused_step : (tables : TableEntries) (state : Option State) (packet : List ℕ) (cause : Cause) → 3 ≤ length packet → header_of tables (option_map (λ s. s.context) state) packet ≡ Err cause
    → header_of tables (option_map (λ s. s.context) state) (with_zero packet) ≡ Err cause → step_of tables state (with_zero packet) ≡ step_of tables state packet
unfolding step_of
refused_step tables state packet cause enough is longer =
    let some : (length packet == 0) ≡ false = has_bytes packet (omega arith) in
    let more : (length (with_zero packet) == 0) ≡ false = has_bytes (with_zero packet) (omega (arith, length-zero packet)) in
    rw (some, more, is, longer) refl

padded_by : (tables : TableEntries) (state : Option State) (packet : List ℕ) (result : Result Header Cause) → ends_empty packet ≡ true → header_of tables (option_map (λ s. s.context) state) packet ≡ result
    → header_of tables (option_map (λ s. s.context) state) (with_zero packet) ≡ header_padded packet result → step_of tables state (with_zero packet) ≡ step_of tables state packet
padded_by tables state packet (Ok header) ends is longer = zeros_keep_steps tables state packet (rw is refl)
padded_by tables state packet (Err cause) ends is longer = refused_step tables state packet cause (ends_has_tag packet ends) is longer

padded_step : (tables : TableEntries) (state : Option State) (packet : List ℕ) (ends : Bool) → ends_empty packet ≡ ends → step_of tables state (padded packet) ≡ step_of tables state packet
padded_step tables state packet false is = ap (λ (b : Bool). step_of tables state (if b then with_zero packet else packet)) is
padded_step tables state packet true is =
    let before : Option Context = option_map (λ (s : State). s.context) state in
    let longer : header_of tables before (with_zero packet) ≡ header_padded packet (header_of tables before packet) = sym (ap (λ (b : Bool). header_of tables before (if b then with_zero packet else packet)) is) ∙ padding_keeps_headers tables before packet in
    ap (λ (b : Bool). step_of tables state (if b then with_zero packet else packet)) is ∙ padded_by tables state packet _ is refl longer

pub padding_keeps_steps : (tables : TableEntries) (state : Option State) (packet : List ℕ) → step_of tables state (padded packet) ≡ step_of tables state packet
padding_keeps_steps tables state packet = padded_step tables state packet _ refl
