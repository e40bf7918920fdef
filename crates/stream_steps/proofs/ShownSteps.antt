-- The step of a packet with its show bit changed.
use Rattle.std.proofs.Common.{◌≡◌, ℕ, zero, suc, ◌*◌, ◌==◌, Bool, List, length, map, slice_get, Option, None, Result, Ok, Err, IfOk, refl, ap, ◌∙◌, if◌then◌else◌}
use mathlib.Core.Path.{fun_ext}
use Rattle.std.specs.Option.{option_map}
use Rattle.std.specs.List.{range_with_len}
use Rattle.vp8_tables.specs.Tables.{TableEntries}
use Rattle.bool_coder.specs.Reading.{Reading}
use Rattle.frame_header.specs.Header.{header_of}
use Rattle.frame_header.specs.Padding.{readers_of}
use Rattle.frame_header.specs.Tags.{has_key_tag}
use Rattle.frame_header.specs.declared.cause.Cause.{Cause}
use Rattle.frame_header.specs.declared.context.Context.{Context}
use Rattle.frame_header.specs.declared.header.Header.{Header}
use Rattle.mode_parser.specs.FrameModes.{FrameModes, first_modes, mode_at, modes_of}
use Rattle.mode_parser.specs.InterRecords.{inter_mode, referenced_mode}
use Rattle.mode_parser.specs.Segments.{map_after, segment_at}
use Rattle.mode_parser.specs.declared.records.MbMode.{MbMode}
use Rattle.pixel_planes.specs.Pictures.{PictureSamples, macroblocks}
use Rattle.pixel_planes.specs.PlaneSamples.{PlaneSamples, picture_of}
use Rattle.loop_filter.specs.Frames.{filtered_planes, strength_at, strength_of}
use Rattle.loop_filter.specs.Levels.{level_of}
use Rattle.transforms.specs.Factors.{factors_of}
use Rattle.reference_frames.specs.FrameTokens.{TokenState, flag_at, flags_of, residual_at, state_after, token_state, tokens_start}
use Rattle.reference_frames.specs.Restored.{Residual}
use Rattle.reference_frames.specs.Steps.{decoded, decoded_by, decoded_picture, frame_modes, height_of, references_before, repeated, state_before, state_with, step_of, width_of}
use Rattle.reference_frames.specs.Unfiltered.{unfiltered}
use Rattle.reference_frames.specs.declared.references.References.{References}
use Rattle.reference_frames.specs.declared.states.State.{State}
use Rattle.frame_header.specs.ShowLaws.{LeavesTheRest, OnlyTheBitChanges, TagHasShowBit}
use Rattle.frame_header.specs.ShowBits.{with_show_bit}
use Rattle.stream_steps.proofs.Alike.{AreAlike, alike}
use Rattle.stream_steps.proofs.ShownHeaders.{changed, header_changed, header_readers, header_showing}

modes-shown : (shown : Bool) (n : ℕ) (tables : TableEntries) (header : Header) (columns rows : ℕ) (before : Option (List ℕ))
    → first_modes n tables (header_showing shown header) columns rows before ≡ first_modes n tables header columns rows before
unfolding first_modes mode_at segment_at inter_mode referenced_mode
modes-shown shown zero tables header columns rows before = refl
modes-shown shown (suc place) tables header columns rows before = rw (modes-shown shown place tables header columns rows before) refl

tokens-shown : (shown : Bool) (n : ℕ) (header : Header) (columns : ℕ) (start : TokenState) (modes : List MbMode)
    → token_state (header_showing shown header) columns start modes n ≡ token_state header columns start modes n
unfolding token_state
tokens-shown shown zero header columns start modes = refl
tokens-shown shown (suc n) header columns start modes = ap (λ (state : TokenState). state_after header columns state n (slice_get modes n)) (tokens-shown shown n header columns start modes)

residual-shown : (shown : Bool) (header : Header) (columns : ℕ) (start : TokenState) (modes : List MbMode) (n : ℕ)
    → residual_at (header_showing shown header) columns start modes n ≡ residual_at header columns start modes n
unfolding residual_at factors_of
residual-shown shown header columns start modes n = rw (tokens-shown shown n header columns start modes) refl

flag-shown : (shown : Bool) (header : Header) (columns : ℕ) (start : TokenState) (modes : List MbMode) (n : ℕ)
    → flag_at (header_showing shown header) columns start modes n ≡ flag_at header columns start modes n
unfolding flag_at
flag-shown shown header columns start modes n = rw (tokens-shown shown n header columns start modes) refl

filtered-shown : (shown : Bool) (header : Header) (records : List MbMode) (flags : List Bool) (planes : PlaneSamples)
    → filtered_planes (header_showing shown header) records flags planes ≡ filtered_planes header records flags planes
unfolding filtered_planes strength_at strength_of level_of
filtered-shown shown header records flags planes = refl

picture-shown : (shown : Bool) (packet other : List ℕ) (header : Header) (references : Option References) (width height : ℕ) (modes : List MbMode)
    → readers_of other header.partitions.items ≡ readers_of packet header.partitions.items
    → decoded_picture other (header_showing shown header) references width height modes ≡ decoded_picture packet header references width height modes
unfolding decoded_picture
picture-shown shown packet other header references width height modes read =
    let columns : ℕ = macroblocks width in
    let start : TokenState = tokens_start header.partitions.items packet columns in
    let changed_header : Header = header_showing shown header in
    let begun : tokens_start header.partitions.items other columns ≡ start = ap (λ readers. record start { readers = readers }) read in
    let residuals : residual_at changed_header columns start modes ≡ residual_at header columns start modes = fun_ext (residual-shown shown header columns start modes) in
    let flags : flag_at changed_header columns start modes ≡ flag_at header columns start modes = fun_ext (flag-shown shown header columns start modes) in
    let planes : PlaneSamples = unfiltered header.version references columns (macroblocks height) modes (residual_at header columns start modes) in
    ap (λ (s : TokenState). picture_of width height (filtered_planes changed_header modes (flags_of changed_header columns s modes) (unfiltered header.version references columns (macroblocks height) modes (residual_at changed_header columns s modes)))) begun
    ∙ ap (λ (residual : ℕ → Residual). picture_of width height (filtered_planes changed_header modes (flags_of changed_header columns start modes) (unfiltered header.version references columns (macroblocks height) modes residual))) residuals
    ∙ ap (λ (flag : ℕ → Bool). picture_of width height (filtered_planes changed_header modes (map flag (range_with_len 0 (length modes))) planes)) flags
    ∙ ap (picture_of width height) (filtered-shown shown header modes (flags_of header columns start modes) planes)

frame_modes-shown : (shown : Bool) (tables : TableEntries) (header : Header) (columns rows : ℕ) (before : Option (List ℕ))
    → modes_of tables (header_showing shown header) columns rows before ≡ modes_of tables header columns rows before
frame_modes-shown shown tables header columns rows before =
    ap (λ (records : Reading (List MbMode)). let read = records header.reader in let modes : FrameModes = record { records = read.0; segment_map = map_after header (columns * rows) before read.0; left = length read.1.rest } in modes)
    (modes-shown shown (columns * rows) tables header columns rows before)

decoded-shown : (shown : Bool) (tables : TableEntries) (packet other : List ℕ) (header : Header) (before : Option State)
    → readers_of other header.partitions.items ≡ readers_of packet header.partitions.items
    → decoded tables other (header_showing shown header) before ≡ decoded tables packet header before
decoded-shown shown tables packet other header before read =
    let references : Option References = references_before before in
    let width : ℕ = width_of header before in
    let height : ℕ = height_of header before in
    let modes : FrameModes = frame_modes tables header before in
    let same : frame_modes tables (header_showing shown header) before ≡ modes = frame_modes-shown shown tables header (macroblocks width) (macroblocks height) (option_map (λ (s : State). s.segment_map) before) in
    ap (λ (ms : FrameModes). let picture = decoded_picture other (header_showing shown header) references width height ms.records in let step : State × PictureSamples = (state_with header ms picture before, picture) in step) same
    ∙ ap (λ (picture : PictureSamples). let step : State × PictureSamples = (state_with header modes picture before, picture) in step) (picture-shown shown packet other header references width height modes.records read)

-- the result for a header, which may have a cause
by_header : (shown : Bool) (tables : TableEntries) (state : Option State) (packet other : List ℕ) (result : Result Header Cause) → has_key_tag other ≡ has_key_tag packet
    → IfOk result (λ header. readers_of other header.partitions.items ≡ readers_of packet header.partitions.items)
    → decoded_by tables other state (changed (header_showing shown) result) ≡ decoded_by tables packet state result
by_header shown tables state packet other (Err cause) key read = refl
by_header shown tables state packet other (Ok header) key read =
    ap (λ (is_key : Bool). let before : Option State = if is_key then None else state in let step : Result (State × PictureSamples) Cause = Ok (decoded tables other (header_showing shown header) before) in step) key
    ∙ ap (λ (d : State × PictureSamples). let step : Result (State × PictureSamples) Cause = Ok d in step) (decoded-shown shown tables packet other header (state_before packet state) read)

stepped : (shown : Bool) (tables : TableEntries) (state : Option State) (packet other : List ℕ) → length other ≡ length packet
    → decoded_by tables other state (header_of tables (option_map (λ s. s.context) state) other) ≡ decoded_by tables packet state (header_of tables (option_map (λ s. s.context) state) packet)
    → step_of tables state other ≡ step_of tables state packet
unfolding step_of
stepped shown tables state packet other count same =
    ap (λ (bytes : ℕ). let step : Result (State × PictureSamples) Cause = if bytes == 0 then repeated state else decoded_by tables other state (header_of tables (option_map (λ (s : State). s.context) state) other) in step) count
    ∙ ap (λ (coded : Result (State × PictureSamples) Cause). if length packet == 0 then repeated state else coded) same

pub show_bit_keeps_steps : TagHasShowBit → OnlyTheBitChanges → (tables : TableEntries) (state : Option State) (shown : Bool) (packet : List ℕ) → step_of tables state (with_show_bit shown packet) ≡ step_of tables state packet
show_bit_keeps_steps tags rest tables state shown packet =
    let other : List ℕ = with_show_bit shown packet in
    let before : Option Context = option_map (λ (s : State). s.context) state in
    let left : LeavesTheRest shown packet = rest shown packet in
    let same : AreAlike packet other = alike packet other left.count left.later in
    let header : header_of tables before other ≡ changed (header_showing shown) (header_of tables before packet) = header_changed tables before shown packet other same (tags shown packet) left.key_tag in
    stepped shown tables state packet other left.count
    (ap (decoded_by tables other state) header ∙ by_header shown tables state packet other (header_of tables before packet) left.key_tag (header_readers tables before packet other same))
