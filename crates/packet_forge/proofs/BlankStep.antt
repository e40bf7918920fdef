-- The step of a blank packet.
use Rattle.std.specs.Prelude.{Option, Result, Ok, Err, replicate, slice_range, slice_index, nat_lt, nat_le, ◌&&◌, ◌==◌, not, if◌then◌else◌, IsOkAnd}
use Rattle.std.specs.Option.{option_map}
use Rattle.std.proofs.Common.{◌≡◌, ℕ, zero, suc, ◌+◌, ◌-◌, ◌*◌, ◌<◌, ◌≤◌, Bool, true, false, List, [], ◌∷◌, ◌++◌, Some, None, length, map, refl, ap, sym, subst, ◌∙◌, arith}
use Rattle.std.specs.List.{All}
use Rattle.std.proofs.lemmas.Bool.{ltb-true, leb-true, ltb-false, and_parts}
use Rattle.std.proofs.lemmas.List.{take_all, length-append, length-replicate, get_or-replicate}
use Rattle.std.proofs.lemmas.List.Elements.{All-nil, All-cons, All-append, All-head, All-tail, All-from_get_or}
use Rattle.vp8_tables.specs.Tables.{TableEntries}
use Rattle.bool_coder.specs.Reader.{Reader, started, bits_of}
use Rattle.bool_coder.specs.CodeText.{code_text}
use Rattle.frame_header.specs.Tags.{tag_of, has_key_tag, is_shown}
use Rattle.frame_header.specs.Header.{header_of}
use Rattle.frame_header.specs.declared.cause.Cause.{Cause}
use Rattle.frame_header.specs.declared.context.Context.{Context}
use Rattle.frame_header.specs.declared.header.Header.{Header}
use Rattle.mode_parser.specs.declared.records.MbMode.{MbMode}
use Rattle.pixel_planes.specs.Samples.{Samples, uniform, sample_at}
use Rattle.pixel_planes.specs.Pictures.{PictureSamples, macroblocks}
use Rattle.pixel_planes.specs.PlaneSamples.{PlaneSamples}
use Rattle.pixel_planes.proofs.Rows.{row_fits}
use Rattle.loop_filter.specs.Frames.{filtered_planes}
use Rattle.reference_frames.proofs.Flat.{IsPlane}
use Rattle.reference_frames.specs.FrameTokens.{TokenState, tokens_start, residual_at}
use Rattle.reference_frames.proofs.Tagged.{key_has_bytes}
use Rattle.reference_frames.specs.Steps.{decoded_picture, frame_modes, decoded, step_of}
use Rattle.reference_frames.specs.Unfiltered.{unfiltered}
use Rattle.reference_frames.specs.declared.references.References.{References}
use Rattle.reference_frames.specs.declared.states.State.{State}
use Rattle.packet_forge.specs.Pairs.{zeros, zeros_at, byte_pairs, skip_pairs, blank_header, blank_macroblock, macroblock_pairs, blank_pairs}
use Rattle.packet_forge.specs.Packets.{tag_bytes, key_start, blank_partition, blank_packet, forged}
use Rattle.pixel_planes.specs.Pictures.{is_side}
use Rattle.packet_forge.specs.Laws.{grey_picture, BlankIsGrey}
use Rattle.packet_forge.specs.declared.faults.ForgeFault.{ForgeFault}
use Rattle.packet_forge.specs.declared.faults.ForgeFault.TheVariants.{Size, TooLarge}
use Rattle.packet_forge.proofs.Readings.{Reads, ReadsAll, reads_both, reads_text}
use Rattle.packet_forge.proofs.ForgedHeaders.{shown_tag, tag_of-key, two_bytes, blank_header_of, header_of-blank}
use Rattle.packet_forge.proofs.Targets.{IsFrame, begun_all}
use Rattle.packet_forge.proofs.Frames.{frame_done}
use Rattle.packet_forge.proofs.BlankModes.{grey_mode, first_modes-grey}
use Rattle.packet_forge.proofs.BlankPlanes.{grey_at, greys}

-- ---- the forged packet

-- if a packet is forged, its width and height are 1 to 16,383 and its first partition fits its tag
forged_parts : (b c : Bool) (packet p : List ℕ) → (if not b then Err Size else if c then Err TooLarge else Ok packet) ≡ Ok p → (b ≡ true) × (c ≡ false) × (packet ≡ p)
forged_parts false c packet p e = absurd (err_ok Size p e)
  where
    err_ok : (fault : ForgeFault) (q : List ℕ) → ◌≡◌ {A = Result (List ℕ) ForgeFault} (Err fault) (Ok q) → ⊥
    err_ok fault q e = cc
forged_parts true true packet p e = absurd (err_ok TooLarge p e)
  where
    err_ok : (fault : ForgeFault) (q : List ℕ) → ◌≡◌ {A = Result (List ℕ) ForgeFault} (Err fault) (Ok q) → ⊥
    err_ok fault q e = cc
forged_parts true false packet p e = (refl, refl, cc)

pub record IsForged (width height : ℕ) (first packet p : List ℕ) : Type 0 where
  pub wide : (0 < width) × (width ≤ 16383)
  pub high : (0 < height) × (height ≤ 16383)
  pub small : length first ≤ 524287
  pub same : packet ≡ p

pub is_forged : (width height : ℕ) (first packet p : List ℕ) → forged width height first packet ≡ Ok p → IsForged width height first packet p
is_forged width height first packet p e =
    let parts = forged_parts (is_side width && is_side height) (nat_lt 524287 (length first)) packet p e in
    let sides = and_parts (is_side width) (is_side height) parts.0 in
    let wide = and_parts (nat_lt 0 width) (nat_le width 16383) sides.0 in
    let high = and_parts (nat_lt 0 height) (nat_le height 16383) sides.1 in
    record { wide = (ltb-true 0 width wide.0, leb-true width 16383 wide.1); high = (ltb-true 0 height high.0, leb-true height 16383 high.1); small = ltb-false 524287 (length first) parts.1; same = parts.2 }

-- ---- probabilities

abbrev pub AreProbable : List (Bool × ℕ) → Type 0
AreProbable pairs = All (λ p. p.1 ≤ 255) pairs

pub probable_zeros : (probabilities : List ℕ) → All (λ p. p ≤ 255) probabilities → AreProbable (zeros_at probabilities)
probable_zeros [] h = All-nil (λ p. p.1 ≤ 255)
probable_zeros (x ∷ xs) h = All-cons (λ p. p.1 ≤ 255) (false, x) (zeros_at xs) (All-head (λ p. p ≤ 255) x xs h) (probable_zeros xs (All-tail (λ p. p ≤ 255) x xs h))

pub probable_even : (n : ℕ) → All (λ p. p ≤ 255) (replicate n 128)
probable_even zero = All-nil (λ p. p ≤ 255)
probable_even (suc n) = All-cons (λ p. p ≤ 255) 128 (replicate n 128) (omega arith) (probable_even n)

pub probable_bits : (bits : List ℕ) → AreProbable (map (λ bit. (bit == 1, 128)) bits)
probable_bits [] = All-nil (λ p. p.1 ≤ 255)
probable_bits (x ∷ xs) = All-cons (λ p. p.1 ≤ 255) (x == 1, 128) (map (λ bit. (bit == 1, 128)) xs) (omega arith) (probable_bits xs)

pub probable_skip : AreProbable skip_pairs
probable_skip = All-cons (λ p. p.1 ≤ 255) (true, 128) (byte_pairs 1) (omega arith) (probable_bits (bits_of 8 1))

probable_blank_macroblock : AreProbable blank_macroblock
probable_blank_macroblock =
    let P : Bool × ℕ → Type 0 = λ p. p.1 ≤ 255 in
    let fourth : AreProbable ((false, 163) ∷ (false, 142) ∷ []) = All-cons P (false, 163) ((false, 142) ∷ []) (omega arith) (All-cons P (false, 142) [] (omega arith) (All-nil P)) in
    let third : AreProbable ((false, 156) ∷ (false, 163) ∷ (false, 142) ∷ []) = All-cons P (false, 156) ((false, 163) ∷ (false, 142) ∷ []) (omega arith) fourth in
    let second : AreProbable ((true, 145) ∷ (false, 156) ∷ (false, 163) ∷ (false, 142) ∷ []) = All-cons P (true, 145) ((false, 156) ∷ (false, 163) ∷ (false, 142) ∷ []) (omega arith) third in
    All-cons P (true, 1) ((true, 145) ∷ (false, 156) ∷ (false, 163) ∷ (false, 142) ∷ []) (omega arith) second

pub probable_macroblocks : (pairs : ℕ → List (Bool × ℕ)) (n : ℕ) → ((place : ℕ) → AreProbable (pairs place)) → AreProbable (macroblock_pairs pairs n)
unfolding macroblock_pairs
probable_macroblocks pairs zero each = All-nil (λ p. p.1 ≤ 255)
probable_macroblocks pairs (suc n) each = All-append (λ p. p.1 ≤ 255) (macroblock_pairs pairs n) (pairs n) (probable_macroblocks pairs n each) (each n)

probable_blank : (updates : List ℕ) (count : ℕ) → All (λ p. p ≤ 255) updates → AreProbable (blank_pairs updates count)
unfolding blank_header
probable_blank updates count probable =
    let P : Bool × ℕ → Type 0 = λ p. p.1 ≤ 255 in
    let first = All-append P (zeros 29) (zeros_at updates) (probable_zeros (replicate 29 128) (probable_even 29)) (probable_zeros updates probable) in
    let header = All-append P (zeros 29 ++ zeros_at updates) skip_pairs first probable_skip in
    All-append P (zeros 29 ++ zeros_at updates ++ skip_pairs) (macroblock_pairs (λ place. blank_macroblock) count) header (probable_macroblocks (λ place. blank_macroblock) count (λ place. probable_blank_macroblock))

-- ---- the header

-- the fields that are read from the first partition
record ReadsBlank (updates : List ℕ) (count : ℕ) (r : Reader) : Type 0 where
  front : Reader
  header : Reader
  end : Reader
  first : Reads (zeros 16) r front
  second : Reads (zeros 13 ++ zeros_at updates ++ skip_pairs) front header
  macroblocks : Reads (macroblock_pairs (λ place. blank_macroblock) count) header end

reads_blank : (updates : List ℕ) (count : ℕ) (r : Reader) → ReadsAll (blank_pairs updates count) r → ReadsBlank updates count r
unfolding blank_header
reads_blank updates count r all =
    let both = reads_both (blank_header updates) (macroblock_pairs (λ place. blank_macroblock) count) r all.end all.all in
    let parts = reads_both (zeros 16) (zeros 13 ++ zeros_at updates ++ skip_pairs) r both.mid both.front in
    record { front = parts.mid; header = both.mid; end = all.end; first = parts.front; second = parts.following; macroblocks = both.following }

-- the bytes of the packet by index
blank_bytes_header : (tables : TableEntries) (before : Option Context) (first : List ℕ) (width height : ℕ) (m s : Reader) → length first ≤ 524287 → (0 < width) × (width ≤ 16383) → (0 < height) × (height ≤ 16383) → Reads (zeros 16) (started first) m → Reads (zeros 13 ++ zeros_at tables.updates ++ skip_pairs) m s → length tables.updates ≡ 1056 →
    header_of tables before (tag_bytes 0 (length first) ++ key_start width height ++ first) ≡ Ok (blank_header_of tables width height (10 + length first) s)
blank_bytes_header tables before first width height m s small wide high reads_first reads_second updates =
    let packet : List ℕ = tag_bytes 0 (length first) ++ key_start width height ++ first in
    let tag : tag_of (tag_bytes 0 (length first) ++ key_start width height ++ first) ≡ Some (shown_tag true (length first)) = tag_of-key (length first) (key_start width height ++ first) small in
    let long : length (tag_bytes 0 (length first) ++ key_start width height ++ first) ≡ 10 + length first = length-append (tag_bytes 0 (length first) ++ key_start width height) first in
    let less : 10 + length first - 10 ≡ length first = omega arith in
    let range : slice_range (tag_bytes 0 (length first) ++ key_start width height ++ first) 10 (10 + length first) ≡ first = rw less (take_all (length first) first (omega arith)) in
    header_of-blank tables before packet first width height m s tag long refl (two_bytes width wide.1) (two_bytes height high.1) wide.0 high.0 range reads_first reads_second updates

-- ---- the picture

pub frame_of : (side width height : ℕ) → 0 < side → side ≤ 16 → (0 < width) × (width ≤ 16383) → (0 < height) × (height ≤ 16383) → IsFrame side (macroblocks width) (macroblocks height)
frame_of side width height some small wide high = record {
  some = some;
  small = small;
  has_columns = omega (arith, wide.0);
  few_columns = omega (arith, wide.1);
  has_rows = omega (arith, high.0);
  few_rows = omega (arith, high.1);
}

uniform_at : (w h i j : ℕ) → i < w → j < h → sample_at (uniform w h 128) i j ≡ 128
uniform_at w h i j a b =
    let fits : j * w + w ≤ w * h = row_fits w h j b in
    get_or-replicate (w * h) (j * w + i) 128 0 (omega (arith, fits, a))

uniform_plane : (w h : ℕ) → IsPlane w h (uniform w h 128)
uniform_plane w h = record { wide = refl; high = refl; whole = length-replicate (w * h) 128 }

-- three planes that are equal one by one are the same planes
same_parts : (a a' b b' c c' : Samples) → a ≡ a' → b ≡ b' → c ≡ c' → ◌≡◌ {A = PlaneSamples} (record { luma = a; cb = b; cr = c }) (record { luma = a'; cb = b'; cr = c' })
same_parts a a' b b' c c' e f g = cc

pub same_planes : (p q : PlaneSamples) → p.luma ≡ q.luma → p.cb ≡ q.cb → p.cr ≡ q.cr → p ≡ q
same_planes p q e f g = same_parts p.luma q.luma p.cb q.cb p.cr q.cr e f g

abbrev grey_planes : ℕ → ℕ → PlaneSamples
grey_planes columns rows = record { luma = uniform (16 * columns) (16 * rows) 128; cb = uniform (8 * columns) (8 * rows) 128; cr = uniform (8 * columns) (8 * rows) 128 }

grey_unfiltered : (columns rows version : ℕ) (references : Option References) (header : Header) (start : TokenState) → IsFrame 16 columns rows → IsFrame 8 columns rows → unfiltered version references columns rows (replicate (columns * rows) grey_mode) (residual_at header columns start (replicate (columns * rows) grey_mode)) ≡ grey_planes columns rows
grey_unfiltered columns rows version references header start luma chroma =
    let done = frame_done grey_at grey_at grey_at columns rows version references grey_mode header start (greys columns rows version references luma chroma) refl in
    let wide16 : 0 < 16 * columns = omega (arith, luma.has_columns) in
    let wide8 : 0 < 8 * columns = omega (arith, luma.has_columns) in
    same_planes _ (grey_planes columns rows)
    (begun_all grey_at 16 columns rows _ (uniform (16 * columns) (16 * rows) 128) wide16 (uniform_plane (16 * columns) (16 * rows)) (λ i j a b. uniform_at (16 * columns) (16 * rows) i j a b) done.in_luma)
    (begun_all grey_at 8 columns rows _ (uniform (8 * columns) (8 * rows) 128) wide8 (uniform_plane (8 * columns) (8 * rows)) (λ i j a b. uniform_at (8 * columns) (8 * rows) i j a b) done.in_cb)
    (begun_all grey_at 8 columns rows _ (uniform (8 * columns) (8 * rows) 128) wide8 (uniform_plane (8 * columns) (8 * rows)) (λ i j a b. uniform_at (8 * columns) (8 * rows) i j a b) done.in_cr)

grey_decoded : (tables : TableEntries) (packet : List ℕ) (width height end : ℕ) (reader : Reader) → (0 < width) × (width ≤ 16383) → (0 < height) × (height ≤ 16383) → decoded_picture packet (blank_header_of tables width height end reader) None width height (replicate (macroblocks width * macroblocks height) grey_mode) ≡ grey_picture width height
unfolding decoded_picture filtered_planes
grey_decoded tables packet width height end reader wide high =
    let header : Header = blank_header_of tables width height end reader in
    let columns = macroblocks width in
    let rows = macroblocks height in
    let planes = grey_unfiltered (macroblocks width) (macroblocks height) 0 None (blank_header_of tables width height end reader) (tokens_start header.partitions.items packet columns) (frame_of 16 width height (omega arith) (omega arith) wide high) (frame_of 8 width height (omega arith) (omega arith) wide high) in
    rw planes refl

-- ---- the step

step_ok : (tables : TableEntries) (state : Option State) (packet : List ℕ) (header : Header) → header_of tables (option_map (λ s. s.context) state) packet ≡ Ok header → has_key_tag packet ≡ true → step_of tables state packet ≡ Ok (decoded tables packet header None)
unfolding step_of
step_ok tables state packet header is key = rw (key_has_bytes packet key, is, key) refl

blank_modes : (tables : TableEntries) (width height end : ℕ) (reader s : Reader) → Reads (macroblock_pairs (λ place. blank_macroblock) (macroblocks width * macroblocks height)) reader s → (frame_modes tables (blank_header_of tables width height end reader) None).records ≡ replicate (macroblocks width * macroblocks height) grey_mode
blank_modes tables width height end reader s reads =
    ap (λ (told : List MbMode × Reader). told.0) (first_modes-grey (macroblocks width * macroblocks height) tables width height end reader (macroblocks width) (macroblocks height) None reader s reads)

blank_step : (tables : TableEntries) (state : Option State) (width height : ℕ) → length tables.updates ≡ 1056 → All (λ p. p ≤ 255) tables.updates → IsForged width height (blank_partition tables width height) (blank_packet tables width height) (blank_packet tables width height) →
    (is_shown (blank_packet tables width height) ≡ true) × IsOkAnd (step_of tables state (blank_packet tables width height)) (λ d. d.1 ≡ grey_picture width height)
unfolding blank_partition
blank_step tables state width height updates probable is =
    let count = macroblocks width * macroblocks height in
    let first : List ℕ = code_text (blank_pairs tables.updates (macroblocks width * macroblocks height)) in
    let packet : List ℕ = tag_bytes 0 (length first) ++ key_start width height ++ first in
    let reads = reads_blank tables.updates count (started first) (reads_text (blank_pairs tables.updates count) (probable_blank tables.updates count probable)) in
    let tag : tag_of packet ≡ Some (shown_tag true (length first)) = tag_of-key (length first) (key_start width height ++ first) is.small in
    let key : has_key_tag packet ≡ true = rw tag refl in
    let shown : is_shown packet ≡ true = rw tag refl in
    let header = blank_bytes_header tables (option_map (λ s. s.context) state) first width height reads.front reads.header is.small is.wide is.high reads.first reads.second updates in
    let value : Header = blank_header_of tables width height (10 + length first) reads.header in
    let step : step_of tables state packet ≡ Ok (decoded tables packet value None) = step_ok tables state packet value header key in
    let modes = blank_modes tables width height (10 + length first) reads.header reads.end reads.macroblocks in
    let picture : (decoded tables packet value None).1 ≡ grey_picture width height =
    ap (λ (ms : List MbMode). decoded_picture packet value None width height ms) modes ∙ grey_decoded tables packet width height (10 + length first) reads.header is.wide is.high in
    (shown, subst (λ (r : Result (State × PictureSamples) Cause). IsOkAnd r (λ d. d.1 ≡ grey_picture width height)) (sym step) picture)

-- a blank packet decodes to a grey picture
pub blank_grey : (tables : TableEntries) (state : Option State) (width height : ℕ) → length tables.updates ≡ 1056 → All (λ p. p ≤ 255) tables.updates → BlankIsGrey tables state width height
blank_grey tables state width height updates probable packet e =
    let is = is_forged width height (blank_partition tables width height) (blank_packet tables width height) packet e in
    let here = blank_step tables state width height updates probable (record { wide = is.wide; high = is.high; small = is.small; same = refl }) in
    subst (λ (bytes : List ℕ). (is_shown bytes ≡ true) × IsOkAnd (step_of tables state bytes) (λ d. d.1 ≡ grey_picture width height)) is.same here

-- entries that are bytes are probabilities
pub probable_entries : (entries : List ℕ) → ((place : ℕ) → slice_index entries place < 256) → All (λ p. p ≤ 255) entries
probable_entries entries small = All-from_get_or (λ p. p ≤ 255) entries 0 (λ place lt. let byte = small place in omega (arith, byte))
