-- The step of a hold packet.
use Rattle.std.specs.Prelude.{Result, Ok, replicate, nat_le, nat_lt, IsOkAnd}
use Rattle.std.proofs.Common.{◌≡◌, ℕ, ◌+◌, ◌*◌, ◌/◌, ◌%◌, ◌<◌, ◌≤◌, ◌==◌, Bool, true, false, List, [], ◌∷◌, ◌++◌, Some, length, refl, ap, sym, subst, ◌∙◌, arith}
use Rattle.std.specs.List.{All, list_all}
use Rattle.std.proofs.lemmas.Bool.{and_parts, leb-true}
use Rattle.std.proofs.lemmas.List.Elements.{All-nil, All-cons, All-append}
use Rattle.vp8_tables.specs.Tables.{TableEntries}
use Rattle.bool_coder.specs.Reader.{Reader, started, bits_of}
use Rattle.bool_coder.specs.CodeText.{code_text}
use Rattle.frame_header.specs.Tags.{tag_of, has_key_tag, is_shown}
use Rattle.frame_header.specs.Header.{header_of}
use Rattle.frame_header.specs.declared.cause.Cause.{Cause}
use Rattle.frame_header.specs.declared.header.Header.{Header}
use Rattle.mode_parser.specs.declared.records.MbMode.{MbMode}
use Rattle.pixel_planes.specs.Samples.{IsWhole, sample_at}
use Rattle.pixel_planes.specs.Pictures.{PictureSamples, macroblocks}
use Rattle.loop_filter.specs.Frames.{filtered_planes}
use Rattle.reference_frames.proofs.Flat.{IsPlane}
use Rattle.reference_frames.specs.FrameTokens.{TokenState, tokens_start, residual_at}
use Rattle.reference_frames.proofs.Tagged.{tagged_has_bytes}
use Rattle.reference_frames.specs.Steps.{decoded_picture, frame_modes, decoded, step_of}
use Rattle.reference_frames.specs.Unfiltered.{unfiltered}
use Rattle.reference_frames.specs.declared.references.References.{References}
use Rattle.reference_frames.specs.declared.states.State.{State}
use Rattle.packet_forge.specs.Pairs.{zeros, zeros_at, byte_pairs, skip_pairs, reference_pairs, vector_updates, hold_header, hold_macroblock, macroblock_pairs, hold_pairs, zero_vector_probability}
use Rattle.packet_forge.specs.Packets.{tag_bytes, hold_partition, hold_packet}
use Rattle.packet_forge.specs.Laws.{AreUpdates, HasLast, HoldShowsLast}
use Rattle.packet_forge.proofs.Readings.{Reads, ReadsAll, reads_both, reads_text}
use Rattle.packet_forge.proofs.ForgedHeaders.{shown_tag, tag_of-later}
use Rattle.packet_forge.proofs.HoldHeaders.{hold_header_of, header_of-hold}
use Rattle.packet_forge.proofs.HoldModes.{hold_mode, first_modes-hold}
use Rattle.packet_forge.proofs.HoldPlanes.{IsHeld, holds}
use Rattle.packet_forge.proofs.Targets.{IsFrame, begun_all}
use Rattle.packet_forge.proofs.Frames.{frame_done}
use Rattle.packet_forge.proofs.BlankStep.{is_forged, AreProbable, probable_zeros, probable_even, probable_bits, probable_skip, probable_macroblocks, probable_entries, frame_of, same_planes}

-- ---- probabilities

probable_references : AreProbable reference_pairs
probable_references =
    let P : Bool × ℕ → Type 0 = λ p. p.1 ≤ 255 in
    let first = All-append P (byte_pairs 1) (byte_pairs 255) (probable_bits (bits_of 8 1)) (probable_bits (bits_of 8 255)) in
    let second = All-append P (byte_pairs 1 ++ byte_pairs 255) (byte_pairs 128) first (probable_bits (bits_of 8 128)) in
    All-append P (byte_pairs 1 ++ byte_pairs 255 ++ byte_pairs 128) (zeros 2) second (probable_zeros (replicate 2 128) (probable_even 2))

odds_probable : (a b : Bool) → zero_vector_probability a b ≤ 255
odds_probable true true = omega arith
odds_probable true false = omega arith
odds_probable false true = omega arith
odds_probable false false = omega arith

four_probable : (odds : ℕ) → odds ≤ 255 → AreProbable ((true, 1) ∷ (true, 1) ∷ (false, 255) ∷ (false, odds) ∷ [])
four_probable odds small =
    let P : Bool × ℕ → Type 0 = λ p. p.1 ≤ 255 in
    let third : AreProbable ((false, 255) ∷ (false, odds) ∷ []) = All-cons P (false, 255) ((false, odds) ∷ []) (omega arith) (All-cons P (false, odds) [] small (All-nil P)) in
    let second : AreProbable ((true, 1) ∷ (false, 255) ∷ (false, odds) ∷ []) = All-cons P (true, 1) ((false, 255) ∷ (false, odds) ∷ []) (omega arith) third in
    All-cons P (true, 1) ((true, 1) ∷ (false, 255) ∷ (false, odds) ∷ []) (omega arith) second

probable_hold : (updates : List ℕ) (columns rows : ℕ) → All (λ p. p ≤ 255) updates → All (λ p. p ≤ 255) vector_updates → AreProbable (hold_pairs updates columns rows)
unfolding hold_header
probable_hold updates columns rows probable vectors =
    let P : Bool × ℕ → Type 0 = λ p. p.1 ≤ 255 in
    let a = All-append P (zeros 36) (zeros_at updates) (probable_zeros (replicate 36 128) (probable_even 36)) (probable_zeros updates probable) in
    let b = All-append P (zeros 36 ++ zeros_at updates) skip_pairs a probable_skip in
    let c = All-append P (zeros 36 ++ zeros_at updates ++ skip_pairs) reference_pairs b probable_references in
    let d = All-append P (zeros 36 ++ zeros_at updates ++ skip_pairs ++ reference_pairs) (zeros_at vector_updates) c (probable_zeros vector_updates vectors) in
    All-append P (zeros 36 ++ zeros_at updates ++ skip_pairs ++ reference_pairs ++ zeros_at vector_updates) (macroblock_pairs (hold_macroblock columns) (columns * rows)) d (probable_macroblocks (hold_macroblock columns) (columns * rows) (λ place. four_probable (zero_vector_probability (nat_lt 0 (place / columns)) (nat_lt 0 (place % columns))) (odds_probable (nat_lt 0 (place / columns)) (nat_lt 0 (place % columns)))))

-- ---- the header

record ReadsHold (updates : List ℕ) (columns rows : ℕ) (r : Reader) : Type 0 where
  front : Reader
  header : Reader
  end : Reader
  first : Reads (zeros 14) r front
  second : Reads (zeros 22 ++ zeros_at updates ++ skip_pairs ++ reference_pairs ++ zeros_at vector_updates) front header
  macroblocks : Reads (macroblock_pairs (hold_macroblock columns) (columns * rows)) header end

reads_hold : (updates : List ℕ) (columns rows : ℕ) (r : Reader) → ReadsAll (hold_pairs updates columns rows) r → ReadsHold updates columns rows r
unfolding hold_header
reads_hold updates columns rows r all =
    let both = reads_both (hold_header updates) (macroblock_pairs (hold_macroblock columns) (columns * rows)) r all.end all.all in
    let parts = reads_both (zeros 14) (zeros 22 ++ zeros_at updates ++ skip_pairs ++ reference_pairs ++ zeros_at vector_updates) r both.mid both.front in
    record { front = parts.mid; header = both.mid; end = all.end; first = parts.front; second = parts.following; macroblocks = both.following }

-- ---- the picture

held_unfiltered : (columns rows : ℕ) (references : References) (header : Header) (start : TokenState) → IsFrame 16 columns rows → IsFrame 8 columns rows → IsHeld references.last columns rows → IsPlane (16 * columns) (16 * rows) references.last.luma → IsPlane (8 * columns) (8 * rows) references.last.cb → IsPlane (8 * columns) (8 * rows) references.last.cr →
    unfiltered 0 (Some references) columns rows (replicate (columns * rows) hold_mode) (residual_at header columns start (replicate (columns * rows) hold_mode)) ≡ record { luma = references.last.luma; cb = references.last.cb; cr = references.last.cr }
held_unfiltered columns rows references header start luma chroma held in_luma in_cb in_cr =
    let last = references.last in
    let done = frame_done (sample_at references.last.luma) (sample_at references.last.cb) (sample_at references.last.cr) columns rows 0 (Some references) hold_mode header start (holds columns rows references luma chroma held) refl in
    let wide16 : 0 < 16 * columns = omega (arith, luma.has_columns) in
    let wide8 : 0 < 8 * columns = omega (arith, luma.has_columns) in
    same_planes _ (record { luma = references.last.luma; cb = references.last.cb; cr = references.last.cr })
    (begun_all (sample_at references.last.luma) 16 columns rows _ references.last.luma wide16 in_luma (λ i j a b. refl) done.in_luma)
    (begun_all (sample_at references.last.cb) 8 columns rows _ references.last.cb wide8 in_cb (λ i j a b. refl) done.in_cb)
    (begun_all (sample_at references.last.cr) 8 columns rows _ references.last.cr wide8 in_cr (λ i j a b. refl) done.in_cr)

record IsReady (last : PictureSamples) : Type 0 where
  wide : (0 < last.width) × (last.width ≤ 16383)
  high : (0 < last.height) × (last.height ≤ 16383)
  held : IsHeld last (macroblocks last.width) (macroblocks last.height)
  in_luma : IsPlane (16 * macroblocks last.width) (16 * macroblocks last.height) last.luma
  in_cb : IsPlane (8 * macroblocks last.width) (8 * macroblocks last.height) last.cb
  in_cr : IsPlane (8 * macroblocks last.width) (8 * macroblocks last.height) last.cr

held_decoded : (packet : List ℕ) (state : State) (end : ℕ) (reader : Reader) → IsReady state.references.last →
    decoded_picture packet (hold_header_of state.context end reader) (Some state.references) state.references.last.width state.references.last.height (replicate (macroblocks state.references.last.width * macroblocks state.references.last.height) hold_mode) ≡ state.references.last
unfolding decoded_picture filtered_planes
held_decoded packet state end reader ready =
    let last = state.references.last in
    let header : Header = hold_header_of state.context end reader in
    let columns = macroblocks last.width in
    let planes = held_unfiltered (macroblocks last.width) (macroblocks last.height) state.references (hold_header_of state.context end reader) (tokens_start header.partitions.items packet columns) (frame_of 16 last.width last.height (omega arith) (omega arith) ready.wide ready.high) (frame_of 8 last.width last.height (omega arith) (omega arith) ready.wide ready.high) ready.held ready.in_luma ready.in_cb ready.in_cr in
    rw planes refl

is_ready : (state : State) → HasLast state → IsReady state.references.last
is_ready state has =
    let last = state.references.last in
    let whole = has.whole in
    let luma : IsWhole last.luma = whole.5 in
    let cb : IsWhole last.cb = whole.6 in
    let cr : IsWhole last.cr = whole.7 in
    record {
      wide = (whole.0, whole.1);
      high = (whole.2, whole.3);
      held = record { luma = has.luma; cb = has.cb; cr = has.cr; luma_sides = whole.4.0; cb_sides = whole.4.1; cr_sides = whole.4.2 };
      in_luma = record { wide = whole.4.0.0; high = whole.4.0.1; whole = luma.4 };
      in_cb = record { wide = whole.4.1.0; high = whole.4.1.1; whole = cb.4 };
      in_cr = record { wide = whole.4.2.0; high = whole.4.2.1; whole = cr.4 };
    }

-- ---- the step

later_ok : (tables : TableEntries) (state : State) (packet : List ℕ) (header : Header) → header_of tables (Some state.context) packet ≡ Ok header → has_key_tag packet ≡ false → (length packet == 0) ≡ false → step_of tables (Some state) packet ≡ Ok (decoded tables packet header (Some state))
unfolding step_of
later_ok tables state packet header is key bytes = rw (bytes, is, key) refl

held_modes : (tables : TableEntries) (state : State) (end : ℕ) (reader s : Reader) → 0 < macroblocks state.references.last.width → Reads (macroblock_pairs (hold_macroblock (macroblocks state.references.last.width)) (macroblocks state.references.last.width * macroblocks state.references.last.height)) reader s →
    (frame_modes tables (hold_header_of state.context end reader) (Some state)).records ≡ replicate (macroblocks state.references.last.width * macroblocks state.references.last.height) hold_mode
held_modes tables state end reader s some reads =
    let columns = macroblocks state.references.last.width in
    let rows = macroblocks state.references.last.height in
    ap (λ (told : List MbMode × Reader). told.0) (first_modes-hold (columns * rows) tables state.context end reader columns rows (Some state.segment_map) reader s some reads)

hold_step : (tables : TableEntries) (state : State) → AreUpdates tables → All (λ p. p ≤ 255) vector_updates → IsReady state.references.last → length (hold_partition tables state.references.last.width state.references.last.height) ≤ 524287 →
    (is_shown (hold_packet tables state.references.last.width state.references.last.height) ≡ true) × IsOkAnd (step_of tables (Some state) (hold_packet tables state.references.last.width state.references.last.height)) (λ d. (d.1 ≡ state.references.last) × (d.0.references ≡ state.references))
unfolding hold_partition
hold_step tables state updates vectors ready small =
    let width = state.references.last.width in
    let height = state.references.last.height in
    let columns = macroblocks state.references.last.width in
    let rows = macroblocks state.references.last.height in
    let first : List ℕ = code_text (hold_pairs tables.updates (macroblocks state.references.last.width) (macroblocks state.references.last.height)) in
    let packet : List ℕ = tag_bytes 1 (length first) ++ first in
    let reads = reads_hold tables.updates columns rows (started first) (reads_text (hold_pairs tables.updates columns rows) (probable_hold tables.updates columns rows (probable_entries tables.updates updates.1) vectors)) in
    let tag : tag_of packet ≡ Some (shown_tag false (length first)) = tag_of-later (length first) first small in
    let key : has_key_tag packet ≡ false = rw tag refl in
    let shown : is_shown packet ≡ true = rw tag refl in
    let header = header_of-hold tables state.context first reads.front reads.header small reads.first reads.second updates.0 in
    let value : Header = hold_header_of state.context (3 + length first) reads.header in
    let step : step_of tables (Some state) packet ≡ Ok (decoded tables packet value (Some state)) = later_ok tables state packet value header key (tagged_has_bytes packet (shown_tag false (length first)) tag) in
    let modes = held_modes tables state (3 + length first) reads.header reads.end (omega (arith, ready.wide.0)) reads.macroblocks in
    let picture : (decoded tables packet value (Some state)).1 ≡ state.references.last =
    ap (λ (ms : List MbMode). decoded_picture packet value (Some state.references) width height ms) modes ∙ held_decoded packet state (3 + length first) reads.header ready in
    (shown, subst (λ (r : Result (State × PictureSamples) Cause). IsOkAnd r (λ d. (d.1 ≡ state.references.last) × (d.0.references ≡ state.references))) (sym step) (picture, refl))

all_small : (xs : List ℕ) → list_all (λ p. nat_le p 255) xs ≡ true → All (λ p. p ≤ 255) xs
all_small [] h = All-nil (λ p. p ≤ 255)
all_small (x ∷ xs) h =
    let parts = and_parts (nat_le x 255) (list_all (λ p. nat_le p 255) xs) h in
    All-cons (λ p. p ≤ 255) x xs (leb-true x 255 parts.0) (all_small xs parts.1)

vectors_probable : All (λ p. p ≤ 255) vector_updates
vectors_probable = all_small vector_updates refl

-- a hold packet shows the last reference and changes none
pub hold_shows_last : HoldShowsLast
hold_shows_last tables state packet updates has e =
    let is = is_forged state.references.last.width state.references.last.height (hold_partition tables state.references.last.width state.references.last.height) (hold_packet tables state.references.last.width state.references.last.height) packet e in
    let here = hold_step tables state updates vectors_probable (is_ready state has) is.small in
    subst (λ (bytes : List ℕ). (is_shown bytes ≡ true) × IsOkAnd (step_of tables (Some state) bytes) (λ d. (d.1 ≡ state.references.last) × (d.0.references ≡ state.references))) is.same here
