-- The state that a hold packet leaves, by its header.
use Rattle.std.specs.Prelude.{Result, Ok, replicate, nat_le, nat_lt, IsOkAnd}
use Rattle.std.proofs.Common.{◌≡◌, ℕ, ◌+◌, ◌*◌, ◌/◌, ◌%◌, ◌≤◌, ◌==◌, Bool, true, false, List, [], ◌∷◌, ◌++◌, Some, length, refl, ap, subst, ◌∙◌, arith}
use Rattle.std.specs.List.{All, list_all}
use Rattle.std.proofs.lemmas.Bool.{and_parts, leb-true}
use Rattle.std.proofs.lemmas.List.Elements.{All-nil, All-cons, All-append}
use Rattle.vp8_tables.specs.Tables.{TableEntries}
use Rattle.bool_coder.specs.Reader.{Reader, started, bits_of}
use Rattle.bool_coder.specs.CodeText.{code_text}
use Rattle.frame_header.specs.Tags.{tag_of, has_key_tag}
use Rattle.frame_header.specs.Header.{header_of}
use Rattle.frame_header.specs.declared.cause.Cause.{Cause}
use Rattle.frame_header.specs.declared.header.Header.{Header}
use Rattle.pixel_planes.specs.Pictures.{PictureSamples, macroblocks}
use Rattle.reference_frames.proofs.Tagged.{tagged_has_bytes}
use Rattle.reference_frames.specs.Steps.{decoded, step_of}
use Rattle.reference_frames.specs.declared.states.State.{State}
use Rattle.packet_forge.specs.Pairs.{zeros, zeros_at, byte_pairs, skip_pairs, reference_pairs, vector_updates, hold_header, hold_macroblock, macroblock_pairs, hold_pairs, zero_vector_probability}
use Rattle.packet_forge.specs.Packets.{tag_bytes, hold_partition, hold_packet}
use Rattle.packet_forge.specs.Laws.{AreUpdates, HoldShowsLast}
use Rattle.packet_forge.proofs.Readings.{Reads, ReadsAll, reads_both, reads_text}
use Rattle.packet_forge.proofs.ForgedHeaders.{shown_tag, tag_of-later}
use Rattle.packet_forge.proofs.HoldHeaders.{hold_header_of, header_of-hold}
use Rattle.packet_forge.proofs.BlankStep.{is_forged, AreProbable, probable_zeros, probable_even, probable_bits, probable_skip, probable_macroblocks, probable_entries}
use Rattle.lossless_cuts.specs.Holds.{HoldsClearBiases, unbiased}

-- ---- the probabilities of its bits

references_probable : AreProbable reference_pairs
references_probable =
    let P : Bool × ℕ → Type 0 = λ p. p.1 ≤ 255 in
    let first = All-append P (byte_pairs 1) (byte_pairs 255) (probable_bits (bits_of 8 1)) (probable_bits (bits_of 8 255)) in
    let second = All-append P (byte_pairs 1 ++ byte_pairs 255) (byte_pairs 128) first (probable_bits (bits_of 8 128)) in
    All-append P (byte_pairs 1 ++ byte_pairs 255 ++ byte_pairs 128) (zeros 2) second (probable_zeros (replicate 2 128) (probable_even 2))

odds_small : (a b : Bool) → zero_vector_probability a b ≤ 255
odds_small true true = omega arith
odds_small true false = omega arith
odds_small false true = omega arith
odds_small false false = omega arith

macroblock_probable : (odds : ℕ) → odds ≤ 255 → AreProbable ((true, 1) ∷ (true, 1) ∷ (false, 255) ∷ (false, odds) ∷ [])
macroblock_probable odds small =
    let P : Bool × ℕ → Type 0 = λ p. p.1 ≤ 255 in
    let third : AreProbable ((false, 255) ∷ (false, odds) ∷ []) = All-cons P (false, 255) ((false, odds) ∷ []) (omega arith) (All-cons P (false, odds) [] small (All-nil P)) in
    let second : AreProbable ((true, 1) ∷ (false, 255) ∷ (false, odds) ∷ []) = All-cons P (true, 1) ((false, 255) ∷ (false, odds) ∷ []) (omega arith) third in
    All-cons P (true, 1) ((true, 1) ∷ (false, 255) ∷ (false, odds) ∷ []) (omega arith) second

all_small : (xs : List ℕ) → list_all (λ p. nat_le p 255) xs ≡ true → All (λ p. p ≤ 255) xs
all_small [] h = All-nil (λ p. p ≤ 255)
all_small (x ∷ xs) h =
    let parts = and_parts (nat_le x 255) (list_all (λ p. nat_le p 255) xs) h in
    All-cons (λ p. p ≤ 255) x xs (leb-true x 255 parts.0) (all_small xs parts.1)

hold_probable : (updates : List ℕ) (columns rows : ℕ) → All (λ p. p ≤ 255) updates → AreProbable (hold_pairs updates columns rows)
unfolding hold_header
hold_probable updates columns rows probable =
    let P : Bool × ℕ → Type 0 = λ p. p.1 ≤ 255 in
    let vectors : All (λ p. p ≤ 255) vector_updates = all_small vector_updates refl in
    let a = All-append P (zeros 36) (zeros_at updates) (probable_zeros (replicate 36 128) (probable_even 36)) (probable_zeros updates probable) in
    let b = All-append P (zeros 36 ++ zeros_at updates) skip_pairs a probable_skip in
    let c = All-append P (zeros 36 ++ zeros_at updates ++ skip_pairs) reference_pairs b references_probable in
    let d = All-append P (zeros 36 ++ zeros_at updates ++ skip_pairs ++ reference_pairs) (zeros_at vector_updates) c (probable_zeros vector_updates vectors) in
    All-append P (zeros 36 ++ zeros_at updates ++ skip_pairs ++ reference_pairs ++ zeros_at vector_updates) (macroblock_pairs (hold_macroblock columns) (columns * rows)) d (probable_macroblocks (hold_macroblock columns) (columns * rows) (λ place. macroblock_probable (zero_vector_probability (nat_lt 0 (place / columns)) (nat_lt 0 (place % columns))) (odds_small (nat_lt 0 (place / columns)) (nat_lt 0 (place % columns)))))

-- ---- the header

record ReadsHeader (updates : List ℕ) (r : Reader) : Type 0 where
  front : Reader
  header : Reader
  first : Reads (zeros 14) r front
  second : Reads (zeros 22 ++ zeros_at updates ++ skip_pairs ++ reference_pairs ++ zeros_at vector_updates) front header

reads_header : (updates : List ℕ) (columns rows : ℕ) (r : Reader) → ReadsAll (hold_pairs updates columns rows) r → ReadsHeader updates r
unfolding hold_header
reads_header updates columns rows r all =
    let both = reads_both (hold_header updates) (macroblock_pairs (hold_macroblock columns) (columns * rows)) r all.end all.all in
    let parts = reads_both (zeros 14) (zeros 22 ++ zeros_at updates ++ skip_pairs ++ reference_pairs ++ zeros_at vector_updates) r both.mid both.front in
    record { front = parts.mid; header = both.mid; first = parts.front; second = parts.following }

-- ---- the step

later_ok : (tables : TableEntries) (state : State) (packet : List ℕ) (header : Header) → header_of tables (Some state.context) packet ≡ Ok header → has_key_tag packet ≡ false → (length packet == 0) ≡ false → step_of tables (Some state) packet ≡ Ok (decoded tables packet header (Some state))
unfolding step_of
later_ok tables state packet header is key bytes = rw (bytes, is, key) refl

-- the state after such a header: no reference changes, the segments and the probabilities stay, and the sign biases are cleared
state_held : (tables : TableEntries) (state : State) (packet : List ℕ) (end : ℕ) (reader : Reader) → (decoded tables packet (hold_header_of state.context end reader) (Some state)).0 ≡ unbiased state
state_held tables state packet end reader = refl

-- a hold packet leaves that state and some picture
record Leaves (tables : TableEntries) (state : State) (packet : List ℕ) : Type 0 where
  picture : PictureSamples
  is : step_of tables (Some state) packet ≡ Ok (unbiased state, picture)

leaves : (tables : TableEntries) (state : State) → AreUpdates tables → length (hold_partition tables state.references.last.width state.references.last.height) ≤ 524287 → Leaves tables state (hold_packet tables state.references.last.width state.references.last.height)
unfolding hold_partition
leaves tables state updates small =
    let columns = macroblocks state.references.last.width in
    let rows = macroblocks state.references.last.height in
    let first : List ℕ = code_text (hold_pairs tables.updates (macroblocks state.references.last.width) (macroblocks state.references.last.height)) in
    let packet : List ℕ = tag_bytes 1 (length first) ++ first in
    let reads = reads_header tables.updates columns rows (started first) (reads_text (hold_pairs tables.updates columns rows) (hold_probable tables.updates columns rows (probable_entries tables.updates updates.1))) in
    let tag : tag_of packet ≡ Some (shown_tag false (length first)) = tag_of-later (length first) first small in
    let key : has_key_tag packet ≡ false = rw tag refl in
    let header = header_of-hold tables state.context first reads.front reads.header small reads.first reads.second updates.0 in
    let value : Header = hold_header_of state.context (3 + length first) reads.header in
    let step : step_of tables (Some state) packet ≡ Ok (decoded tables packet value (Some state)) = later_ok tables state packet value header key (tagged_has_bytes packet (shown_tag false (length first)) tag) in
    record {
      picture = (decoded tables packet value (Some state)).1;
      is = step ∙ ap (λ (s : State). let d : Result (State × PictureSamples) Cause = Ok (s, (decoded tables packet value (Some state)).1) in d) (state_held tables state packet (3 + length first) reads.header);
    }

-- its picture is the one that it shows
joined : (tables : TableEntries) (state : State) (packet : List ℕ) → Leaves tables state packet → IsOkAnd (step_of tables (Some state) packet) (λ d. (d.1 ≡ state.references.last) × (d.0.references ≡ state.references)) → step_of tables (Some state) packet ≡ Ok (unbiased state, state.references.last)
joined tables state packet left shows =
    let known : (left.picture ≡ state.references.last) × ((unbiased state).references ≡ state.references) =
    subst (λ (r : Result (State × PictureSamples) Cause). IsOkAnd r (λ d. (d.1 ≡ state.references.last) × (d.0.references ≡ state.references))) left.is shows in
    left.is ∙ ap (λ (picture : PictureSamples). let d : Result (State × PictureSamples) Cause = Ok (unbiased state, picture) in d) known.0

pub holds_clear_biases : HoldShowsLast → HoldsClearBiases
holds_clear_biases shows tables state packet updates has e =
    let is = is_forged state.references.last.width state.references.last.height (hold_partition tables state.references.last.width state.references.last.height) (hold_packet tables state.references.last.width state.references.last.height) packet e in
    let left : Leaves tables state packet = subst (Leaves tables state) is.same (leaves tables state updates is.small) in
    joined tables state packet left (shows tables state packet updates has e).1
