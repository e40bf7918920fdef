-- The fields of the header of a hold packet, after the number of token partitions.
use Rattle.std.specs.Prelude.{slice_index_or}
use Rattle.std.proofs.Common.{◌≡◌, ℕ, false, List, [], ◌∷◌, ◌++◌, Some, None, length, refl, ap, ◌∙◌, arith}
use Rattle.vp8_tables.specs.declared.vectors.TheConstants.{VECTOR_UPDATE_PROBABILITIES}
use Rattle.bool_coder.specs.Reader.{Reader, read}
use Rattle.bool_coder.specs.Reading.{literal}
use Rattle.frame_header.specs.TrailingFields.{quantizers, skip_probability, trailing_fields}
use Rattle.frame_header.specs.References.{golden_copy, altref_copy, inter_refreshes, refreshes}
use Rattle.frame_header.specs.InterFields.{reference_probabilities, y_modes, uv_modes, vector_probability, vectors, inter_fields}
use Rattle.frame_header.specs.Updates.{first_updated}
use Rattle.frame_header.specs.declared.context.Context.{Context}
use Rattle.frame_header.specs.declared.context.SignBiases.{SignBiases}
use Rattle.frame_header.specs.declared.context.Probabilities.{Probabilities}
use Rattle.frame_header.specs.declared.references.ReferenceUpdates.{ReferenceUpdates}
use Rattle.frame_header.specs.declared.inter_fields.ReferenceProbabilities.{ReferenceProbabilities}
use Rattle.packet_forge.specs.Pairs.{zeros, zeros_at, byte_pairs, skip_pairs, reference_pairs, vector_updates}
use Rattle.packet_forge.proofs.Readings.{Reads, reads_both, reads_joined, updates_none}
use Rattle.packet_forge.proofs.HeaderFields.{no_quantizers, quantizers-zeros, literal-zeros, literal-1, literal-255, literal-128, vector_probability-zero, skip_probability-1, coefficients-stay}

-- no reference changes
abbrev pub no_updates : ReferenceUpdates
no_updates = record { refreshes_last = false; refreshes_golden = false; refreshes_altref = false; golden_copy = None; altref_copy = None }

abbrev pub no_biases : SignBiases
no_biases = record { golden = false; altref = false }

abbrev pub hold_references : ReferenceProbabilities
hold_references = record { intra = 1; last = 255; golden = 128 }

-- the probabilities of vectors, of a row and of a column
abbrev pub two_rows : List (List ℕ) → List (List ℕ)
two_rows before = slice_index_or before 0 [] ∷ slice_index_or before 1 [] ∷ []

-- the context of a hold frame
abbrev pub hold_context : Context → Context
hold_context before = record before { probabilities = record before.probabilities { vectors = two_rows before.probabilities.vectors }; sign_biases = no_biases }

inter_refreshes-zeros : (r s : Reader) → Reads (zeros 10) r s → inter_refreshes r ≡ ((record { references = no_updates; refreshes_entropy = false }, no_biases), s)
unfolding inter_refreshes golden_copy altref_copy
inter_refreshes-zeros r s h =
    let a = reads_both (zeros 2) (zeros 8) r s h in
    let b = reads_both (zeros 2) (zeros 6) a.mid s a.following in
    let c = reads_both (zeros 2) (zeros 4) b.mid s b.following in
    let first : read 128 r ≡ (false, a.front.mid) = a.front.bit in
    let second : read 128 a.front.mid ≡ (false, a.mid) = a.front.following.bit ∙ ap (λ (t : Reader). (false, t)) a.front.following.following in
    let third : literal 2 a.mid ≡ (0, b.mid) = literal-zeros 2 a.mid b.mid b.front in
    let fourth : literal 2 b.mid ≡ (0, c.mid) = literal-zeros 2 b.mid c.mid c.front in
    let d = c.following in
    let fifth : read 128 c.mid ≡ (false, d.mid) = d.bit in
    let sixth : read 128 d.mid ≡ (false, d.following.mid) = d.following.bit in
    let seventh : read 128 d.following.mid ≡ (false, d.following.following.mid) = d.following.following.bit in
    let eighth : read 128 d.following.following.mid ≡ (false, s) = d.following.following.following.bit ∙ ap (λ (t : Reader). (false, t)) d.following.following.following.following in
    rw (first, second, third, fourth, fifth, sixth, seventh, eighth) refl

refreshes-inter : (before : SignBiases) (r s : Reader) → Reads (zeros 10) r s → refreshes false before r ≡ ((record { references = no_updates; refreshes_entropy = false }, no_biases), s)
unfolding refreshes
refreshes-inter before r s h = inter_refreshes-zeros r s h

reference_probabilities-hold : (r s : Reader) → Reads (byte_pairs 1 ++ byte_pairs 255 ++ byte_pairs 128) r s → reference_probabilities r ≡ (hold_references, s)
unfolding reference_probabilities
reference_probabilities-hold r s h =
    let a = reads_both (byte_pairs 1 ++ byte_pairs 255) (byte_pairs 128) r s h in
    let b = reads_both (byte_pairs 1) (byte_pairs 255) r a.mid a.front in
    let first : literal 8 r ≡ (1, b.mid) = literal-1 r b.mid b.front in
    let second : literal 8 b.mid ≡ (255, a.mid) = literal-255 b.mid a.mid b.following in
    let third : literal 8 a.mid ≡ (128, s) = literal-128 a.mid s a.following in
    rw (first, second, third) refl

y_modes-stay : (before : List ℕ) (r s : Reader) → read 128 r ≡ (false, s) → y_modes before r ≡ (before, s)
unfolding y_modes
y_modes-stay before r s told = rw told refl

uv_modes-stay : (before : List ℕ) (r s : Reader) → read 128 r ≡ (false, s) → uv_modes before r ≡ (before, s)
unfolding uv_modes
uv_modes-stay before r s told = rw told refl

abbrev pub update_row : List ℕ
update_row = slice_index_or VECTOR_UPDATE_PROBABILITIES 0 []

abbrev pub update_column : List ℕ
update_column = slice_index_or VECTOR_UPDATE_PROBABILITIES 1 []

vectors-stay : (before : List (List ℕ)) (r s : Reader) → Reads (zeros_at vector_updates) r s → vectors before r ≡ (two_rows before, s)
unfolding vectors
vectors-stay before r s h =
    let both = reads_both (zeros_at update_row) (zeros_at update_column) r s h in
    let row : first_updated vector_probability 19 update_row (slice_index_or before 0 []) r ≡ (slice_index_or before 0 [], both.mid) =
    updates_none vector_probability 19 update_row (slice_index_or before 0 []) r both.mid vector_probability-zero (omega arith) both.front in
    let column : first_updated vector_probability 19 update_column (slice_index_or before 1 []) both.mid ≡ (slice_index_or before 1 [], s) =
    updates_none vector_probability 19 update_column (slice_index_or before 1 []) both.mid s vector_probability-zero (omega arith) both.following in
    rw (row, column) refl

inter_fields-hold : (before : Probabilities) (r s : Reader) → Reads (reference_pairs ++ zeros_at vector_updates) r s → inter_fields before r ≡ ((hold_references, record before { vectors = two_rows before.vectors }), s)
unfolding inter_fields
inter_fields-hold before r s h =
    let a = reads_both reference_pairs (zeros_at vector_updates) r s h in
    let b = reads_both (byte_pairs 1 ++ byte_pairs 255 ++ byte_pairs 128) (zeros 2) r a.mid a.front in
    let first : reference_probabilities r ≡ (hold_references, b.mid) = reference_probabilities-hold r b.mid b.front in
    let second : y_modes before.y_modes b.mid ≡ (before.y_modes, b.following.mid) = y_modes-stay before.y_modes b.mid b.following.mid b.following.bit in
    let third : uv_modes before.uv_modes b.following.mid ≡ (before.uv_modes, a.mid) = uv_modes-stay before.uv_modes b.following.mid a.mid (b.following.following.bit ∙ ap (λ (t : Reader). (false, t)) b.following.following.following) in
    let fourth : vectors before.vectors a.mid ≡ (two_rows before.vectors, s) = vectors-stay before.vectors a.mid s a.following in
    rw (first, second, third, fourth) refl

pub trailing-inter : (updates : List ℕ) (before : Context) (r s : Reader) → length updates ≡ 1056 → Reads (zeros 22 ++ zeros_at updates ++ skip_pairs ++ reference_pairs ++ zeros_at vector_updates) r s →
    trailing_fields false updates before r ≡ ((record { quantizers = no_quantizers; references = no_updates; refreshes_entropy = false; skip_probability = Some 1; reference_probabilities = hold_references }, hold_context before), s)
unfolding trailing_fields
trailing-inter updates before r s long h =
    let e = reads_both (zeros 22 ++ zeros_at updates ++ skip_pairs ++ reference_pairs) (zeros_at vector_updates) r s h in
    let d = reads_both (zeros 22 ++ zeros_at updates ++ skip_pairs) reference_pairs r e.mid e.front in
    let a = reads_both (zeros 22 ++ zeros_at updates) skip_pairs r d.mid d.front in
    let b = reads_both (zeros 22) (zeros_at updates) r a.mid a.front in
    let c = reads_both (zeros 12) (zeros 10) r b.mid b.front in
    let first : quantizers r ≡ (no_quantizers, c.mid) = quantizers-zeros r c.mid c.front in
    let second = refreshes-inter before.sign_biases c.mid b.mid c.following in
    let third = coefficients-stay updates before.probabilities.coefficients b.mid a.mid long b.following in
    let fourth : skip_probability a.mid ≡ (Some 1, d.mid) = skip_probability-1 a.mid d.mid a.following in
    let joined = reads_joined reference_pairs (zeros_at vector_updates) d.mid e.mid s d.following e.following in
    let fifth = inter_fields-hold before.probabilities d.mid s joined in
    rw (first, second, third, fourth, fifth) refl
