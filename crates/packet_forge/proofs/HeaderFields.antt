-- The fields of the headers of forged packets, read back.
use Rattle.std.proofs.Common.{◌≡◌, ℕ, zero, suc, true, false, List, [], ◌∷◌, ◌++◌, Some, length, take, refl, sym, subst, arith}
use Rattle.std.specs.Prelude.{pos}
use Rattle.std.proofs.lemmas.List.{take_all}
use Rattle.bool_coder.specs.Reader.{Reader}
use Rattle.bool_coder.specs.Reading.{more_bits, literal, signed}
use Rattle.frame_header.specs.Fields.{colors, segmentation, filter, adjustment, partition_count, fields}
use Rattle.frame_header.specs.TrailingFields.{quantizers, updated, skip_probability, trailing_fields}
use Rattle.frame_header.specs.References.{all_refreshed, refreshes}
use Rattle.frame_header.specs.InterFields.{no_reference_probabilities, vector_probability}
use Rattle.frame_header.specs.Updates.{first_updated}
use Rattle.frame_header.specs.declared.context.Context.{Context}
use Rattle.frame_header.specs.declared.context.Segments.{Segments}
use Rattle.frame_header.specs.declared.context.FilterDeltas.{FilterDeltas}
use Rattle.frame_header.specs.declared.context.SignBiases.{SignBiases}
use Rattle.frame_header.specs.declared.fields.Colors.{Colors}
use Rattle.frame_header.specs.declared.fields.Filter.{Filter}
use Rattle.frame_header.specs.declared.fields.Segmentation.{Segmentation}
use Rattle.frame_header.specs.declared.trailing_fields.Quantizers.{Quantizers}
use Rattle.packet_forge.specs.Pairs.{zeros, zeros_at, byte_pairs, skip_pairs}
use Rattle.packet_forge.proofs.Readings.{Reads, reads_both, KeepsAtZero, updates_none}

-- ---- numbers

more_bits-zeros : (n : ℕ) (r s : Reader) → Reads (zeros n) r s → more_bits n 0 r ≡ (0, s)
unfolding more_bits
more_bits-zeros zero r s reads = rw reads refl
more_bits-zeros (suc n) r s reads = rw reads.bit (more_bits-zeros n reads.mid s reads.following)

pub literal-zeros : (n : ℕ) (r s : Reader) → Reads (zeros n) r s → literal n r ≡ (0, s)
unfolding literal
literal-zeros n r s reads = more_bits-zeros n r s reads

-- a number of 8 bits
pub literal-1 : (r s : Reader) → Reads (byte_pairs 1) r s → literal 8 r ≡ (1, s)
unfolding literal more_bits
literal-1 r s h = rw (h.bit, h.following.bit, h.following.following.bit, h.following.following.following.bit, h.following.following.following.following.bit, h.following.following.following.following.following.bit, h.following.following.following.following.following.following.bit, h.following.following.following.following.following.following.following.bit, h.following.following.following.following.following.following.following.following) refl

pub literal-255 : (r s : Reader) → Reads (byte_pairs 255) r s → literal 8 r ≡ (255, s)
unfolding literal more_bits
literal-255 r s h = rw (h.bit, h.following.bit, h.following.following.bit, h.following.following.following.bit, h.following.following.following.following.bit, h.following.following.following.following.following.bit, h.following.following.following.following.following.following.bit, h.following.following.following.following.following.following.following.bit, h.following.following.following.following.following.following.following.following) refl

pub literal-128 : (r s : Reader) → Reads (byte_pairs 128) r s → literal 8 r ≡ (128, s)
unfolding literal more_bits
literal-128 r s h = rw (h.bit, h.following.bit, h.following.following.bit, h.following.following.following.bit, h.following.following.following.following.bit, h.following.following.following.following.following.bit, h.following.following.following.following.following.following.bit, h.following.following.following.following.following.following.following.bit, h.following.following.following.following.following.following.following.following) refl

signed-zero : (n : ℕ) (r s : Reader) → Reads (zeros 1) r s → signed n r ≡ (pos 0, s)
unfolding signed
signed-zero n r s h = rw (h.bit, h.following) refl

-- ---- the fields up to the number of token partitions

abbrev pub no_colors : Colors
no_colors = record { color_space = false; clamping_type = false }

abbrev pub no_segmentation : Segmentation
no_segmentation = record { is_enabled = false; updates_map = false; updates_data = false; map_probabilities = 255 ∷ 255 ∷ 255 ∷ [] }

abbrev pub no_filter : Filter
no_filter = record { is_simple = false; level = 0; sharpness = 0 }

colors-zeros : (r s : Reader) → Reads (zeros 2) r s → colors r ≡ (no_colors, s)
unfolding colors
colors-zeros r s h = rw (h.bit, h.following.bit, h.following.following) refl

segmentation-zero : (before : Segments) (r s : Reader) → Reads (zeros 1) r s → segmentation before r ≡ ((no_segmentation, before), s)
unfolding segmentation
segmentation-zero before r s h = rw (h.bit, h.following) refl

filter-zeros : (r s : Reader) → Reads (zeros 10) r s → filter r ≡ (no_filter, s)
unfolding filter
filter-zeros r s h =
    let both = reads_both (zeros 6) (zeros 3) h.mid s h.following in
    let level : literal 6 h.mid ≡ (0, both.mid) = literal-zeros 6 h.mid both.mid both.front in
    let sharpness : literal 3 both.mid ≡ (0, s) = literal-zeros 3 both.mid s both.following in
    rw (h.bit, level, sharpness) refl

adjustment-zero : (before : FilterDeltas) (r s : Reader) → Reads (zeros 1) r s → adjustment before r ≡ ((false, before), s)
unfolding adjustment
adjustment-zero before r s h = rw (h.bit, h.following) refl

partition_count-zeros : (r s : Reader) → Reads (zeros 2) r s → partition_count r ≡ (1, s)
unfolding partition_count
partition_count-zeros r s h = rw (literal-zeros 2 r s h) refl

-- the fields of both kinds of frames
record ReadsFields (before : Context) (r s : Reader) : Type 0 where
  first : Reader
  second : Reader
  third : Reader
  segments : segmentation before.segments r ≡ ((no_segmentation, before.segments), first)
  loop : filter first ≡ (no_filter, second)
  adjusted : adjustment before.deltas second ≡ ((false, before.deltas), third)
  count : partition_count third ≡ (1, s)

reads_fields : (before : Context) (r s : Reader) → Reads (zeros 14) r s → ReadsFields before r s
reads_fields before r s h =
    let a = reads_both (zeros 1) (zeros 13) r s h in
    let b = reads_both (zeros 10) (zeros 3) a.mid s a.following in
    let c = reads_both (zeros 1) (zeros 2) b.mid s b.following in
    record {
      first = a.mid;
      second = b.mid;
      third = c.mid;
      segments = segmentation-zero before.segments r a.mid a.front;
      loop = filter-zeros a.mid b.mid b.front;
      adjusted = adjustment-zero before.deltas b.mid c.mid c.front;
      count = partition_count-zeros c.mid s c.following;
    }

pub fields-key : (before : Context) (r s : Reader) → Reads (zeros 16) r s → fields true before r ≡ ((record { colors = no_colors; segmentation = no_segmentation; filter = no_filter; adjusts_level = false; partition_count = 1 }, before), s)
unfolding fields
fields-key before r s h =
    let both = reads_both (zeros 2) (zeros 14) r s h in
    let color : colors r ≡ (no_colors, both.mid) = colors-zeros r both.mid both.front in
    let rest = reads_fields before both.mid s both.following in
    rw (color, rest.segments, rest.loop, rest.adjusted, rest.count) refl

pub fields-inter : (before : Context) (r s : Reader) → Reads (zeros 14) r s → fields false before r ≡ ((record { colors = no_colors; segmentation = no_segmentation; filter = no_filter; adjusts_level = false; partition_count = 1 }, before), s)
unfolding fields
fields-inter before r s h =
    let rest = reads_fields before r s h in
    rw (rest.segments, rest.loop, rest.adjusted, rest.count) refl

-- ---- the fields after it

abbrev pub no_quantizers : Quantizers
no_quantizers = record { y_ac_index = 0; y_dc_delta = pos 0; y2_dc_delta = pos 0; y2_ac_delta = pos 0; uv_dc_delta = pos 0; uv_ac_delta = pos 0 }

pub quantizers-zeros : (r s : Reader) → Reads (zeros 12) r s → quantizers r ≡ (no_quantizers, s)
unfolding quantizers
quantizers-zeros r s h =
    let a = reads_both (zeros 7) (zeros 5) r s h in
    let b = reads_both (zeros 1) (zeros 4) a.mid s a.following in
    let c = reads_both (zeros 1) (zeros 3) b.mid s b.following in
    let d = reads_both (zeros 1) (zeros 2) c.mid s c.following in
    let e = reads_both (zeros 1) (zeros 1) d.mid s d.following in
    let index : literal 7 r ≡ (0, a.mid) = literal-zeros 7 r a.mid a.front in
    let second : signed 4 a.mid ≡ (pos 0, b.mid) = signed-zero 4 a.mid b.mid b.front in
    let third : signed 4 b.mid ≡ (pos 0, c.mid) = signed-zero 4 b.mid c.mid c.front in
    let fourth : signed 4 c.mid ≡ (pos 0, d.mid) = signed-zero 4 c.mid d.mid d.front in
    let fifth : signed 4 d.mid ≡ (pos 0, e.mid) = signed-zero 4 d.mid e.mid e.front in
    let sixth : signed 4 e.mid ≡ (pos 0, s) = signed-zero 4 e.mid s e.following in
    rw (index, second, third, fourth, fifth, sixth) refl

updated-zero : KeepsAtZero updated
unfolding updated
updated-zero update before r s told = rw told refl

pub vector_probability-zero : KeepsAtZero vector_probability
unfolding vector_probability
vector_probability-zero update before r s told = rw told refl

pub skip_probability-1 : (r s : Reader) → Reads skip_pairs r s → skip_probability r ≡ (Some 1, s)
unfolding skip_probability
skip_probability-1 r s h = rw (h.bit, literal-1 h.mid s h.following) refl

refreshes-key : (before : SignBiases) (r s : Reader) → Reads (zeros 1) r s → refreshes true before r ≡ ((record { references = all_refreshed; refreshes_entropy = false }, before), s)
unfolding refreshes
refreshes-key before r s h = rw (h.bit, h.following) refl

-- no coefficient probability changes
pub coefficients-stay : (updates before : List ℕ) (r s : Reader) → length updates ≡ 1056 → Reads (zeros_at updates) r s → first_updated updated 1056 updates before r ≡ (before, s)
coefficients-stay updates before r s long h =
    let all : take 1056 updates ≡ updates = take_all 1056 updates (omega (arith, long)) in
    updates_none updated 1056 updates before r s updated-zero (omega (arith, long)) (subst (λ us. Reads (zeros_at us) r s) (sym all) h)

pub trailing-key : (updates : List ℕ) (before : Context) (r s : Reader) → length updates ≡ 1056 → Reads (zeros 13 ++ zeros_at updates ++ skip_pairs) r s → trailing_fields true updates before r ≡ ((record { quantizers = no_quantizers; references = all_refreshed; refreshes_entropy = false; skip_probability = Some 1; reference_probabilities = no_reference_probabilities }, before), s)
unfolding trailing_fields
trailing-key updates before r s long h =
    let a = reads_both (zeros 13 ++ zeros_at updates) skip_pairs r s h in
    let b = reads_both (zeros 13) (zeros_at updates) r a.mid a.front in
    let c = reads_both (zeros 12) (zeros 1) r b.mid b.front in
    let first : quantizers r ≡ (no_quantizers, c.mid) = quantizers-zeros r c.mid c.front in
    let second = refreshes-key before.sign_biases c.mid b.mid c.following in
    let third = coefficients-stay updates before.probabilities.coefficients b.mid a.mid long b.following in
    let fourth : skip_probability a.mid ≡ (Some 1, s) = skip_probability-1 a.mid s a.following in
    rw (first, second, third, fourth) refl
