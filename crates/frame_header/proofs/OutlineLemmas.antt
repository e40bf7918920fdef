-- The outline of a packet is that of its header.
use Rattle.std.proofs.Common.{◌≡◌, ℕ, Bool, true, false, List, [], ◌∷◌, length, Option, Some, None, Result, Ok, Err, refl, sym, ap, ◌∙◌, if◌then◌else◌}
use Rattle.std.specs.Prelude.{slice_range, is_some}
use Rattle.arrayvec.specs.ArrayVec.{ArrayVec}
use Rattle.vp8_tables.specs.Tables.{TableEntries}
use Rattle.bool_coder.specs.Reader.{Reader, started}
use Rattle.bool_coder.specs.Reading.{give}
use Rattle.frame_header.specs.Contexts.{first_context}
use Rattle.frame_header.specs.Fields.{segmentation, filter, adjustment, partition_count, colors, fields}
use Rattle.frame_header.specs.Header.{◌>>=◌, first_end, header_after, header_in, header_of}
use Rattle.frame_header.specs.Outlines.{OutlinesAreHeaders, context_if, outline_of, outlined}
use Rattle.frame_header.specs.Padding.{zero_context}
use Rattle.frame_header.specs.Places.{token_ranges}
use Rattle.frame_header.specs.References.{refreshes}
use Rattle.frame_header.specs.Start.{start_of}
use Rattle.frame_header.specs.Tags.{has_key_tag}
use Rattle.frame_header.specs.TrailingFields.{quantizers, trailing_fields}
use Rattle.frame_header.specs.declared.cause.Cause.{Cause}
use Rattle.frame_header.specs.declared.context.Context.{Context}
use Rattle.frame_header.specs.declared.context.SignBiases.{SignBiases}
use Rattle.frame_header.specs.declared.fields.Colors.{Colors}
use Rattle.frame_header.specs.declared.fields.Filter.{Filter}
use Rattle.frame_header.specs.declared.header.Header.{Header}
use Rattle.frame_header.specs.declared.outline.Outline.{Outline}
use Rattle.frame_header.specs.declared.places.PartitionRange.{PartitionRange}
use Rattle.frame_header.specs.declared.references.ReferenceUpdates.{ReferenceUpdates}
use Rattle.frame_header.specs.declared.start.Start.{Start}
use Rattle.frame_header.proofs.PartitionLemmas.{segmentation_same, adjustment_same, count_same}

colors_read : Bool → Reader → Reader
colors_read is_key r = ((if is_key then colors else give (record { color_space = false; clamping_type = false })) r).1

-- the fields up to the number of token partitions end at the same reader after every context
reader_same : (is_key : Bool) (c c' : Context) (r : Reader) → (fields is_key c r).1 ≡ (fields is_key c' r).1
unfolding fields colors_read
reader_same is_key c c' r =
    let color : Reader = colors_read is_key r in
    ap (λ (t : Reader). (partition_count (adjustment c.deltas (filter t).1).1).1) (segmentation_same c.segments c'.segments color)
    ∙ ap (λ (t : Reader). (partition_count t).1) (adjustment_same c.deltas c'.deltas (filter (segmentation c'.segments color).1).1)

filter_same : (is_key : Bool) (c c' : Context) (r : Reader) → (fields is_key c r).0.0.filter ≡ (fields is_key c' r).0.0.filter
unfolding fields colors_read
filter_same is_key c c' r =
    let color : Reader = colors_read is_key r in
    ap (λ (t : Reader). (filter t).0) (segmentation_same c.segments c'.segments color)

colors_same : (is_key : Bool) (c c' : Context) (r : Reader) → (fields is_key c r).0.0.colors ≡ (fields is_key c' r).0.0.colors
unfolding fields
colors_same is_key c c' r = refl

references_same : (is_key : Bool) (b b' : SignBiases) (r : Reader) → (refreshes is_key b r).0.0.references ≡ (refreshes is_key b' r).0.0.references
unfolding refreshes
references_same true b b' r = refl
references_same false b b' r = refl

index_in : (is_key : Bool) (updates : List ℕ) (c : Context) (r : Reader) → (trailing_fields is_key updates c r).0.0.quantizers ≡ (quantizers r).0
unfolding trailing_fields
index_in is_key updates c r = refl

references_in : (is_key : Bool) (updates : List ℕ) (c : Context) (r : Reader) → (trailing_fields is_key updates c r).0.0.references ≡ (refreshes is_key c.sign_biases (quantizers r).1).0.0.references
unfolding trailing_fields
references_in is_key updates c r = refl

abbrev outline_with : Colors → ℕ → ℕ → ℕ → ReferenceUpdates → Outline
outline_with colors partitions quantizer level references = record { colors = colors; partitions = partitions; quantizer = quantizer; level = level; references = references }

-- the outline of a header of these parts, next to the one that is read after another context
parts_same : (tables : TableEntries) (c c' : Context) (start : Start) (r : Reader) (partitions : ArrayVec PartitionRange)
    → (let read = fields start.tag.key c r in let trailing = trailing_fields start.tag.key tables.updates read.0.1 read.1 in outline_with read.0.0.colors (length partitions.items) trailing.0.0.quantizers.y_ac_index read.0.0.filter.level trailing.0.0.references)
    ≡ (let read = fields start.tag.key c' r in let index = quantizers read.1 in outline_with read.0.0.colors (length partitions.items) index.0.y_ac_index read.0.0.filter.level (refreshes start.tag.key read.0.1.sign_biases index.1).0.0.references)
parts_same tables c c' start r partitions =
    let key : Bool = start.tag.key in
    let read = fields key c r in
    let read' = fields key c' r in
    rw (index_in key tables.updates read.0.1 read.1, references_in key tables.updates read.0.1 read.1, references_same key read.0.1.sign_biases read'.0.1.sign_biases (quantizers read.1).1, reader_same key c c' r, filter_same key c c' r, colors_same key c c' r) refl

ranges_by : (header : ArrayVec PartitionRange → Header) (outline : ArrayVec PartitionRange → Outline) → ((partitions : ArrayVec PartitionRange) → outlined (Ok (header partitions)) ≡ Ok (outline partitions)) → (ranges : Result (ArrayVec PartitionRange) Cause)
    → outlined (ranges >>= (λ partitions. Ok (header partitions))) ≡ (ranges >>= (λ partitions. Ok (outline partitions)))
ranges_by header outline same (Ok partitions) = same partitions
ranges_by header outline same (Err cause) = refl

-- the outline of each start and end, after any context
outline_after : (start : Start) (r : Reader) → ArrayVec PartitionRange → Outline
outline_after start r partitions =
    let read = fields start.tag.key zero_context r in
    let index = quantizers read.1 in
    outline_with read.0.0.colors (length partitions.items) index.0.y_ac_index read.0.0.filter.level (refreshes start.tag.key read.0.1.sign_biases index.1).0.0.references

ends_by : (tables : TableEntries) (context : Context) (packet : List ℕ) (start : Start) (end : Result ℕ Cause)
    → outlined (end >>= (λ e. let read = fields start.tag.key context (started (slice_range packet start.place e)) in token_ranges packet e read.0.0.partition_count >>= (λ partitions. Ok (header_in start read.0 partitions (trailing_fields start.tag.key tables.updates read.0.1 read.1)))))
    ≡ (end >>= (λ e. token_ranges packet e (fields start.tag.key zero_context (started (slice_range packet start.place e))).0.0.partition_count >>= (λ partitions. Ok (outline_after start (started (slice_range packet start.place e)) partitions))))
unfolding outline_after
ends_by tables context packet start (Err cause) = refl
ends_by tables context packet start (Ok e) =
    let part : Reader = started (slice_range packet start.place e) in
    ranges_by _ (outline_after start part) (λ partitions. ap (λ (o : Outline). Ok o) (parts_same tables context zero_context start part partitions)) (token_ranges packet e (fields start.tag.key context part).0.0.partition_count)
    ∙ ap (λ (count : ℕ). token_ranges packet e count >>= (λ partitions. Ok (outline_after start part partitions))) (count_same start.tag.key context zero_context part)

starts_by : (tables : TableEntries) (context : Context) (packet : List ℕ) (start : Result Start Cause)
    → outlined (start >>= header_after tables context packet)
    ≡ (start >>= (λ s. first_end s packet >>= (λ e. token_ranges packet e (fields s.tag.key zero_context (started (slice_range packet s.place e))).0.0.partition_count >>= (λ partitions. Ok (outline_after s (started (slice_range packet s.place e)) partitions)))))
starts_by tables context packet (Err cause) = refl
starts_by tables context packet (Ok start) = ends_by tables context packet start (first_end start packet)

pub outlines_are_headers : OutlinesAreHeaders
unfolding header_of outline_of outline_after
outlines_are_headers tables None packet = starts_by tables (first_context tables (has_key_tag packet) None) packet (start_of None packet)
outlines_are_headers tables (Some before) packet = starts_by tables (first_context tables (has_key_tag packet) (Some before)) packet (start_of (Some before) packet)
