-- The token partitions of a packet do not depend on the context.
use Rattle.std.proofs.Common.{◌≡◌, ℕ, ◌+◌, ◌≤◌, ◌<◌, Bool, true, false, ℤ, pos, List, [], ◌∷◌, length, Option, Some, None, Result, Ok, Err, IfOk, refl, sym, ap, ◌∙◌, arith, inl, inr, nat_lt, if◌then◌else◌}
use Rattle.std.specs.Prelude.{slice_index_or, slice_range}
use Rattle.std.specs.Option.{option_map_or}
use Rattle.std.specs.Result.{result_ok}
use Rattle.std.proofs.lemmas.Bool.{le-leb, lt-leb, cases_lt}
use Rattle.arrayvec.specs.ArrayVec.{ArrayVec}
use Rattle.vp8_tables.specs.Tables.{TableEntries}
use Rattle.bool_coder.specs.Reader.{Reader, started}
use Rattle.bool_coder.specs.Reading.{Reading, give, flag}
use Rattle.frame_header.specs.Contexts.{first_context}
use Rattle.frame_header.specs.Fields.{segment_data, map_probabilities, segment_updates, segmentation, filter, delta, four_deltas, deltas, adjustment, partition_count, colors, fields}
use Rattle.frame_header.specs.Header.{◌>>=◌, first_end, header_after, header_in, header_of}
use Rattle.frame_header.specs.Padding.{PaddingKeepsHeaders, PartitionsNeedNoContext, ends_empty, header_padded, padded, partitions_in, partitions_of, with_longer_last, with_zero, zero_context}
use Rattle.frame_header.specs.Places.{token_ranges}
use Rattle.frame_header.specs.Start.{start_of, tagged_start}
use Rattle.frame_header.specs.Tags.{has_key_tag, number_at, tag_in, tag_of}
use Rattle.frame_header.specs.TrailingFields.{trailing_fields}
use Rattle.frame_header.specs.declared.cause.Cause.{Cause}
use Rattle.frame_header.specs.declared.cause.Cause.TheVariants.{ShortPacket, Version, NoKeyFrame}
use Rattle.frame_header.specs.declared.context.Context.{Context}
use Rattle.frame_header.specs.declared.context.FilterDeltas.{FilterDeltas}
use Rattle.frame_header.specs.declared.context.Segments.{Segments}
use Rattle.frame_header.specs.declared.fields.Segmentation.{Segmentation}
use Rattle.frame_header.specs.declared.header.Header.{Header}
use Rattle.frame_header.specs.declared.places.PartitionRange.{PartitionRange}
use Rattle.frame_header.specs.declared.start.Start.{Start}
use Rattle.frame_header.specs.declared.tag_fields.Tag.{Tag}
use Rattle.frame_header.proofs.PaddingLemmas.{header_of-zero, tag_of-zero}
use Rattle.frame_header.proofs.KeyLemmas.{header_of-key}

-- a choice of what is read, whose reader is the same at either of two values
chosen : {A : Type 0} (b : Bool) (x x' : Reading A) (y y' : Reading A) (r : Reader) → (x r).1 ≡ (x' r).1 → (y r).1 ≡ (y' r).1 → ((if b then x else y) r).1 ≡ ((if b then x' else y') r).1
chosen true x x' y y' r p q = p
chosen false x x' y y' r p q = q

data_same : (b : Bool) (s s' : Segments) (r : Reader) → ((if b then segment_data else give s) r).1 ≡ ((if b then segment_data else give s') r).1
data_same true s s' r = refl
data_same false s s' r = refl

updates_same : (s s' : Segments) (r : Reader) → (segment_updates s r).1 ≡ (segment_updates s' r).1
unfolding segment_updates
updates_same s s' r =
    let map = flag r in
    let data_too = flag map.1 in
    ap (λ (t : Reader). ((if map.0 then map_probabilities else give (255 ∷ 255 ∷ 255 ∷ [])) t).1) (data_same data_too.0 s s' data_too.1)

pub segmentation_same : (s s' : Segments) (r : Reader) → (segmentation s r).1 ≡ (segmentation s' r).1
unfolding segmentation
segmentation_same s s' r =
    chosen {A = Segmentation × Segments} (flag r).0 (segment_updates s) (segment_updates s') _ _ (flag r).1 (updates_same s s' (flag r).1) refl

delta_by : (b : Bool) (d d' : ℤ) (r : Reader) (x : Reading ℤ) → ((if b then x else give d) r).1 ≡ ((if b then x else give d') r).1
delta_by true d d' r x = refl
delta_by false d d' r x = refl

delta_same : (d d' : ℤ) (r : Reader) → (delta d r).1 ≡ (delta d' r).1
unfolding delta
delta_same d d' r = delta_by (flag r).0 d d' (flag r).1 _

four_deltas_same : (ds ds' : List ℤ) (r : Reader) → (four_deltas ds r).1 ≡ (four_deltas ds' r).1
unfolding four_deltas
four_deltas_same ds ds' r =
    let at : List ℤ → ℕ → ℤ = λ xs k. slice_index_or xs k (pos 0) in
    ap (λ (t : Reader). (delta (at ds 3) (delta (at ds 2) (delta (at ds 1) t).1).1).1) (delta_same (at ds 0) (at ds' 0) r)
    ∙ ap (λ (t : Reader). (delta (at ds 3) (delta (at ds 2) t).1).1) (delta_same (at ds 1) (at ds' 1) (delta (at ds' 0) r).1)
    ∙ ap (λ (t : Reader). (delta (at ds 3) t).1) (delta_same (at ds 2) (at ds' 2) (delta (at ds' 1) (delta (at ds' 0) r).1).1)
    ∙ delta_same (at ds 3) (at ds' 3) (delta (at ds' 2) (delta (at ds' 1) (delta (at ds' 0) r).1).1).1

deltas_same : (d d' : FilterDeltas) (r : Reader) → (deltas d r).1 ≡ (deltas d' r).1
unfolding deltas
deltas_same d d' r =
    let both : (four_deltas d.mode (four_deltas d.reference (flag r).1).1).1 ≡ (four_deltas d'.mode (four_deltas d'.reference (flag r).1).1).1 =
    ap (λ (t : Reader). (four_deltas d.mode t).1) (four_deltas_same d.reference d'.reference (flag r).1) ∙ four_deltas_same d.mode d'.mode (four_deltas d'.reference (flag r).1).1 in
    chosen {A = FilterDeltas} (flag r).0 _ _ _ _ (flag r).1 both refl

pub adjustment_same : (d d' : FilterDeltas) (r : Reader) → (adjustment d r).1 ≡ (adjustment d' r).1
unfolding adjustment
adjustment_same d d' r = chosen {A = Bool × FilterDeltas} (flag r).0 _ _ _ _ (flag r).1 (deltas_same d d' (flag r).1) refl

pub count_same : (is_key : Bool) (c c' : Context) (r : Reader) → (fields is_key c r).0.0.partition_count ≡ (fields is_key c' r).0.0.partition_count
unfolding fields
count_same is_key c c' r =
    let color : Reader = ((if is_key then colors else give (record { color_space = false; clamping_type = false })) r).1 in
    ap (λ (t : Reader). (partition_count (adjustment c.deltas (filter t).1).1).0) (segmentation_same c.segments c'.segments color)
    ∙ ap (λ (t : Reader). (partition_count t).0) (adjustment_same c.deltas c'.deltas (filter (segmentation c'.segments color).1).1)

ranges_by : (header : ArrayVec PartitionRange → Header) → ((partitions : ArrayVec PartitionRange) → (header partitions).partitions ≡ partitions) → (ranges : Result (ArrayVec PartitionRange) Cause) → partitions_in (ranges >>= (λ partitions. Ok (header partitions))) ≡ ranges
ranges_by header own (Ok partitions) = ap (λ (ps : ArrayVec PartitionRange). Ok ps) (own partitions)
ranges_by header own (Err cause) = refl

-- the partitions of each start, after any context
ends_by : (tables : TableEntries) (context : Context) (packet : List ℕ) (start : Start) (end : Result ℕ Cause)
    → partitions_in (end >>= (λ e. let read = fields start.tag.key context (started (slice_range packet start.place e)) in token_ranges packet e read.0.0.partition_count >>= (λ partitions. Ok (header_in start read.0 partitions (trailing_fields start.tag.key tables.updates read.0.1 read.1)))))
    ≡ (end >>= (λ e. token_ranges packet e (fields start.tag.key zero_context (started (slice_range packet start.place e))).0.0.partition_count))
ends_by tables context packet start (Err cause) = refl
ends_by tables context packet start (Ok e) =
    let part : Reader = started (slice_range packet start.place e) in
    ranges_by _ (λ partitions. refl) (token_ranges packet e (fields start.tag.key context part).0.0.partition_count)
    ∙ ap (λ (count : ℕ). token_ranges packet e count) (count_same start.tag.key context zero_context part)

starts_by : (tables : TableEntries) (context : Context) (packet : List ℕ) (start : Result Start Cause)
    → partitions_in (start >>= header_after tables context packet)
    ≡ (start >>= (λ s. first_end s packet >>= (λ e. token_ranges packet e (fields s.tag.key zero_context (started (slice_range packet s.place e))).0.0.partition_count)))
starts_by tables context packet (Err cause) = refl
starts_by tables context packet (Ok start) = ends_by tables context packet start (first_end start packet)

pub partitions_need_no_context : PartitionsNeedNoContext
unfolding header_of
partitions_need_no_context tables before packet = starts_by tables (first_context tables (has_key_tag packet) (Some before)) packet (start_of (Some before) packet)

-- a packet whose last partition has no byte is accepted after a key frame
accepted_after : (packet : List ℕ) (cause : Cause) → ends_empty packet ≡ true → partitions_of packet ≡ Err cause → ⊥
unfolding ends_empty
accepted_after packet cause ends is = let never = rw is at ends in cc

pub ends_has_tag : (packet : List ℕ) → ends_empty packet ≡ true → 3 ≤ length packet
ends_has_tag packet ends =
    elim (cases_lt (length packet) 3) [
      | inl short ↦ absurd (accepted_after packet ShortPacket ends (rw (lt-leb 3 (length packet) short) refl))
      | inr enough ↦ enough
    ]

-- without a key frame before it a packet without a key tag is refused for its tag alone
refused_by : (tables : TableEntries) (context : Context) (packet : List ℕ) (tag : Tag) (late : Bool) → tag.key ≡ false → nat_lt 3 tag.version ≡ late
    → (tagged_start tag None packet >>= header_after tables context packet) ≡ Err (if late then Version else NoKeyFrame)
refused_by tables context packet tag true other is = rw (other, is) refl
refused_by tables context packet tag false other is = rw (other, is) refl

refused : (tables : TableEntries) (packet : List ℕ) (tag : Tag) → tag_of packet ≡ Some tag → tag.key ≡ false → header_of tables None packet ≡ Err (if nat_lt 3 tag.version then Version else NoKeyFrame)
unfolding header_of
refused tables packet tag is other = rw is (refused_by tables _ packet tag _ other refl)

first_is_refused : (tables : TableEntries) (packet : List ℕ) (cause : Cause) → ends_empty packet ≡ true → has_key_tag packet ≡ false → header_of tables None packet ≡ Err cause → header_of tables None (with_zero packet) ≡ Err cause
first_is_refused tables packet cause ends other is =
    let enough : 3 ≤ length packet = ends_has_tag packet ends in
    let tag : Tag = tag_in (number_at packet 0) in
    let tagged : tag_of packet ≡ Some tag = rw (le-leb 3 (length packet) enough) refl in
    let no_key : tag.key ≡ false = rw tagged at other in
    refused tables (with_zero packet) tag (tag_of-zero packet enough ∙ tagged) no_key ∙ (sym (refused tables packet tag tagged no_key) ∙ is)

-- a packet that is accepted after a key frame is refused only as the first one
still_refused : (tables : TableEntries) (before : Option Context) (packet : List ℕ) (cause : Cause) (key : Bool) → ends_empty packet ≡ true → has_key_tag packet ≡ key → header_of tables before packet ≡ Err cause → header_of tables before (with_zero packet) ≡ Err cause
still_refused tables (Some context) packet cause key ends tagged is = absurd (accepted_after packet cause ends (sym (partitions_need_no_context tables context packet) ∙ ap partitions_in is))
still_refused tables None packet cause true ends tagged is = absurd (accepted_after packet cause ends (sym (partitions_need_no_context tables zero_context packet) ∙ ap partitions_in (header_of-key tables (Some zero_context) packet tagged ∙ is)))
still_refused tables None packet cause false ends tagged is = first_is_refused tables packet cause ends tagged is

padded_header : (tables : TableEntries) (before : Option Context) (packet : List ℕ) (result : Result Header Cause) → ends_empty packet ≡ true → header_of tables before packet ≡ result
    → IfOk result (λ header. header_of tables before (with_zero packet) ≡ Ok (with_longer_last header)) → header_of tables before (with_zero packet) ≡ header_padded packet result
padded_header tables before packet (Ok header) ends is longer = rw ends longer
padded_header tables before packet (Err cause) ends is longer = still_refused tables before packet cause _ ends refl is

same_header : (packet : List ℕ) (result : Result Header Cause) → ends_empty packet ≡ false → header_padded packet result ≡ result
same_header packet (Ok header) ends = rw ends refl
same_header packet (Err cause) ends = refl

padded_by : (tables : TableEntries) (before : Option Context) (packet : List ℕ) (ends : Bool) → ends_empty packet ≡ ends → header_of tables before (padded packet) ≡ header_padded packet (header_of tables before packet)
padded_by tables before packet true is = ap (λ (b : Bool). header_of tables before (if b then with_zero packet else packet)) is ∙ padded_header tables before packet (header_of tables before packet) is refl (header_of-zero tables before packet)
padded_by tables before packet false is = ap (λ (b : Bool). header_of tables before (if b then with_zero packet else packet)) is ∙ sym (same_header packet (header_of tables before packet) is)

pub padding_keeps_headers : PaddingKeepsHeaders
padding_keeps_headers tables before packet = padded_by tables before packet _ refl
