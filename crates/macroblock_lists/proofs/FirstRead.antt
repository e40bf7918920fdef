-- Decoding reads a first partition by its chain of reads, and the chain ends where the count says.
use Rattle.std.proofs.Common.{◌≡◌, ℕ, zero, suc, ◌+◌, ◌-◌, ◌*◌, ◌<◌, ◌≤◌, Bool, List, length, refl, sym, subst, ap, ◌∙◌, arith, inl, inr, ◌⊎◌, Option, Some, None, Result, Ok, Err}
use Rattle.std.specs.Prelude.{drop, nat_lt, slice_range, if◌then◌else◌}
use Rattle.std.specs.Option.{option_map}
use Rattle.std.proofs.lemmas.Bool.{cases_lt, le-ltb, lt-ltb}
use Rattle.std.proofs.lemmas.List.{length-drop, length-take-le}
use Rattle.arrayvec.specs.ArrayVec.{ArrayVec}
use Rattle.bool_coder.specs.Chains.{AreProbabilities, IsChain}
use Rattle.bool_coder.specs.Reader.{Reader, started}
use Rattle.bool_coder.specs.Reading.{Reading}
use Rattle.bool_coder.specs.Taken.{marked, taken_from}
use Rattle.bool_coder.proofs.Marks.{marks-left, marks-value}
use Rattle.vp8_tables.specs.Tables.{TableEntries}
use Rattle.frame_header.specs.Contexts.{first_context}
use Rattle.frame_header.specs.Fields.{fields}
use Rattle.frame_header.specs.Header.{HeadersAreOverTheirOwn, first_end, first_partition, header_from, header_in, header_of, header_over}
use Rattle.frame_header.specs.Places.{token_ranges}
use Rattle.frame_header.specs.Start.{start_of}
use Rattle.frame_header.specs.Tags.{has_key_tag}
use Rattle.frame_header.specs.TrailingFields.{trailing_fields}
use Rattle.frame_header.specs.declared.cause.Cause.{Cause}
use Rattle.frame_header.specs.declared.cause.Cause.TheVariants.{FirstPartition}
use Rattle.frame_header.specs.declared.context.Context.{Context}
use Rattle.frame_header.specs.declared.header.Header.{Header}
use Rattle.frame_header.specs.declared.places.PartitionRange.{PartitionRange}
use Rattle.mode_parser.specs.declared.records.MbMode.{MbMode}
use Rattle.mode_parser.specs.Chains.{FramesAreChains, HaveProbabilities}
use Rattle.mode_parser.specs.FrameModes.{first_modes, mode_at}
use Rattle.mode_parser.specs.InterRecords.{inter_mode, referenced_mode}
use Rattle.mode_parser.specs.Segments.{segment_at}
use Rattle.pixel_planes.specs.Pictures.{macroblocks}
use Rattle.macroblock_lists.specs.PartitionEnds.{end_of, first_end_by, first_partition_end, marked_text, partition_ends_of}
use Rattle.macroblock_lists.specs.Known.{frame_modes, height_of, known_before, width_of}
use Rattle.macroblock_lists.specs.Known.{Known}
use Rattle.macroblock_lists.specs.Records.{facts_by, facts_in, facts_over, no_facts}
use Rattle.mode_parser.specs.declared.record_facts.RecordFacts.{RecordFacts}
use Rattle.mode_parser.specs.RecordFacts.{facts_at, left_after}
use Rattle.std.proofs.lemmas.List.FromFn.{get_or-map-range_with_len}
use Rattle.macroblock_lists.specs.ModeBits.{frame_records}
use Rattle.macroblock_lists.specs.ChainEnds.{text_of}
use Rattle.macroblock_lists.specs.FirstChains.{AreBytes, FirstEndIsOfChain, FirstIsReadSo, context_in, first_reading, header_reading, packet_reading, records_reading, zeros_of}
use Rattle.macroblock_lists.proofs.FirstChains.{header-gives}
use Rattle.macroblock_lists.proofs.KeyEnds.{ends_after_state}
use Rattle.macroblock_lists.proofs.CountedEnds.{chain-none, end-counted}

-- the records do not depend on the token partitions, nor on the reader in the header
pub modes-alike : (n : ℕ) (tables : TableEntries) (header : Header) (partitions : ArrayVec PartitionRange) (reader : Reader) (columns rows : ℕ) (map : Option (List ℕ))
    → first_modes n tables (record header { partitions = partitions; reader = reader }) columns rows map ≡ first_modes n tables header columns rows map
unfolding first_modes mode_at segment_at inter_mode referenced_mode
modes-alike zero tables header partitions reader columns rows map = refl
modes-alike (suc place) tables header partitions reader columns rows map = rw (modes-alike place tables header partitions reader columns rows map) refl

pub width-alike : (before : Option Known) (one other : Header) → one.width ≡ other.width → width_of one before ≡ width_of other before
width-alike None one other is = is
width-alike (Some state) one other is = refl

pub height-alike : (before : Option Known) (one other : Header) → one.height ≡ other.height → height_of one before ≡ height_of other before
height-alike None one other is = is
height-alike (Some state) one other is = refl

-- what decoding reads of a first partition of a frame with this header, after a context and a state
abbrev pub frame_reading : TableEntries → Header → Context → Option Known → Reading (Header × List MbMode)
frame_reading tables header context before = first_reading tables header context (macroblocks (width_of header before)) (macroblocks (height_of header before)) (option_map (λ (s : Known). s.segment_map) before)

-- over its own text
abbrev pub OwnIsRead : TableEntries → Context → Option Known → List ℕ → Header → Type 0
OwnIsRead tables context before own header =
    let all = frame_reading tables header context before (started own) in
    (all.0 ≡ (header, (frame_modes tables header before).records)) × (length all.1.rest ≡ (frame_modes tables header before).left)

reads-own : (tables : TableEntries) (context : Context) (before : Option Known) (own packet : List ℕ) (earlier : Option Context) (start : _) → start_of earlier packet ≡ Ok start → (partitions : ArrayVec PartitionRange)
    → let first = fields start.tag.key context (started own) in
    OwnIsRead tables context before own (header_in start first.0 partitions (trailing_fields start.tag.key tables.updates first.0.1 first.1))
unfolding records_reading
reads-own tables context before own packet earlier start is partitions = (refl, refl)

-- a header with other token partitions leaves the same bits
left-alike : (tables : TableEntries) (one given : Header) (before : Option Known) → one.width ≡ given.width → one.height ≡ given.height
    → (frame_modes tables one before).left
    ≡ length (first_modes (macroblocks (width_of given before) * macroblocks (height_of given before)) tables (record one { partitions = given.partitions; reader = given.reader }) (macroblocks (width_of given before)) (macroblocks (height_of given before)) (option_map (λ (s : Known). s.segment_map) before) one.reader).1.rest
left-alike tables one given before wide high =
    let map : Option (List ℕ) = option_map (λ (s : Known). s.segment_map) before in
    rw (width-alike before one given wide, height-alike before one given high)
    (ap (λ (reading : Reading (List MbMode)). length (reading one.reader).1.rest) (sym (modes-alike (macroblocks (width_of given before) * macroblocks (height_of given before)) tables one given.partitions given.reader (macroblocks (width_of given before)) (macroblocks (height_of given before)) map)))

-- what the laws of the crates below say
pub record AreChains (tables : TableEntries) : Type 0 where
  pub first : (is_key : Bool) (context : Context) → IsChain (fields is_key context)
  pub trailing : (is_key : Bool) (context : Context) → IsChain (trailing_fields is_key tables.updates context)
  pub frames : FramesAreChains
  pub key_subs : AreProbabilities tables.key_subs
  pub own : HeadersAreOverTheirOwn

-- over another text: if its header is accepted, its modes leave the bits that are left; and if it is not, none are left
abbrev pub OtherIsRead : TableEntries → Context → Option Known → List ℕ → Header → Result Header Cause → ℕ → ℕ → Type 0
OtherIsRead tables context before text header found blanks size = first_end_by tables blanks size before found ≡ end_of blanks size (length (frame_reading tables header context before (started text)).1.rest)

accepted-other : (tables : TableEntries) (context : Context) (before : Option Known) (own text packet : List ℕ) (earlier : Option Context) (start : _) → start_of earlier packet ≡ Ok start
    → (partitions others : ArrayVec PartitionRange) (blanks size : ℕ)
    → let first = fields start.tag.key context (started own) in
    let other = fields start.tag.key context (started text) in
    OtherIsRead tables context before text (header_in start first.0 partitions (trailing_fields start.tag.key tables.updates first.0.1 first.1))
    (Ok (header_in start other.0 others (trailing_fields start.tag.key tables.updates other.0.1 other.1))) blanks size
unfolding records_reading
accepted-other tables context before own text packet earlier start is partitions others blanks size =
    let first = fields start.tag.key context (started own) in
    let other = fields start.tag.key context (started text) in
    ap (end_of blanks size) (left-alike tables (header_in start other.0 others (trailing_fields start.tag.key tables.updates other.0.1 other.1))
    (header_in start first.0 partitions (trailing_fields start.tag.key tables.updates first.0.1 first.1)) before refl refl)

refused-other : (tables : TableEntries) (context : Context) (before : Option Known) (own text packet : List ℕ) (earlier : Option Context) (start : _) → start_of earlier packet ≡ Ok start
    → (partitions : ArrayVec PartitionRange) (cause : Cause) (blanks size : ℕ)
    → AreChains tables → AreBytes context.probabilities
    → length (fields start.tag.key context (started text)).1.rest ≡ 0
    → let first = fields start.tag.key context (started own) in
    OtherIsRead tables context before text (header_in start first.0 partitions (trailing_fields start.tag.key tables.updates first.0.1 first.1)) (Err cause) blanks size
unfolding records_reading
refused-other tables context before own text packet earlier start is partitions cause blanks size chains kept none =
    let first = fields start.tag.key context (started own) in
    let given : Header = header_in start first.0 partitions (trailing_fields start.tag.key tables.updates first.0.1 first.1) in
    let header = header_reading tables given context (started text) in
    let after : length header.1.rest ≡ 0 = chain-none (chains.trailing start.tag.key (fields start.tag.key context (started text)).0.1) (fields start.tag.key context (started text)).1 none in
    let columns : ℕ = macroblocks (width_of given before) in
    let rows : ℕ = macroblocks (height_of given before) in
    let have : HaveProbabilities tables header.0 = (header-gives tables given context chains.key_subs kept).at (started text) in
    ap (end_of blanks size) (sym (chain-none (chains.frames tables header.0 columns rows (option_map (λ (s : Known). s.segment_map) before) (columns * rows) have) header.1 after))

-- the values of a text with zeros and a mark are those of the text itself, or no bit is left after them
pub same_or_none : {A : Type 0} {reading : Reading A} → IsChain reading → (blanks : ℕ) (own : List ℕ)
    → ((reading (started (marked blanks own))).0 ≡ (reading (started own)).0) ⊎ (length (reading (started (marked blanks own))).1.rest ≡ 0)
same_or_none {A = A} {reading = reading} one blanks own =
    elim (cases_lt (taken_from one.chain own) (8 * (length own + blanks + 1))) [
      | inl inside ↦
          inl (ap (λ (t : A × Reader). t.0) (one.same (started (marked blanks own))) ∙ marks-value one.chain own blanks inside ∙ ap (λ (t : A × Reader). t.0) (sym (one.same (started own))))
      | inr late ↦
          inr (ap (λ (t : A × Reader). length t.1.rest) (one.same (started (marked blanks own))) ∙ marks-left one.chain own blanks ∙ omega arith)
    ]

by-ranges : (tables : TableEntries) (context : Context) (before : Option Known) (own packet : List ℕ) (earlier : Option Context) (start : _) → start_of earlier packet ≡ Ok start
    → (end : ℕ) (partitions : ArrayVec PartitionRange) (blanks size : ℕ) (ranges : Result (ArrayVec PartitionRange) Cause)
    → AreChains tables → AreBytes context.probabilities
    → token_ranges packet end (fields start.tag.key context (started own)).0.0.partition_count ≡ Ok partitions
    → token_ranges packet end (fields start.tag.key context (started (marked blanks own))).0.0.partition_count ≡ ranges
    → let first = fields start.tag.key context (started own) in
    OtherIsRead tables context before (marked blanks own) (header_in start first.0 partitions (trailing_fields start.tag.key tables.updates first.0.1 first.1)) (header_from tables context packet start end (marked blanks own)) blanks size
by-ranges tables context before own packet earlier start is end partitions blanks size (Ok others) chains kept ours theirs =
    rw theirs (accepted-other tables context before own (marked blanks own) packet earlier start is partitions others blanks size)
by-ranges tables context before own packet earlier start is end partitions blanks size (Err cause) chains kept ours theirs =
    elim (same_or_none (chains.first start.tag.key context) blanks own) [
      | inl same ↦ absurd (let count = rw same at theirs in let both = sym ours ∙ count in cc)
      | inr none ↦ rw theirs (refused-other tables context before own (marked blanks own) packet earlier start is partitions cause blanks size chains kept none)
    ]

-- the bits that are counted of the record of a macroblock, over the header of another text
abbrev pub OtherFacts : TableEntries → Context → Option Known → List ℕ → Header → Result Header Cause → ℕ → Type 0
OtherFacts tables context before text header found n =
    (facts_in (facts_by tables before found) n).bits
    ≡ length (frame_records tables header context before n (started text)).1.rest - length (frame_records tables header context before (n + 1) (started text)).1.rest

left-at : (tables : TableEntries) (one given : Header) (before : Option Known) (m : ℕ) → one.width ≡ given.width → one.height ≡ given.height
    → left_after m tables one (macroblocks (width_of one before)) (macroblocks (height_of one before)) (option_map (λ (s : Known). s.segment_map) before)
    ≡ length (first_modes m tables (record one { partitions = given.partitions; reader = given.reader }) (macroblocks (width_of given before)) (macroblocks (height_of given before)) (option_map (λ (s : Known). s.segment_map) before) one.reader).1.rest
left-at tables one given before m wide high =
    let map : Option (List ℕ) = option_map (λ (s : Known). s.segment_map) before in
    rw (width-alike before one given wide, height-alike before one given high)
    (ap (λ (reading : Reading (List MbMode)). length (reading one.reader).1.rest) (sym (modes-alike m tables one given.partitions given.reader (macroblocks (width_of given before)) (macroblocks (height_of given before)) map)))

facts-of : (tables : TableEntries) (one given : Header) (before : Option Known) (n : ℕ) → one.width ≡ given.width → one.height ≡ given.height
    → n < macroblocks (width_of given before) * macroblocks (height_of given before)
    → (facts_in (facts_by tables before (Ok one)) n).bits
    ≡ left_after n tables one (macroblocks (width_of one before)) (macroblocks (height_of one before)) (option_map (λ (s : Known). s.segment_map) before)
    - left_after (n + 1) tables one (macroblocks (width_of one before)) (macroblocks (height_of one before)) (option_map (λ (s : Known). s.segment_map) before)
facts-of tables one given before n wide high inside =
    let map : Option (List ℕ) = option_map (λ (s : Known). s.segment_map) before in
    let columns : ℕ = macroblocks (width_of one before) in
    let rows : ℕ = macroblocks (height_of one before) in
    let within : n < columns * rows = rw (width-alike before one given wide, height-alike before one given high) inside in
    ap (λ (f : RecordFacts). f.bits) (get_or-map-range_with_len (facts_at tables one columns rows map) 0 (columns * rows) n n no_facts within (omega arith))

accepted-facts : (tables : TableEntries) (context : Context) (before : Option Known) (own text packet : List ℕ) (earlier : Option Context) (start : _) → start_of earlier packet ≡ Ok start
    → (partitions others : ArrayVec PartitionRange) (n : ℕ)
    → let first = fields start.tag.key context (started own) in
    let other = fields start.tag.key context (started text) in
    let given = header_in start first.0 partitions (trailing_fields start.tag.key tables.updates first.0.1 first.1) in
    n < macroblocks (width_of given before) * macroblocks (height_of given before) →
    OtherFacts tables context before text given (Ok (header_in start other.0 others (trailing_fields start.tag.key tables.updates other.0.1 other.1))) n
unfolding records_reading
accepted-facts tables context before own text packet earlier start is partitions others n inside =
    let first = fields start.tag.key context (started own) in
    let other = fields start.tag.key context (started text) in
    let given : Header = header_in start first.0 partitions (trailing_fields start.tag.key tables.updates first.0.1 first.1) in
    let one : Header = header_in start other.0 others (trailing_fields start.tag.key tables.updates other.0.1 other.1) in
    facts-of tables one given before n refl refl inside
    ∙ ap (λ (m : ℕ). m - left_after (n + 1) tables one (macroblocks (width_of one before)) (macroblocks (height_of one before)) (option_map (λ (s : Known). s.segment_map) before)) (left-at tables one given before n refl refl)
    ∙ ap (λ (m : ℕ). length (first_modes n tables (record one { partitions = given.partitions; reader = given.reader }) (macroblocks (width_of given before)) (macroblocks (height_of given before)) (option_map (λ (s : Known). s.segment_map) before) one.reader).1.rest - m) (left-at tables one given before (n + 1) refl refl)

none-less : (a b : ℕ) → a ≡ 0 → 0 ≡ a - b
none-less a b none = omega arith

refused-facts : (tables : TableEntries) (context : Context) (before : Option Known) (own text packet : List ℕ) (earlier : Option Context) (start : _) → start_of earlier packet ≡ Ok start
    → (partitions : ArrayVec PartitionRange) (cause : Cause) (n : ℕ)
    → AreChains tables → AreBytes context.probabilities
    → length (fields start.tag.key context (started text)).1.rest ≡ 0
    → let first = fields start.tag.key context (started own) in
    OtherFacts tables context before text (header_in start first.0 partitions (trailing_fields start.tag.key tables.updates first.0.1 first.1)) (Err cause) n
unfolding records_reading
refused-facts tables context before own text packet earlier start is partitions cause n chains kept none =
    let first = fields start.tag.key context (started own) in
    let given : Header = header_in start first.0 partitions (trailing_fields start.tag.key tables.updates first.0.1 first.1) in
    let header = header_reading tables given context (started text) in
    let after : length header.1.rest ≡ 0 = chain-none (chains.trailing start.tag.key (fields start.tag.key context (started text)).0.1) (fields start.tag.key context (started text)).1 none in
    let columns : ℕ = macroblocks (width_of given before) in
    let rows : ℕ = macroblocks (height_of given before) in
    let have : HaveProbabilities tables header.0 = (header-gives tables given context chains.key_subs kept).at (started text) in
    none-less _ _ (chain-none (chains.frames tables header.0 columns rows (option_map (λ (s : Known). s.segment_map) before) n have) header.1 after)

by-ranges-facts : (tables : TableEntries) (context : Context) (before : Option Known) (own packet : List ℕ) (earlier : Option Context) (start : _) → start_of earlier packet ≡ Ok start
    → (end : ℕ) (partitions : ArrayVec PartitionRange) (blanks n : ℕ) (ranges : Result (ArrayVec PartitionRange) Cause)
    → AreChains tables → AreBytes context.probabilities
    → token_ranges packet end (fields start.tag.key context (started own)).0.0.partition_count ≡ Ok partitions
    → token_ranges packet end (fields start.tag.key context (started (marked blanks own))).0.0.partition_count ≡ ranges
    → let first = fields start.tag.key context (started own) in
    let given = header_in start first.0 partitions (trailing_fields start.tag.key tables.updates first.0.1 first.1) in
    n < macroblocks (width_of given before) * macroblocks (height_of given before) →
    OtherFacts tables context before (marked blanks own) given (header_from tables context packet start end (marked blanks own)) n
by-ranges-facts tables context before own packet earlier start is end partitions blanks n (Ok others) chains kept ours theirs inside =
    rw theirs (accepted-facts tables context before own (marked blanks own) packet earlier start is partitions others n inside)
by-ranges-facts tables context before own packet earlier start is end partitions blanks n (Err cause) chains kept ours theirs inside =
    elim (same_or_none (chains.first start.tag.key context) blanks own) [
      | inl same ↦ absurd (let count = rw same at theirs in let both = sym ours ∙ count in cc)
      | inr none ↦ rw theirs (refused-facts tables context before own (marked blanks own) packet earlier start is partitions cause n chains kept none)
    ]

-- the bytes of a place that is not longer than its packet
pub length-text : (packet : List ℕ) (start size : ℕ) → size ≤ length packet - start → length (slice_range packet start (start + size)) ≡ size
length-text packet start size inside =
    let same : start + size - start ≡ size = omega arith in
    rw same (length-take-le size (drop start packet) (rw (length-drop start packet) inside))

first_end-inside : (whole place size end : ℕ) → ◌≡◌ {A = Result ℕ Cause} (if nat_lt (whole - place) size then Err FirstPartition else Ok (place + size)) (Ok end) → end - place ≤ whole - place
first_end-inside whole place size end is =
    elim (cases_lt (whole - place) size) [
      | inl short ↦ absurd (let none = rw (lt-ltb _ _ short) at is in cc)
      | inr enough ↦
          let some = rw (le-ltb _ _ enough) at is in
          let ends : place + size ≡ end = cc in
          omega arith
    ]

-- what the laws say of a first partition
pub record IsKnown (tables : TableEntries) (earlier : Option Context) (before : Option Known) (packet : List ℕ) (header : Header) (place : PartitionRange) : Type 0 where
  pub own : OwnIsRead tables (first_context tables (has_key_tag packet) earlier) before (slice_range packet place.start (place.start + place.length)) header
  pub ends : (blanks : ℕ) → first_partition_end tables blanks packet earlier before
      ≡ end_of blanks place.length (length (frame_reading tables header (first_context tables (has_key_tag packet) earlier) before (started (marked_text blanks packet place))).1.rest)
  pub size : length (slice_range packet place.start (place.start + place.length)) ≡ place.length
  pub facts : (blanks n : ℕ) → n < macroblocks (width_of header before) * macroblocks (height_of header before)
      → (facts_in (facts_over tables blanks packet before earlier (first_partition earlier packet)) n).bits
      ≡ length (frame_records tables header (first_context tables (has_key_tag packet) earlier) before n (started (marked_text blanks packet place))).1.rest
      - length (frame_records tables header (first_context tables (has_key_tag packet) earlier) before (n + 1) (started (marked_text blanks packet place))).1.rest

-- of a header that is read of the packet's own partition
pub header_over-by : (tables : TableEntries) (earlier : Option Context) (packet text : List ℕ) (start : _) (end : ℕ) → start_of earlier packet ≡ Ok start → first_end start packet ≡ Ok end
    → header_over tables earlier packet text ≡ header_from tables (first_context tables (has_key_tag packet) earlier) packet start end text
unfolding header_over
header_over-by tables earlier packet text start end start_is end_is = rw (start_is, end_is) refl

by-own : (tables : TableEntries) (earlier : Option Context) (before : Option Known) (packet : List ℕ) (header : Header) (start : _) (end : ℕ) (ranges : Result (ArrayVec PartitionRange) Cause)
    → AreChains tables → AreBytes (first_context tables (has_key_tag packet) earlier).probabilities
    → start_of earlier packet ≡ Ok start → first_end start packet ≡ Ok end
    → let place : PartitionRange = record { start = start.place; length = end - start.place } in
    first_partition earlier packet ≡ Ok place
    → token_ranges packet end (fields start.tag.key (first_context tables (has_key_tag packet) earlier) (started (slice_range packet place.start (place.start + place.length)))).0.0.partition_count ≡ ranges
    → header_from tables (first_context tables (has_key_tag packet) earlier) packet start end (slice_range packet place.start (place.start + place.length)) ≡ Ok header
    → IsKnown tables earlier before packet header place
unfolding first_partition_end
by-own tables earlier before packet header start end (Ok partitions) chains kept start_is end_is placed ours accepted =
    let context : Context = first_context tables (has_key_tag packet) earlier in
    let place : PartitionRange = record { start = start.place; length = end - start.place } in
    let own : List ℕ = slice_range packet place.start (place.start + place.length) in
    let first = fields start.tag.key context (started own) in
    let read : Header = header_in start first.0 partitions (trailing_fields start.tag.key tables.updates first.0.1 first.1) in
    let whole : ◌≡◌ {A = Result Header Cause} (Ok read) (Ok header) = rw ours at accepted in
    let is : read ≡ header = cc in
    let known : IsKnown tables earlier before packet read place = record {
      own = reads-own tables context before own packet earlier start start_is partitions;
      ends = λ blanks. rw placed (ap (first_end_by tables blanks place.length before) (header_over-by tables earlier packet (marked blanks own) start end start_is end_is)
          ∙ by-ranges tables context before own packet earlier start start_is end partitions blanks place.length _ chains kept ours refl);
      size = length-text packet start.place (end - start.place) (first_end-inside (length packet) start.place start.tag.first_partition end end_is);
      facts = λ blanks n inside. rw placed (ap (λ (found : Result Header Cause). (facts_in (facts_by tables before found) n).bits) (header_over-by tables earlier packet (marked blanks own) start end start_is end_is)
          ∙ by-ranges-facts tables context before own packet earlier start start_is end partitions blanks n _ chains kept ours refl inside);
    } in
    subst (λ (h : Header). IsKnown tables earlier before packet h place) is known
by-own tables earlier before packet header start end (Err cause) chains kept start_is end_is placed ours accepted =
    absurd (let none = rw ours at accepted in cc)

by-end : (tables : TableEntries) (earlier : Option Context) (before : Option Known) (packet : List ℕ) (header : Header) (place : PartitionRange) (start : _) (found : Result ℕ Cause)
    → AreChains tables → AreBytes (first_context tables (has_key_tag packet) earlier).probabilities
    → start_of earlier packet ≡ Ok start → first_end start packet ≡ found
    → header_of tables earlier packet ≡ Ok header → first_partition earlier packet ≡ Ok place
    → IsKnown tables earlier before packet header place
by-end tables earlier before packet header place start (Ok end) chains kept start_is end_is accepted placed =
    let own_place : PartitionRange = record { start = start.place; length = end - start.place } in
    let found : first_partition earlier packet ≡ Ok own_place = rw (start_is, end_is) refl in
    let whole : ◌≡◌ {A = Result PartitionRange Cause} (Ok own_place) (Ok place) = sym found ∙ placed in
    let same : own_place ≡ place = cc in
    let own : List ℕ = slice_range packet own_place.start (own_place.start + own_place.length) in
    let read : header_from tables (first_context tables (has_key_tag packet) earlier) packet start end own ≡ Ok header =
    sym (header_over-by tables earlier packet own start end start_is end_is) ∙ sym (chains.own tables earlier packet ∙ rw found refl) ∙ accepted in
    subst (λ (p : PartitionRange). IsKnown tables earlier before packet header p) same (by-own tables earlier before packet header start end _ chains kept start_is end_is found refl read)
by-end tables earlier before packet header place start (Err cause) chains kept start_is end_is accepted placed =
    absurd (let none = rw (start_is, end_is) at placed in cc)

by-start : (tables : TableEntries) (earlier : Option Context) (before : Option Known) (packet : List ℕ) (header : Header) (place : PartitionRange) (found : Result _ Cause)
    → AreChains tables → AreBytes (first_context tables (has_key_tag packet) earlier).probabilities
    → start_of earlier packet ≡ found
    → header_of tables earlier packet ≡ Ok header → first_partition earlier packet ≡ Ok place
    → IsKnown tables earlier before packet header place
by-start tables earlier before packet header place (Ok start) chains kept start_is accepted placed =
    by-end tables earlier before packet header place start _ chains kept start_is refl accepted placed
by-start tables earlier before packet header place (Err cause) chains kept start_is accepted placed =
    absurd (let none = rw start_is at placed in cc)

pub first-known : (tables : TableEntries) (earlier : Option Context) (before : Option Known) (packet : List ℕ) (header : Header) (place : PartitionRange)
    → AreChains tables → AreBytes (first_context tables (has_key_tag packet) earlier).probabilities
    → header_of tables earlier packet ≡ Ok header → first_partition earlier packet ≡ Ok place
    → IsKnown tables earlier before packet header place
first-known tables earlier before packet header place chains kept accepted placed = by-start tables earlier before packet header place _ chains kept refl accepted placed

-- the two laws
pub first_is_read_so : (tables : TableEntries) (state : Option Known) → AreChains tables → ((packet : List ℕ) → AreBytes (first_context tables (has_key_tag packet) (context_in state)).probabilities) → FirstIsReadSo tables state
first_is_read_so tables state chains bytes packet header place accepted placed =
    (first-known tables (context_in state) (known_before packet state) packet header place chains (bytes packet) accepted placed).own

pub first_end_is_of_chain : (tables : TableEntries) (state : Option Known) → AreChains tables → ((packet : List ℕ) → AreBytes (first_context tables (has_key_tag packet) (context_in state)).probabilities) → FirstEndIsOfChain tables state
unfolding partition_ends_of
first_end_is_of_chain tables state chains bytes packet header place accepted placed one =
    let known = first-known tables (context_in state) (known_before packet state) packet header place chains (bytes packet) accepted placed in
    let blanks : ℕ = zeros_of state packet header in
    let own : List ℕ = text_of packet place in
    rw (ends_after_state tables state packet, accepted) (known.ends blanks
    ∙ ap (λ (size : ℕ). end_of blanks size (length (packet_reading tables state packet header (started (marked blanks own))).1.rest)) (sym known.size)
    ∙ ap (λ (t : (Header × List MbMode) × Reader). end_of blanks (length own) (length t.1.rest)) (one.same (started (marked blanks own)))
    ∙ end-counted one.chain blanks own)
