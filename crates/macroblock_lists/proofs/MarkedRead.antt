-- A header over a first partition with zeros and a mark after it is that of the packet, if bits of these are left after the records.
use Rattle.std.proofs.Common.{◌≡◌, ℕ, zero, suc, ◌+◌, ◌-◌, ◌*◌, ◌<◌, true, List, [], ◌∷◌, ◌++◌, length, map, refl, sym, subst, ap, ◌∙◌, arith, inl, inr, Option, Some, None, Result, Ok, Err}
use Rattle.std.specs.Prelude.{slice_range}
use Rattle.std.specs.List.{range_with_len}
use Rattle.std.specs.Option.{option_map}
use Rattle.std.proofs.lemmas.List.FromFn.{map-range_with_len_more}
use Rattle.std.proofs.lemmas.Simd.{map-map}
use Rattle.arrayvec.specs.ArrayVec.{ArrayVec}
use Rattle.bool_coder.specs.Chains.{IsChain}
use Rattle.bool_coder.specs.Reader.{Reader, started}
use Rattle.bool_coder.specs.Reading.{Reading, ◌>>=◌}
use Rattle.bool_coder.specs.Taken.{marked}
use Rattle.vp8_tables.specs.Tables.{TableEntries}
use Rattle.frame_header.specs.Contexts.{first_context}
use Rattle.frame_header.specs.Fields.{fields}
use Rattle.frame_header.specs.Header.{first_end, first_partition, header_from, header_in, header_over}
use Rattle.frame_header.specs.Places.{token_ranges}
use Rattle.frame_header.specs.Start.{start_of}
use Rattle.frame_header.specs.Tags.{has_key_tag}
use Rattle.frame_header.specs.TrailingFields.{trailing_fields}
use Rattle.frame_header.specs.declared.cause.Cause.{Cause}
use Rattle.frame_header.specs.declared.context.Context.{Context}
use Rattle.frame_header.specs.declared.header.Header.{Header}
use Rattle.frame_header.specs.declared.places.PartitionRange.{PartitionRange}
use Rattle.mode_parser.specs.FrameModes.{first_modes}
use Rattle.mode_parser.specs.RecordFacts.{facts_at, facts_of, inter_split, referenced_split, split_at}
use Rattle.mode_parser.specs.RecordLaws.{SplitsAreChains}
use Rattle.mode_parser.specs.Segments.{map_after, segment_at}
use Rattle.mode_parser.specs.declared.record_facts.RecordFacts.{RecordFacts}
use Rattle.mode_parser.specs.declared.records.MbMode.{MbMode}
use Rattle.mode_parser.specs.declared.records.Split.{Split}
use Rattle.pixel_planes.specs.Pictures.{macroblocks}
use Rattle.macroblock_lists.specs.Known.{Known, frame_modes, header_after, height_of, known_before, width_of}
use Rattle.macroblock_lists.specs.PartitionEnds.{marked_text}
use Rattle.macroblock_lists.specs.Records.{own_facts}
use Rattle.macroblock_lists.specs.FirstChains.{AreBytes, context_in, header_reading, records_reading}
use Rattle.macroblock_lists.specs.ProofsOnly.{IsRead, MarkedIsRead}
use Rattle.macroblock_lists.proofs.CountedEnds.{chain-none}
use Rattle.macroblock_lists.proofs.FirstChains.{has_bytes, has_them, have_them, header-gives, records_reading-chain, tested-chain}
use Rattle.macroblock_lists.proofs.FirstRead.{AreChains, header_over-by, height-alike, modes-alike, same_or_none, width-alike}
use Rattle.macroblock_lists.proofs.Gives.{Gives}
use Rattle.macroblock_lists.proofs.NoneLeft.{none-first_modes, none-more, split-none}

-- a header with another reader
abbrev pub with_reader : Header → Reader → Header
with_reader header reader = record header { reader = reader }

-- a header that is read over this text, and the one over another text, with the tag, the size and the partitions of the first
abbrev pub IsOver : TableEntries → Context → List ℕ → Header → Type 0
IsOver tables context text over = header_reading tables over context (started text) ≡ (over, over.reader)

abbrev pub header_by : TableEntries → Context → List ℕ → Header → Header
header_by tables context own over =
    let read = header_reading tables over context (started own) in
    with_reader read.0 read.1

-- what is read of the first n records
abbrev pub after_header : TableEntries → ℕ → ℕ → Option (List ℕ) → ℕ → Header × Reader → (Header × List MbMode) × Reader
after_header tables columns rows map n read =
    let records = first_modes n tables read.0 columns rows map read.1 in
    ((read.0, records.0), records.1)

records-over : (tables : TableEntries) (context : Context) (text : List ℕ) (over : Header) (columns rows : ℕ) (map : Option (List ℕ)) (n : ℕ) → IsOver tables context text over
    → records_reading tables over context columns rows map n (started text) ≡ after_header tables columns rows map n (over, over.reader)
unfolding records_reading
records-over tables context text over columns rows map n is = ap (after_header tables columns rows map n) is

abbrev pub LeavesSome : TableEntries → Header → ℕ → ℕ → Option (List ℕ) → ℕ → Type 0
LeavesSome tables over columns rows map n = 0 < length (first_modes n tables over columns rows map over.reader).1.rest

-- its first fields are those over the packet's own partition
fields-same : (tables : TableEntries) (context : Context) (over : Header) (columns rows : ℕ) (map : Option (List ℕ)) (n blanks : ℕ) (own : List ℕ) → AreChains tables
    → IsOver tables context (marked blanks own) over → LeavesSome tables over columns rows map n
    → (fields over.is_key context (started (marked blanks own))).0 ≡ (fields over.is_key context (started own)).0
fields-same tables context over columns rows map n blanks own chains is some =
    elim (same_or_none (chains.first over.is_key context) blanks own) [
      | inl same ↦ same
      | inr none ↦
          let first = fields over.is_key context (started (marked blanks own)) in
          let after : length (header_reading tables over context (started (marked blanks own))).1.rest ≡ 0 = chain-none (chains.trailing over.is_key first.0.1) first.1 none in
          let here : length over.reader.rest ≡ 0 = ap (λ (t : Header × Reader). length t.1.rest) (sym is) ∙ after in
          let end = (none-first_modes n tables over columns rows map).at over.reader here in
          absurd (omega (arith, some, end))
    ]

-- so are the header, except for its reader, and the records
all-same : (tables : TableEntries) (context : Context) (over : Header) (columns rows : ℕ) (map : Option (List ℕ)) (n blanks : ℕ) (own : List ℕ) → AreChains tables → AreBytes context.probabilities
    → IsOver tables context (marked blanks own) over → LeavesSome tables over columns rows map n
    → (records_reading tables over context columns rows map n (started own)).0 ≡ (over, (first_modes n tables over columns rows map over.reader).0)
all-same tables context over columns rows map n blanks own chains kept is some =
    let reading : IsChain (records_reading tables over context columns rows map n) =
    records_reading-chain tables over context columns rows map n (chains.first over.is_key) (chains.trailing over.is_key) chains.frames chains.key_subs kept in
    let there = records-over tables context (marked blanks own) over columns rows map n is in
    elim (same_or_none reading blanks own) [
      | inl same ↦ sym same ∙ ap (λ (t : (Header × List MbMode) × Reader). t.0) there
      | inr none ↦ absurd (let end = ap (λ (t : (Header × List MbMode) × Reader). length t.1.rest) (sym there) ∙ none in omega (arith, some, end))
    ]

header-same : (tables : TableEntries) (context : Context) (over : Header) (columns rows : ℕ) (map : Option (List ℕ)) (n : ℕ) (own : List ℕ) (records : List MbMode)
    → (records_reading tables over context columns rows map n (started own)).0 ≡ (over, records)
    → header_by tables context own over ≡ with_reader over (header_by tables context own over).reader
unfolding records_reading
header-same tables context over columns rows map n own records same =
    ap (λ (t : Header × List MbMode). with_reader t.0 (header_by tables context own over).reader) same

-- the records do not depend on the reader in the header
first-alike : (n : ℕ) (tables : TableEntries) (header : Header) (reader : Reader) (columns rows : ℕ) (map : Option (List ℕ))
    → first_modes n tables (with_reader header reader) columns rows map ≡ first_modes n tables header columns rows map
first-alike n tables header reader columns rows map = modes-alike n tables header header.partitions reader columns rows map

records-same : (tables : TableEntries) (context : Context) (over : Header) (columns rows : ℕ) (map : Option (List ℕ)) (n : ℕ) (own : List ℕ) (records : List MbMode)
    → (records_reading tables over context columns rows map n (started own)).0 ≡ (over, records)
    → let mine = header_by tables context own over in
    (first_modes n tables mine columns rows map mine.reader).0 ≡ records
unfolding records_reading
records-same tables context over columns rows map n own records same =
    let read = header_reading tables over context (started own) in
    ap (λ (reading : Reading (List MbMode)). (reading read.1).0) (first-alike n tables read.0 read.1 columns rows map) ∙ ap (λ (t : Header × List MbMode). t.1) same

-- and how each macroblock is split
abbrev pub split_of : TableEntries → Header → ℕ → ℕ → Option (List ℕ) → ℕ → Option Split
split_of tables header columns rows map n =
    let before = first_modes n tables header columns rows map header.reader in
    (split_at header columns rows map n before.0 before.1).0

-- what decoding reads up to the split of the record at an index
abbrev pub split_reading : TableEntries → Header → Context → ℕ → ℕ → Option (List ℕ) → ℕ → Reading (Option Split)
split_reading tables given context columns rows map n = records_reading tables given context columns rows map n >>= (λ read. split_at read.0 columns rows map n read.1)

records-bytes : (tables : TableEntries) (given : Header) (context : Context) (columns rows : ℕ) (map : Option (List ℕ)) (n : ℕ) → AreChains tables → AreBytes context.probabilities
    → Gives (λ read. has_bytes read.0 ≡ true) (records_reading tables given context columns rows map n)
unfolding records_reading
records-bytes tables given context columns rows map n chains kept = record { at = λ r. has_them tables _ ((header-gives tables given context chains.key_subs kept).at r) }

split-chain : (tables : TableEntries) (given : Header) (context : Context) (columns rows : ℕ) (map : Option (List ℕ)) (n : ℕ) → AreChains tables → SplitsAreChains → AreBytes context.probabilities
    → IsChain (split_reading tables given context columns rows map n)
split-chain tables given context columns rows map n chains splits kept =
    tested-chain (λ (read : Header × List MbMode). has_bytes read.0) None
    (records_reading-chain tables given context columns rows map n (chains.first given.is_key) (chains.trailing given.is_key) chains.frames chains.key_subs kept)
    (records-bytes tables given context columns rows map n chains kept)
    (λ read has. splits tables read.0 columns rows map n read.1 (have_them tables read.0 chains.key_subs has))

split_at-alike : (header : Header) (reader : Reader) (columns rows : ℕ) (map : Option (List ℕ)) (n : ℕ) (before : List MbMode) (r : Reader)
    → split_at (with_reader header reader) columns rows map n before r ≡ split_at header columns rows map n before r
unfolding split_at segment_at inter_split referenced_split
split_at-alike header reader columns rows map n before r = refl

split_of-alike : (tables : TableEntries) (header : Header) (reader : Reader) (columns rows : ℕ) (map : Option (List ℕ)) (n : ℕ)
    → let before = first_modes n tables header columns rows map reader in
    split_of tables (with_reader header reader) columns rows map n ≡ (split_at header columns rows map n before.0 before.1).0
split_of-alike tables header reader columns rows map n =
    ap (λ (reading : Reading (List MbMode)). (split_at (with_reader header reader) columns rows map n (reading reader).0 (reading reader).1).0) (first-alike n tables header reader columns rows map)
    ∙ ap (λ (t : Option Split × Reader). t.0) (split_at-alike header reader columns rows map n _ _)

split_of-own : (tables : TableEntries) (context : Context) (own : List ℕ) (over : Header) (columns rows : ℕ) (map : Option (List ℕ)) (n : ℕ)
    → split_of tables (header_by tables context own over) columns rows map n ≡ (split_reading tables over context columns rows map n (started own)).0
unfolding records_reading
split_of-own tables context own over columns rows map n =
    let read = header_reading tables over context (started own) in
    split_of-alike tables read.0 read.1 columns rows map n

-- bits are left after the start of each record
split-some : (tables : TableEntries) (over : Header) (columns rows : ℕ) (map : Option (List ℕ)) (n all : ℕ) → n < all
    → let before = first_modes n tables over columns rows map over.reader in
    length (split_at over columns rows map n before.0 before.1).1.rest ≡ 0 → length (first_modes all tables over columns rows map over.reader).1.rest ≡ 0
unfolding first_modes
split-some tables over columns rows map n all inside none =
    let before = first_modes n tables over columns rows map over.reader in
    let next : length (first_modes (suc n) tables over columns rows map over.reader).1.rest ≡ 0 = split-none tables over columns rows map n before.0 before.1 none in
    let count : all - suc n + suc n ≡ all = omega (arith, inside) in
    subst (λ (m : ℕ). length (first_modes m tables over columns rows map over.reader).1.rest ≡ 0) count (none-more (suc n) (all - suc n) tables over columns rows map over.reader next)

split-same : (tables : TableEntries) (context : Context) (over : Header) (columns rows : ℕ) (map : Option (List ℕ)) (n all blanks : ℕ) (own : List ℕ) → AreChains tables → SplitsAreChains → AreBytes context.probabilities
    → n < all → IsOver tables context (marked blanks own) over → LeavesSome tables over columns rows map all
    → split_of tables (header_by tables context own over) columns rows map n ≡ split_of tables over columns rows map n
split-same tables context over columns rows map n all blanks own chains splits kept inside is some =
    let split : (Header × List MbMode) × Reader → Option Split × Reader = λ t. split_at t.0.0 columns rows map n t.0.1 t.1 in
    let there : split_reading tables over context columns rows map n (started (marked blanks own)) ≡ split (after_header tables columns rows map n (over, over.reader)) =
    ap split (records-over tables context (marked blanks own) over columns rows map n is) in
    elim (same_or_none (split-chain tables over context columns rows map n chains splits kept) blanks own) [
      | inl same ↦ split_of-own tables context own over columns rows map n ∙ sym same ∙ ap (λ (t : Option Split × Reader). t.0) there
      | inr none ↦
          let end = split-some tables over columns rows map n all inside (ap (λ (t : Option Split × Reader). length t.1.rest) (sym there) ∙ none) in
          absurd (omega (arith, some, end))
    ]

-- of each macroblock
mapped-same : {X : Type 0} (f g : ℕ → X) (n : ℕ) → ((k : ℕ) → k < n → f k ≡ g k) → map f (range_with_len 0 n) ≡ map g (range_with_len 0 n)
mapped-same f g zero each = refl
mapped-same f g (suc n) each =
    let more : n + 1 ≡ suc n = omega arith in
    let none : 0 + n ≡ n = omega arith in
    let one : map f (range_with_len 0 (n + 1)) ≡ map g (range_with_len 0 (n + 1)) =
    map-range_with_len_more f 0 n n none ∙ ap (λ xs. xs ++ f n ∷ []) (mapped-same f g n (λ k inside. each k (omega (arith, inside))))
    ∙ ap (λ x. map g (range_with_len 0 n) ++ x ∷ []) (each n (omega arith)) ∙ sym (map-range_with_len_more g 0 n n none) in
    subst (λ (m : ℕ). map f (range_with_len 0 m) ≡ map g (range_with_len 0 m)) more one

abbrev pub splits_in : List RecordFacts → List (Option Split)
splits_in all = map (λ (facts : RecordFacts). facts.split) all

splits-same : (tables : TableEntries) (context : Context) (over : Header) (columns rows : ℕ) (segments : Option (List ℕ)) (blanks : ℕ) (own : List ℕ) → AreChains tables → SplitsAreChains → AreBytes context.probabilities
    → IsOver tables context (marked blanks own) over → LeavesSome tables over columns rows segments (columns * rows)
    → splits_in (facts_of tables (header_by tables context own over) columns rows segments) ≡ splits_in (facts_of tables over columns rows segments)
splits-same tables context over columns rows segments blanks own chains splits kept is some =
    let mine : Header = header_by tables context own over in
    let range : List ℕ = range_with_len 0 (columns * rows) in
    map-map (λ (facts : RecordFacts). facts.split) (facts_at tables mine columns rows segments) range
    ∙ mapped-same (split_of tables mine columns rows segments) (split_of tables over columns rows segments) (columns * rows)
    (λ n inside. split-same tables context over columns rows segments n (columns * rows) blanks own chains splits kept inside is some)
    ∙ sym (map-map (λ (facts : RecordFacts). facts.split) (facts_at tables over columns rows segments) range)

-- what is the same of a header over another text
pub record IsAlike (tables : TableEntries) (before : Option Known) (mine over : Header) : Type 0 where
  pub header : mine ≡ with_reader over mine.reader
  pub records : (frame_modes tables mine before).records ≡ (frame_modes tables over before).records
  pub splits : splits_in (own_facts tables mine before) ≡ splits_in (own_facts tables over before)

alike : (tables : TableEntries) (context : Context) (before : Option Known) (over : Header) (blanks : ℕ) (own : List ℕ)
    → AreChains tables → SplitsAreChains → AreBytes context.probabilities → IsOver tables context (marked blanks own) over
    → 0 < (frame_modes tables over before).left → IsAlike tables before (header_by tables context own over) over
alike tables context before over blanks own chains splits kept is some =
    let mine : Header = header_by tables context own over in
    let columns : ℕ = macroblocks (width_of over before) in
    let rows : ℕ = macroblocks (height_of over before) in
    let segments : Option (List ℕ) = option_map (λ (s : Known). s.segment_map) before in
    let same = all-same tables context over columns rows segments (columns * rows) blanks own chains kept is some in
    record {
      header = header-same tables context over columns rows segments (columns * rows) own _ same;
      records = rw (width-alike before mine over refl, height-alike before mine over refl) (records-same tables context over columns rows segments (columns * rows) own _ same);
      splits = rw (width-alike before mine over refl, height-alike before mine over refl) (splits-same tables context over columns rows segments blanks own chains splits kept is some);
    }

-- the segment map of a header with another reader
map-alike : (tables : TableEntries) (over : Header) (reader : Reader) (before : Option Known) → (frame_modes tables (with_reader over reader) before).records ≡ (frame_modes tables over before).records
    → (frame_modes tables (with_reader over reader) before).segment_map ≡ (frame_modes tables over before).segment_map
map-alike tables over reader None same = ap (λ (records : List MbMode). map_after over (macroblocks over.width * macroblocks over.height) None records) same
map-alike tables over reader (Some known) same = ap (λ (records : List MbMode). map_after over (macroblocks known.width * macroblocks known.height) (Some known.segment_map) records) same

is-read : (tables : TableEntries) (known : Option Known) (packet : List ℕ) (mine over : Header) → header_after tables known packet ≡ Ok mine → IsAlike tables (known_before packet known) mine over → IsRead tables known packet over
is-read tables known packet mine over accepted same =
    let before : Option Known = known_before packet known in
    let records : (frame_modes tables (with_reader over mine.reader) before).records ≡ (frame_modes tables over before).records =
    ap (λ (h : Header). (frame_modes tables h before).records) (sym same.header) ∙ same.records in
    record {
      reader = mine.reader;
      header = accepted ∙ ap (λ (h : Header). let found : Result Header Cause = Ok h in found) same.header;
      records = records;
      segment_map = map-alike tables over mine.reader before records;
      splits = ap (λ (h : Header). splits_in (own_facts tables h before)) (sym same.header) ∙ same.splits;
    }

-- by the parts of the packet
by-ranges : (tables : TableEntries) (known : Option Known) (packet : List ℕ) (blanks : ℕ) (over : Header) (start : _) → start_of (context_in known) packet ≡ Ok start
    → (end : ℕ) (place : PartitionRange) (ranges : Result (ArrayVec PartitionRange) Cause)
    → let context = first_context tables (has_key_tag packet) (context_in known) in
    let own = slice_range packet place.start (place.start + place.length) in
    AreChains tables → SplitsAreChains → AreBytes context.probabilities → first_end start packet ≡ Ok end
    → first_partition (context_in known) packet ≡ Ok place
    → token_ranges packet end (fields start.tag.key context (started (marked blanks own))).0.0.partition_count ≡ ranges
    → header_from tables context packet start end (marked blanks own) ≡ Ok over
    → 0 < (frame_modes tables over (known_before packet known)).left → IsRead tables known packet over
by-ranges tables known packet blanks over start start_is end place (Ok partitions) chains splits kept end_is placed ranged accepted some =
    let context : Context = first_context tables (has_key_tag packet) (context_in known) in
    let own : List ℕ = slice_range packet place.start (place.start + place.length) in
    let before : Option Known = known_before packet known in
    let first = fields start.tag.key context (started (marked blanks own)) in
    let read : Header = header_in start first.0 partitions (trailing_fields start.tag.key tables.updates first.0.1 first.1) in
    let whole : ◌≡◌ {A = Result Header Cause} (Ok read) (Ok over) = rw ranged at accepted in
    let is : read ≡ over = cc in
    let left : 0 < (frame_modes tables read before).left = subst (λ (h : Header). 0 < (frame_modes tables h before).left) (sym is) some in
    let same = fields-same tables context read _ _ _ _ blanks own chains refl left in
    let ours : token_ranges packet end (fields start.tag.key context (started own)).0.0.partition_count ≡ Ok partitions = rw same at ranged in
    let mine : Header = header_by tables context own read in
    let from : header_from tables context packet start end own ≡ Ok mine = rw ours refl in
    let found : header_after tables known packet ≡ Ok mine =
    chains.own tables (context_in known) packet ∙ (rw placed refl) ∙ header_over-by tables (context_in known) packet own start end start_is end_is ∙ from in
    subst (λ (h : Header). IsRead tables known packet h) is
    (is-read tables known packet mine read found (alike tables context before read blanks own chains splits kept refl left))
by-ranges tables known packet blanks over start start_is end place (Err cause) chains splits kept end_is placed ranged accepted some =
    absurd (let none = rw ranged at accepted in cc)

by-end : (tables : TableEntries) (known : Option Known) (packet : List ℕ) (blanks : ℕ) (over : Header) (start : _) → start_of (context_in known) packet ≡ Ok start
    → (place : PartitionRange) (found : Result ℕ Cause)
    → AreChains tables → SplitsAreChains → AreBytes (first_context tables (has_key_tag packet) (context_in known)).probabilities
    → first_end start packet ≡ found → first_partition (context_in known) packet ≡ Ok place
    → header_over tables (context_in known) packet (marked_text blanks packet place) ≡ Ok over
    → 0 < (frame_modes tables over (known_before packet known)).left → IsRead tables known packet over
by-end tables known packet blanks over start start_is place (Ok end) chains splits kept end_is placed accepted some =
    by-ranges tables known packet blanks over start start_is end place _ chains splits kept end_is placed refl
    (sym (header_over-by tables (context_in known) packet (marked_text blanks packet place) start end start_is end_is) ∙ accepted) some
by-end tables known packet blanks over start start_is place (Err cause) chains splits kept end_is placed accepted some =
    absurd (let none = rw (start_is, end_is) at placed in cc)

by-start : (tables : TableEntries) (known : Option Known) (packet : List ℕ) (blanks : ℕ) (over : Header) (place : PartitionRange) (found : Result _ Cause)
    → AreChains tables → SplitsAreChains → AreBytes (first_context tables (has_key_tag packet) (context_in known)).probabilities
    → start_of (context_in known) packet ≡ found → first_partition (context_in known) packet ≡ Ok place
    → header_over tables (context_in known) packet (marked_text blanks packet place) ≡ Ok over
    → 0 < (frame_modes tables over (known_before packet known)).left → IsRead tables known packet over
by-start tables known packet blanks over place (Ok start) chains splits kept start_is placed accepted some =
    by-end tables known packet blanks over start start_is place _ chains splits kept refl placed accepted some
by-start tables known packet blanks over place (Err cause) chains splits kept start_is placed accepted some =
    absurd (let none = rw start_is at placed in cc)

pub marked_is_read : (tables : TableEntries) (known : Option Known) → AreChains tables → SplitsAreChains → ((packet : List ℕ) → AreBytes (first_context tables (has_key_tag packet) (context_in known)).probabilities) → MarkedIsRead tables known
marked_is_read tables known chains splits bytes packet blanks place over placed accepted some =
    by-start tables known packet blanks over place _ chains splits (bytes packet) refl placed accepted some
