-- A byte 00 after an accepted packet.
use Rattle.std.proofs.Common.{◌≡◌, ℕ, zero, suc, ◌+◌, ◌-◌, ◌*◌, ◌<◌, ◌≤◌, ◌&&◌, Bool, true, false, List, [], ◌∷◌, ◌++◌, length, map, take, drop, get_or, Option, Some, None, Result, Ok, Err, IfOk, refl, sym, ap, ◌∙◌, arith, inl, inr, nat_lt, if◌then◌else◌, length-append}
use Rattle.std.specs.Prelude.{slice_range, nat_le}
use Rattle.std.specs.List.{position_from}
use Rattle.std.specs.Option.{option_map_or}
use Rattle.std.proofs.lemmas.Bool.{lt-ltb, le-ltb, le-leb, lt-leb, ltb-false, cases_lt}
use Rattle.std.proofs.lemmas.List.{take-append-le, take_all, drop-append-le, length-drop}
use Rattle.arrayvec.specs.ArrayVec.{ArrayVec}
use Rattle.vp8_tables.specs.Tables.{TableEntries}
use Rattle.bool_coder.specs.Reader.{Reader, bit_string, level, text_start, started}
use Rattle.bool_coder.proofs.Level.{trimmed-padded}
use Rattle.bool_coder.proofs.Ends.{bit_string-append}
use Rattle.frame_header.specs.Tags.{number_at, tag_of, has_key_tag, is_shown, has_start_code, width_of, height_of}
use Rattle.frame_header.specs.Contexts.{first_context}
use Rattle.frame_header.specs.Start.{key_start, later_start, tagged_start, start_of}
use Rattle.frame_header.specs.Fields.{fields}
use Rattle.frame_header.specs.TrailingFields.{trailing_fields}
use Rattle.frame_header.specs.Places.{sizes_at, places_of, is_past, unless_past, token_ranges}
use Rattle.frame_header.specs.Header.{◌>>=◌, first_end, header_after, header_of, header_in}
use Rattle.frame_header.specs.Padding.{with_zero, one_longer, with_longer_last, readers_of, ShownIsKept}
use Rattle.frame_header.proofs.KeyLemmas.{IfOk-then, IfOk-following}
use Rattle.frame_header.specs.declared.cause.Cause.{Cause}
use Rattle.frame_header.specs.declared.cause.Cause.TheVariants.{ShortPacket, Version, StartCode, Size, FirstPartition}
use Rattle.frame_header.specs.declared.context.Context.{Context}
use Rattle.frame_header.specs.declared.header.Header.{Header}
use Rattle.frame_header.specs.declared.places.PartitionRange.{PartitionRange}
use Rattle.frame_header.specs.declared.start.Start.{Start}
use Rattle.frame_header.specs.declared.tag_fields.Tag.{Tag}

-- a byte past the end of a list counts as 0
pub get_or-zero : (bytes : List ℕ) (k : ℕ) → get_or (with_zero bytes) k 0 ≡ get_or bytes k 0
get_or-zero [] zero = refl
get_or-zero [] (suc k) = refl
get_or-zero (byte ∷ bytes) zero = refl
get_or-zero (byte ∷ bytes) (suc k) = get_or-zero bytes k

pub length-zero : (bytes : List ℕ) → length (with_zero bytes) ≡ length bytes + 1
length-zero bytes = length-append bytes (0 ∷ [])

-- a part of the bytes stays
pub part-zero : (n i : ℕ) (bytes : List ℕ) → n ≤ length bytes - i → take n (drop i (with_zero bytes)) ≡ take n (drop i bytes)
part-zero n i bytes inside =
    elim (cases_lt (length bytes) i) [
      | inl late ↦ let none : n ≡ 0 = omega arith in rw none refl
      | inr within ↦
          let enough : n ≤ length (drop i bytes) = rw (length-drop i bytes) inside in
          ap (take n) (drop-append-le i bytes (0 ∷ []) within) ∙ take-append-le n (drop i bytes) (0 ∷ []) enough
    ]

reader_same : (rest rest' : List ℕ) (d : ℕ) → rest ≡ rest' → ◌≡◌ {A = Reader} (record { rest = rest; d = d; range = 255 }) (record { rest = rest'; d = d; range = 255 })
reader_same rest rest' d p = cc

-- a reader reads the same bits forever
pub started-zero : (bytes : List ℕ) → started (with_zero bytes) ≡ started bytes
started-zero [] = refl
started-zero (byte ∷ bytes) = reader_same _ _ byte (rw (bit_string-append bytes (0 ∷ [])) (trimmed-padded (bit_string bytes) 8))

number_at-zero : (packet : List ℕ) (at : ℕ) → number_at (with_zero packet) at ≡ number_at packet at
number_at-zero packet at = rw (get_or-zero packet at, get_or-zero packet (at + 1), get_or-zero packet (at + 2)) refl

sizes_at-zero : (count at : ℕ) (packet : List ℕ) → sizes_at count at (with_zero packet) ≡ sizes_at count at packet
sizes_at-zero zero at packet = refl
sizes_at-zero (suc more) at packet = ap (λ (size : ℕ). size ∷ sizes_at more (at + 3) (with_zero packet)) (number_at-zero packet at) ∙ ap (λ (sizes : List ℕ). number_at packet at ∷ sizes) (sizes_at-zero more (at + 3) packet)

one_longer-more : (place : PartitionRange) (start : ℕ) (sizes : List ℕ) (end : ℕ) → one_longer (place ∷ places_of start sizes end) ≡ place ∷ one_longer (places_of start sizes end)
one_longer-more place start [] end = refl
one_longer-more place start (size ∷ sizes) end = refl

-- partitions that all end inside a packet do so in one that is a byte longer, and the last has that byte
record AreLonger (start k : ℕ) (sizes : List ℕ) (end : ℕ) : Type 0 where
  pub places : places_of start sizes (end + 1) ≡ one_longer (places_of start sizes end)
  pub inside : position_from (is_past (end + 1)) k (places_of start sizes (end + 1)) ≡ None

places_of-longer : (start k : ℕ) (sizes : List ℕ) (end : ℕ) → position_from (is_past end) k (places_of start sizes end) ≡ None → AreLonger start k sizes end
places_of-longer start k [] end inside =
    elim (cases_lt end (start + (end - start))) [
      | inl past ↦ absurd (let is = rw (lt-ltb end (start + (end - start)) past) at inside in cc)
      | inr within ↦
          let longer : end + 1 - start ≡ end - start + 1 = omega arith in
          let still : start + (end + 1 - start) ≤ end + 1 = omega arith in
          record {
            places = rw longer refl;
            inside = rw (le-ltb (end + 1) (start + (end + 1 - start)) still) refl;
          }
    ]
places_of-longer start k (size ∷ sizes) end inside =
    elim (cases_lt end (start + size)) [
      | inl past ↦ absurd (let is = rw (lt-ltb end (start + size) past) at inside in cc)
      | inr within ↦
          let rest : position_from (is_past end) (k + 1) (places_of (start + size) sizes end) ≡ None = rw (le-ltb end (start + size) within) at inside in
          let longer : AreLonger (start + size) (k + 1) sizes end = places_of-longer (start + size) (k + 1) sizes end rest in
          let still : start + size ≤ end + 1 = omega arith in
          let place : PartitionRange = record { start = start; length = size } in
          record {
            places = ap (λ (places : List PartitionRange). place ∷ places) longer.places ∙ sym (one_longer-more place (start + size) sizes end);
            inside = rw (le-ltb (end + 1) (start + size) still) longer.inside;
          }
    ]

ranged : (packet : List ℕ) (first : ℕ) (sizes : List ℕ) (found : Option ℕ) → position_from (is_past (length packet)) 0 (places_of first sizes (length packet)) ≡ found
    → IfOk (unless_past found (places_of first sizes (length packet))) (λ partitions. unless_past (position_from (is_past (length packet + 1)) 0 (places_of first sizes (length packet + 1))) (places_of first sizes (length packet + 1)) ≡ Ok (record { items = one_longer partitions.items }))
ranged packet first sizes (Some k) is = tt
ranged packet first sizes None is =
    let longer : AreLonger first 0 sizes (length packet) = places_of-longer first 0 sizes (length packet) is in
    rw longer.inside (ap (λ (places : List PartitionRange). Ok (record { items = places })) longer.places)

token_ranges-zero : (packet : List ℕ) (at count : ℕ) → IfOk (token_ranges packet at count) (λ partitions. token_ranges (with_zero packet) at count ≡ Ok (record { items = one_longer partitions.items }))
unfolding token_ranges
token_ranges-zero packet at count =
    let first : ℕ = at + 3 * (count - 1) in
    elim (cases_lt (length packet) first) [
      | inl short ↦ rw (lt-ltb (length packet) first short) tt
      | inr room ↦
          let still : first ≤ length packet + 1 = omega arith in
          rw (length-zero packet, sizes_at-zero (count - 1) at packet, le-ltb (length packet) first room, le-ltb (length packet + 1) first still)
          (ranged packet first (sizes_at (count - 1) at packet) _ refl)
    ]

-- an accepted step and then the next, each next to the one for the longer packet
then-kept : {A B : Type 0} (to : A → A) (after : B → B) (first first' : Result A Cause) (next next' : A → Result B Cause)
    → IfOk first (λ x. first' ≡ Ok (to x)) → ((x : A) → first ≡ Ok x → IfOk (next x) (λ y. next' (to x) ≡ Ok (after y))) → IfOk (first >>= next) (λ y. (first' >>= next') ≡ Ok (after y))
then-kept to after (Ok x) first' next next' kept each = rw kept (each x refl)
then-kept to after (Err cause) first' next next' kept each = tt

unless-kept : {A : Type 0} (b : Bool) (cause : Cause) (x : Result A Cause) → IfOk (if b then Err cause else x) (λ y. (if b then Err cause else x) ≡ Ok y)
unless-kept true cause x = tt
unless-kept false cause (Ok x) = refl
unless-kept false cause (Err other) = tt

has_start_code-zero : (packet : List ℕ) → has_start_code (with_zero packet) ≡ has_start_code packet
has_start_code-zero packet = rw (get_or-zero packet 3, get_or-zero packet 4, get_or-zero packet 5) refl

width_of-zero : (packet : List ℕ) → width_of (with_zero packet) ≡ width_of packet
width_of-zero packet = rw (get_or-zero packet 6, get_or-zero packet 7) refl

height_of-zero : (packet : List ℕ) → height_of (with_zero packet) ≡ height_of packet
height_of-zero packet = rw (get_or-zero packet 8, get_or-zero packet 9) refl

key_start-zero : (tag : Tag) (packet : List ℕ) → key_start tag (with_zero packet) ≡ key_start tag packet
key_start-zero tag packet = rw (has_start_code-zero packet, width_of-zero packet, height_of-zero packet) refl

own : {A : Type 0} (x : Result A Cause) → IfOk x (λ y. x ≡ Ok y)
own (Ok x) = refl
own (Err cause) = tt

-- a packet too short for a key frame's start may be long enough with one byte more
too_short-zero : (key : Bool) (length : ℕ) → key && nat_lt length 10 ≡ false → key && nat_lt (length + 1) 10 ≡ false
too_short-zero false length enough = refl
too_short-zero true length enough = le-ltb (length + 1) 10 (omega (arith, ltb-false length 10 enough))

tagged_start-by : (tag : Tag) (before : Option Context) (packet : List ℕ) (short : Bool) → tag.key && nat_lt (length packet) 10 ≡ short
    → IfOk (tagged_start tag before packet) (λ start. tagged_start tag before (with_zero packet) ≡ Ok start)
tagged_start-by tag before packet true is = rw is tt
tagged_start-by tag before packet false is =
    let longer : tag.key && nat_lt (length packet + 1) 10 ≡ false = too_short-zero tag.key (length packet) is in
    rw (length-zero packet, key_start-zero tag packet, is, longer) (own _)

-- a packet of three bytes or more keeps its tag
pub tag_of-zero : (packet : List ℕ) → 3 ≤ length packet → tag_of (with_zero packet) ≡ tag_of packet
tag_of-zero packet enough =
    let longer : 3 ≤ length packet + 1 = omega arith in
    rw (length-zero packet, number_at-zero packet 0, le-leb 3 (length packet) enough, le-leb 3 (length packet + 1) longer) refl

start_of-zero : (before : Option Context) (packet : List ℕ) (tag : Option Tag) → tag_of packet ≡ tag → tag_of (with_zero packet) ≡ tag
    → IfOk (start_of before packet) (λ start. start_of before (with_zero packet) ≡ Ok start)
start_of-zero before packet None is is' = rw is tt
start_of-zero before packet (Some tag) is is' = rw (is, is') (tagged_start-by tag before packet _ refl)

first_end-zero : (start : Start) (packet : List ℕ) → IfOk (first_end start packet) (λ end. first_end start (with_zero packet) ≡ Ok end)
first_end-zero start packet =
    elim (cases_lt (length packet - start.place) start.tag.first_partition) [
      | inl short ↦ rw (lt-ltb _ _ short) tt
      | inr enough ↦
          let still : start.tag.first_partition ≤ length packet + 1 - start.place = omega arith in
          rw (length-zero packet, le-ltb (length packet - start.place) start.tag.first_partition enough, le-ltb (length packet + 1 - start.place) start.tag.first_partition still) refl
    ]

-- the first partition is inside the packet
first_end-inside : (start : Start) (packet : List ℕ) (end : ℕ) → first_end start packet ≡ Ok end → end - start.place ≤ length packet - start.place
first_end-inside start packet end is =
    elim (cases_lt (length packet - start.place) start.tag.first_partition) [
      | inl short ↦ absurd (let none = rw (lt-ltb _ _ short) at is in cc)
      | inr enough ↦
          let some = rw (le-ltb _ _ enough) at is in
          let ends : start.place + start.tag.first_partition ≡ end = cc in
          omega arith
    ]

header_after-zero : (tables : TableEntries) (context : Context) (packet : List ℕ) (start : Start)
    → IfOk (header_after tables context packet start) (λ header. header_after tables context (with_zero packet) start ≡ Ok (with_longer_last header))
header_after-zero tables context packet start =
    then-kept (λ end. end) with_longer_last (first_end start packet) (first_end start (with_zero packet)) _ _ (first_end-zero start packet) (λ end is.
    let part : slice_range (with_zero packet) start.place end ≡ slice_range packet start.place end = part-zero (end - start.place) start.place packet (first_end-inside start packet end is) in
    rw part (then-kept (λ partitions. record { items = one_longer partitions.items }) with_longer_last (token_ranges packet end _) (token_ranges (with_zero packet) end _) _ _ (token_ranges-zero packet end _) (λ partitions found. refl)))

pub header_of-zero : (tables : TableEntries) (before : Option Context) (packet : List ℕ) → IfOk (header_of tables before packet) (λ header. header_of tables before (with_zero packet) ≡ Ok (with_longer_last header))
unfolding header_of
header_of-zero tables before packet =
    elim (cases_lt (length packet) 3) [
      | inl short ↦ rw (lt-leb 3 (length packet) short) tt
      | inr enough ↦
          let tag : tag_of (with_zero packet) ≡ tag_of packet = tag_of-zero packet enough in
          let key : has_key_tag (with_zero packet) ≡ has_key_tag packet = ap (λ (t : Option Tag). option_map_or (λ (u : Tag). u.key) t false) tag in
          rw key (then-kept (λ start. start) with_longer_last (start_of before packet) (start_of before (with_zero packet)) _ _ (start_of-zero before packet (tag_of packet) refl tag)
          (λ start is. header_after-zero tables (first_context tables (has_key_tag packet) before) packet start))
    ]

-- the last partition has the byte
last-zero : (start n n' : ℕ) (packet : List ℕ) → start ≤ length packet → n ≡ length packet - start → n' ≡ length packet - start + 1 → take n' (drop start (with_zero packet)) ≡ with_zero (take n (drop start packet))
last-zero start n n' packet within is is' =
    let rest : length (drop start packet) ≤ n = rw (length-drop start packet) (omega arith) in
    let longer : length (drop start packet ++ 0 ∷ []) ≤ n' = rw (length-zero (drop start packet), length-drop start packet) (omega arith) in
    ap (take n') (drop-append-le start packet (0 ∷ []) within) ∙ take_all n' (drop start packet ++ 0 ∷ []) longer ∙ ap with_zero (sym (take_all n (drop start packet) rest))

-- each other one lies before it
partition_readers-zero : (start k : ℕ) (sizes : List ℕ) (packet : List ℕ) → position_from (is_past (length packet)) k (places_of start sizes (length packet)) ≡ None
    → readers_of (with_zero packet) (one_longer (places_of start sizes (length packet))) ≡ readers_of packet (places_of start sizes (length packet))
partition_readers-zero start k [] packet inside =
    elim (cases_lt (length packet) (start + (length packet - start))) [
      | inl past ↦ absurd (let is = rw (lt-ltb (length packet) (start + (length packet - start)) past) at inside in cc)
      | inr within ↦
          let part : take (start + (length packet - start + 1) - start) (drop start (with_zero packet)) ≡ with_zero (take (start + (length packet - start) - start) (drop start packet)) =
          last-zero start (start + (length packet - start) - start) (start + (length packet - start + 1) - start) packet (omega arith) (omega arith) (omega arith) in
          ap (λ (bytes : List ℕ). started bytes ∷ []) part ∙ ap (λ (r : Reader). r ∷ []) (started-zero (take (start + (length packet - start) - start) (drop start packet)))
    ]
partition_readers-zero start k (size ∷ sizes) packet inside =
    elim (cases_lt (length packet) (start + size)) [
      | inl past ↦ absurd (let is = rw (lt-ltb (length packet) (start + size) past) at inside in cc)
      | inr within ↦
          let rest : position_from (is_past (length packet)) (k + 1) (places_of (start + size) sizes (length packet)) ≡ None = rw (le-ltb (length packet) (start + size) within) at inside in
          let later = partition_readers-zero (start + size) (k + 1) sizes packet rest in
          let place : PartitionRange = record { start = start; length = size } in
          let here : take (start + size - start) (drop start (with_zero packet)) ≡ take (start + size - start) (drop start packet) = part-zero (start + size - start) start packet (omega arith) in
          ap (readers_of (with_zero packet)) (one_longer-more place (start + size) sizes (length packet))
          ∙ ap (λ (bytes : List ℕ). started bytes ∷ readers_of (with_zero packet) (one_longer (places_of (start + size) sizes (length packet)))) here
          ∙ ap (λ (readers : List Reader). started (take (start + size - start) (drop start packet)) ∷ readers) later
    ]

readers_ranged : (packet : List ℕ) (first : ℕ) (sizes : List ℕ) (found : Option ℕ) → position_from (is_past (length packet)) 0 (places_of first sizes (length packet)) ≡ found
    → IfOk (unless_past found (places_of first sizes (length packet))) (λ partitions. readers_of (with_zero packet) (one_longer partitions.items) ≡ readers_of packet partitions.items)
readers_ranged packet first sizes (Some k) is = tt
readers_ranged packet first sizes None is = partition_readers-zero first 0 sizes packet is

token_ranges-readers : (packet : List ℕ) (at count : ℕ) → IfOk (token_ranges packet at count) (λ partitions. readers_of (with_zero packet) (one_longer partitions.items) ≡ readers_of packet partitions.items)
unfolding token_ranges
token_ranges-readers packet at count =
    let first : ℕ = at + 3 * (count - 1) in
    elim (cases_lt (length packet) first) [
      | inl short ↦ rw (lt-ltb (length packet) first short) tt
      | inr room ↦ rw (le-ltb (length packet) first room) (readers_ranged packet first (sizes_at (count - 1) at packet) _ refl)
    ]

pub readers_of-zero : (tables : TableEntries) (before : Option Context) (packet : List ℕ) → IfOk (header_of tables before packet) (λ header. readers_of (with_zero packet) (one_longer header.partitions.items) ≡ readers_of packet header.partitions.items)
unfolding header_of
readers_of-zero tables before packet =
    let P : Header → Type 0 = λ header. readers_of (with_zero packet) (one_longer header.partitions.items) ≡ readers_of packet header.partitions.items in
    let Q : ArrayVec PartitionRange → Type 0 = λ partitions. readers_of (with_zero packet) (one_longer partitions.items) ≡ readers_of packet partitions.items in
    IfOk-then P (start_of before packet) _ (λ start. IfOk-then P (first_end start packet) _ (λ end. IfOk-following Q P (token_ranges packet end _) _ (token_ranges-readers packet end _) (λ partitions kept. kept)))

pub shown_is_kept : ShownIsKept
shown_is_kept packet enough =
    let tag : tag_of (with_zero packet) ≡ tag_of packet = tag_of-zero packet enough in
    let key : has_key_tag (with_zero packet) ≡ has_key_tag packet = ap (λ (t : Option Tag). option_map_or (λ (u : Tag). u.key) t false) tag in
    let shown : is_shown (with_zero packet) ≡ is_shown packet = ap (λ (t : Option Tag). option_map_or (λ (u : Tag). u.shown) t true) tag in (
      key,
      shown,
      λ long.
          let longer : 10 ≤ length packet + 1 = omega arith in
          rw (key, length-zero packet, le-leb 10 (length packet) long, le-leb 10 (length packet + 1) longer, has_start_code-zero packet, width_of-zero packet, height_of-zero packet) refl,
    )
