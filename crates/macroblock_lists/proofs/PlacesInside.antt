-- The token partitions of an accepted packet are inside it.
use Rattle.std.proofs.Common.{◌≡◌, ℕ, zero, suc, ◌+◌, ◌-◌, ◌<◌, ◌≤◌, Bool, true, false, List, [], ◌∷◌, length, refl, subst, ap, arith, inl, inr, if◌then◌else◌, Option, Some, None, Result, Ok, Err}
use Rattle.std.specs.Prelude.{slice_index_or}
use Rattle.std.specs.List.{position_from}
use Rattle.std.proofs.lemmas.Bool.{cases_lt, le-ltb, lt-ltb}
use Rattle.arrayvec.specs.ArrayVec.{ArrayVec}
use Rattle.vp8_tables.specs.Tables.{TableEntries}
use Rattle.frame_header.specs.Header.{◌>>=◌, first_end, header_of}
use Rattle.frame_header.specs.Places.{is_past, token_ranges, unless_past}
use Rattle.frame_header.specs.Start.{start_of}
use Rattle.frame_header.specs.declared.cause.Cause.{Cause}
use Rattle.frame_header.specs.declared.context.Context.{Context}
use Rattle.frame_header.specs.declared.header.Header.{Header}
use Rattle.frame_header.specs.declared.places.PartitionRange.{PartitionRange}
use Rattle.macroblock_lists.specs.PartitionEnds.{no_place}

abbrev pub AreInside : List ℕ → List PartitionRange → Type 0
AreInside packet places = (j : ℕ) → j < length places → (slice_index_or places j no_place).length ≤ length packet - (slice_index_or places j no_place).start

-- no place runs past the end
one-more : (packet : List ℕ) (place : PartitionRange) (places : List PartitionRange) → place.start + place.length ≤ length packet → AreInside packet places → AreInside packet (place ∷ places)
one-more packet place places within rest zero inside = omega arith
one-more packet place places within rest (suc j) inside = rest j (omega arith)

no-places : (packet : List ℕ) → AreInside packet []
no-places packet j inside = absurd (omega arith)

none-past : (packet : List ℕ) (k : ℕ) (places : List PartitionRange) → position_from (is_past (length packet)) k places ≡ None → AreInside packet places
none-past packet k [] none = no-places packet
none-past packet k (place ∷ places) none =
    elim (cases_lt (length packet) (place.start + place.length)) [
      | inl past ↦ absurd (let is = rw (lt-ltb (length packet) (place.start + place.length) past) at none in cc)
      | inr within ↦ one-more packet place places within (none-past packet (k + 1) places (rw (le-ltb (length packet) (place.start + place.length) within) at none))
    ]

found-inside : (packet : List ℕ) (places : List PartitionRange) (partitions : ArrayVec PartitionRange) (found : Option ℕ) → position_from (is_past (length packet)) 0 places ≡ found → unless_past found places ≡ Ok partitions → AreInside packet partitions.items
found-inside packet places partitions (Some k) is accepted = absurd (cc)
found-inside packet places partitions None is accepted =
    let whole : ◌≡◌ {A = Result (ArrayVec PartitionRange) Cause} (Ok (record { items = places })) (Ok partitions) = accepted in
    let same : ◌≡◌ {A = ArrayVec PartitionRange} (record { items = places }) partitions = cc in
    subst (λ (ps : ArrayVec PartitionRange). AreInside packet ps.items) same (none-past packet 0 places is)

late-inside : (packet : List ℕ) (partitions : ArrayVec PartitionRange) (late : Bool) (cause : Cause) (places : List PartitionRange) → (if late then Err cause else unless_past (position_from (is_past (length packet)) 0 places) places) ≡ Ok partitions → AreInside packet partitions.items
late-inside packet partitions true cause places accepted = absurd (cc)
late-inside packet partitions false cause places accepted = found-inside packet places partitions _ refl accepted

ranges-inside : (packet : List ℕ) (at count : ℕ) (partitions : ArrayVec PartitionRange) → token_ranges packet at count ≡ Ok partitions → AreInside packet partitions.items
unfolding token_ranges
ranges-inside packet at count partitions accepted = late-inside packet partitions _ _ _ accepted

partitions_in : Result Header Cause → ArrayVec PartitionRange
partitions_in (Ok header) = header.partitions
partitions_in (Err cause) = record { items = [] }

-- an accepted result of two steps
then-ok : {A B : Type 0} (first : Result A Cause) (next : A → Result B Cause) (y : B) → (first >>= next) ≡ Ok y → (x : A) × (first ≡ Ok x) × (next x ≡ Ok y)
then-ok (Ok x) next y is = (x, refl, is)
then-ok (Err cause) next y is = absurd (cc)

pub places_inside : (tables : TableEntries) (earlier : Option Context) (packet : List ℕ) (header : Header) → header_of tables earlier packet ≡ Ok header → AreInside packet header.partitions.items
unfolding header_of partitions_in
places_inside tables earlier packet header accepted =
    let start = then-ok (start_of earlier packet) _ header accepted in
    let end = then-ok (first_end start.0 packet) _ header start.2 in
    let ranges = then-ok (token_ranges packet end.0 _) _ header end.2 in
    let whole = ranges.2 in
    let items : ranges.0 ≡ header.partitions = ap partitions_in whole in
    subst (λ (ps : ArrayVec PartitionRange). AreInside packet ps.items) items (ranges-inside packet end.0 _ ranges.0 ranges.1)
