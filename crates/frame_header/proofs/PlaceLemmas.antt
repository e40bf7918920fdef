use Rattle.std.proofs.Common.{◌≡◌, ℕ, suc, ◌+◌, ◌-◌, ◌*◌, ◌<◌, ◌≤◌, List, [], ◌∷◌, ◌++◌, length, Ok, Err, Some, None, refl, sym, ap, ◌∙◌, arith, append_assoc, length-append, All}
use Rattle.std.proofs.lemmas.Bool.{lt-ltb, le-ltb}
use Rattle.std.proofs.lemmas.List.Elements.{All-push}
use Rattle.std.specs.List.{position_from}
use Rattle.frame_header.specs.Tags.{number_at}
use Rattle.frame_header.specs.Places.{sizes_at, places_of, is_past, token_ranges}
use Rattle.frame_header.specs.declared.places.PartitionRange.{PartitionRange}
use Rattle.frame_header.specs.declared.cause.Cause.TheVariants.{TokenSizes, TokenPartition}

-- the partitions starting at the k-th, of which `last` have a size
abbrev pub indexes_from : List ℕ → ℕ → ℕ → ℕ → ℕ → List PartitionRange
indexes_from packet at last k start = places_of start (sizes_at (last - k) (at + 3 * k) packet) (length packet)

-- all of them
abbrev pub all_places : List ℕ → ℕ → ℕ → List PartitionRange
all_places packet at last = places_of (at + 3 * last) (sizes_at last at packet) (length packet)

-- a partition that ends inside the packet
abbrev pub IsInside : List ℕ → PartitionRange → Type 0
IsInside packet place = place.start + place.length ≤ length packet

-- k partitions are located, none runs past the end, and the next begins at `start`
pub record ArePlaced (packet : List ℕ) (at last k start : ℕ) (done : List PartitionRange) : Type 0 where
  pub counted : length done ≡ k
  pub room : start ≤ length packet
  pub inside : All (IsInside packet) done
  pub whole : done ++ indexes_from packet at last k start ≡ all_places packet at last
  pub first : position_from (is_past (length packet)) k (indexes_from packet at last k start) ≡ position_from (is_past (length packet)) 0 (all_places packet at last)

pub ArePlaced-none : (packet : List ℕ) (at last : ℕ) → at + 3 * last ≤ length packet → ArePlaced packet at last 0 (at + 3 * last) []
ArePlaced-none packet at last room =
    let none : last - 0 ≡ last = omega arith in
    let here : at + 3 * 0 ≡ at = omega arith in
    let same : indexes_from packet at last 0 (at + 3 * last) ≡ all_places packet at last = rw (none, here) refl in
    record {
      counted = refl;
      room = room;
      inside = λ k d below. absurd (omega arith);
      whole = same;
      first = ap (λ places. position_from (is_past (length packet)) 0 places) same;
    }

-- the next partition, if one with a size is left
pub indexes_from-next : (packet : List ℕ) (at last k start : ℕ) → k < last → indexes_from packet at last k start ≡ record { start = start; length = number_at packet (at + 3 * k) } ∷ indexes_from packet at last (k + 1) (start + number_at packet (at + 3 * k))
indexes_from-next packet at last k start below =
    let one_more : last - k ≡ suc (last - (k + 1)) = omega arith in
    let next : at + 3 * k + 3 ≡ at + 3 * (k + 1) = omega arith in
    rw (one_more, next) refl

-- the last partition
pub indexes_from-last : (packet : List ℕ) (at last start : ℕ) → indexes_from packet at last last start ≡ record { start = start; length = length packet - start } ∷ []
indexes_from-last packet at last start =
    let none : last - last ≡ 0 = omega arith in rw none refl

pub ArePlaced-more : (packet : List ℕ) (at last k start : ℕ) (done : List PartitionRange) → ArePlaced packet at last k start done → k < last → start + number_at packet (at + 3 * k) ≤ length packet → ArePlaced packet at last (k + 1) (start + number_at packet (at + 3 * k)) (done ++ record { start = start; length = number_at packet (at + 3 * k) } ∷ [])
ArePlaced-more packet at last k start done placed below fits =
    let size : ℕ = number_at packet (at + 3 * k) in
    let place : PartitionRange = record { start = start; length = size } in
    let rest : List PartitionRange = indexes_from packet at last (k + 1) (start + size) in
    let next : indexes_from packet at last k start ≡ place ∷ rest = indexes_from-next packet at last k start below in
    let step : position_from (is_past (length packet)) k (place ∷ rest) ≡ position_from (is_past (length packet)) (k + 1) rest = rw (le-ltb _ _ fits) refl in
    record {
      counted = omega (arith, length-append done (place ∷ []), placed.counted);
      room = fits;
      inside = All-push (IsInside packet) done place placed.inside fits;
      whole = append_assoc done (place ∷ []) rest ∙ (ap (λ places. done ++ places) (sym next) ∙ placed.whole);
      first = sym step ∙ (ap (λ places. position_from (is_past (length packet)) k places) (sym next) ∙ placed.first);
    }

pub token_ranges-short : (packet : List ℕ) (at count : ℕ) → length packet < at + 3 * (count - 1) → token_ranges packet at count ≡ Err TokenSizes
unfolding token_ranges
token_ranges-short packet at count short = rw (lt-ltb _ _ short) refl

pub token_ranges-past : (packet : List ℕ) (at count k start : ℕ) (done : List PartitionRange) → at + 3 * (count - 1) ≤ length packet → ArePlaced packet at (count - 1) k start done → k < count - 1 → length packet < start + number_at packet (at + 3 * k) → token_ranges packet at count ≡ Err (TokenPartition k)
unfolding token_ranges
token_ranges-past packet at count k start done room placed below past =
    let next = indexes_from-next packet at (count - 1) k start below in
    let found : position_from (is_past (length packet)) 0 (all_places packet at (count - 1)) ≡ Some k = sym placed.first ∙ (ap (λ places. position_from (is_past (length packet)) k places) next ∙ rw (lt-ltb _ _ past) refl) in
    rw (le-ltb _ _ room, found) refl

pub token_ranges-all : (packet : List ℕ) (at count start : ℕ) (done : List PartitionRange) → at + 3 * (count - 1) ≤ length packet → ArePlaced packet at (count - 1) (count - 1) start done → token_ranges packet at count ≡ Ok (record { items = done ++ record { start = start; length = length packet - start } ∷ [] })
unfolding token_ranges
token_ranges-all packet at count start done room placed =
    let last = indexes_from-last packet at (count - 1) start in
    let ends : start + (length packet - start) ≤ length packet = omega (arith, placed.room) in
    let found : position_from (is_past (length packet)) 0 (all_places packet at (count - 1)) ≡ None = sym placed.first ∙ (ap (λ places. position_from (is_past (length packet)) (count - 1) places) last ∙ rw (le-ltb _ _ ends) refl) in
    let whole : all_places packet at (count - 1) ≡ done ++ record { start = start; length = length packet - start } ∷ [] = sym placed.whole ∙ ap (λ places. done ++ places) last in
    rw (le-ltb _ _ room, found, whole) refl
