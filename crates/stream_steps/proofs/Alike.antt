-- Packets that differ in their first byte only.
use Rattle.std.proofs.Common.{◌≡◌, ℕ, zero, suc, ◌+◌, ◌-◌, ◌*◌, ◌≤◌, List, [], ◌∷◌, length, take, drop, get_or, Option, Some, None, Err, IfOk, refl, sym, ap, ◌∙◌, arith, nat_lt, add-zero}
use Rattle.std.specs.List.{position_from}
use Rattle.std.proofs.lemmas.List.{drop-drop, get_or-drop}
use Rattle.arrayvec.specs.ArrayVec.{ArrayVec}
use Rattle.bool_coder.specs.Reader.{Reader, started}
use Rattle.frame_header.specs.Tags.{number_at, has_start_code, width_of, height_of}
use Rattle.frame_header.specs.Places.{sizes_at, places_of, is_past, unless_past, token_ranges}
use Rattle.frame_header.specs.Padding.{readers_of}
use Rattle.frame_header.specs.declared.cause.Cause.TheVariants.{TokenSizes}
use Rattle.frame_header.specs.declared.places.PartitionRange.{PartitionRange}
use Rattle.stream_steps.proofs.Starts.{either_ok}

-- two packets of one length that are the same from their second byte on
pub record AreAlike (packet other : List ℕ) : Type 0 where
  pub count : length other ≡ length packet
  pub later : (i : ℕ) → 1 ≤ i → drop i other ≡ drop i packet
  pub index : (i : ℕ) → 1 ≤ i → get_or other i 0 ≡ get_or packet i 0

dropped : (xs ys : List ℕ) (i : ℕ) → drop 1 xs ≡ drop 1 ys → 1 ≤ i → drop i xs ≡ drop i ys
dropped xs ys i same some =
    let whole : 1 + (i - 1) ≡ i = omega arith in
    ap (λ (k : ℕ). drop k xs) (sym whole) ∙ sym (drop-drop (i - 1) 1 xs) ∙ ap (drop (i - 1)) same ∙ drop-drop (i - 1) 1 ys ∙ ap (λ (k : ℕ). drop k ys) whole

first_of_rest : (xs : List ℕ) (i : ℕ) → get_or xs i 0 ≡ get_or (drop i xs) 0 0
first_of_rest xs i = ap (λ (k : ℕ). get_or xs k 0) (sym (add-zero i)) ∙ sym (get_or-drop i xs 0 0)

pub alike : (packet other : List ℕ) → length other ≡ length packet → drop 1 other ≡ drop 1 packet → AreAlike packet other
alike packet other count same = record {
  count = count;
  later = λ i some. dropped other packet i same some;
  index = λ i some. first_of_rest other i ∙ ap (λ (xs : List ℕ). get_or xs 0 0) (dropped other packet i same some) ∙ sym (first_of_rest packet i);
}

-- a part after the first byte
pub part_alike : (packet other : List ℕ) → AreAlike packet other → (n from : ℕ) → 1 ≤ from → take n (drop from other) ≡ take n (drop from packet)
part_alike packet other same n from some = ap (take n) (same.later from some)

number_alike : (packet other : List ℕ) → AreAlike packet other → (at : ℕ) → 1 ≤ at → number_at other at ≡ number_at packet at
number_alike packet other same at some = rw (same.index at some, same.index (at + 1) (omega arith), same.index (at + 2) (omega arith)) refl

sizes_alike : (packet other : List ℕ) → AreAlike packet other → (count at : ℕ) → 1 ≤ at → sizes_at count at other ≡ sizes_at count at packet
sizes_alike packet other same zero at some = refl
sizes_alike packet other same (suc more) at some =
    ap (λ (size : ℕ). size ∷ sizes_at more (at + 3) other) (number_alike packet other same at some)
    ∙ ap (λ (sizes : List ℕ). number_at packet at ∷ sizes) (sizes_alike packet other same more (at + 3) (omega arith))

pub ranges_alike : (packet other : List ℕ) → AreAlike packet other → (at count : ℕ) → 1 ≤ at → token_ranges other at count ≡ token_ranges packet at count
unfolding token_ranges
ranges_alike packet other same at count some = rw (sizes_alike packet other same (count - 1) at some, same.count) refl

pub start_code_alike : (packet other : List ℕ) → AreAlike packet other → has_start_code other ≡ has_start_code packet
start_code_alike packet other same = rw (same.index 3 (omega arith), same.index 4 (omega arith), same.index 5 (omega arith)) refl

pub width_alike : (packet other : List ℕ) → AreAlike packet other → width_of other ≡ width_of packet
width_alike packet other same = rw (same.index 6 (omega arith), same.index 7 (omega arith)) refl

pub height_alike : (packet other : List ℕ) → AreAlike packet other → height_of other ≡ height_of packet
height_alike packet other same = rw (same.index 8 (omega arith), same.index 9 (omega arith)) refl

-- partitions after the first byte have the same readers
places_alike : (packet other : List ℕ) → AreAlike packet other → (start : ℕ) (sizes : List ℕ) (end : ℕ) → 1 ≤ start → readers_of other (places_of start sizes end) ≡ readers_of packet (places_of start sizes end)
places_alike packet other same start [] end some =
    ap (λ (bytes : List ℕ). started bytes ∷ []) (part_alike packet other same (start + (end - start) - start) start some)
places_alike packet other same start (size ∷ sizes) end some =
    ap (λ (bytes : List ℕ). started bytes ∷ readers_of other (places_of (start + size) sizes end)) (part_alike packet other same (start + size - start) start some)
    ∙ ap (λ (readers : List Reader). started (take (start + size - start) (drop start packet)) ∷ readers) (places_alike packet other same (start + size) sizes end (omega arith))

found_alike : (packet other : List ℕ) → AreAlike packet other → (start : ℕ) (sizes : List ℕ) (end : ℕ) (found : Option ℕ) → 1 ≤ start
    → IfOk (unless_past found (places_of start sizes end)) (λ partitions. readers_of other partitions.items ≡ readers_of packet partitions.items)
found_alike packet other same start sizes end (Some k) some = tt
found_alike packet other same start sizes end None some = places_alike packet other same start sizes end some

pub readers_alike : (packet other : List ℕ) → AreAlike packet other → (at count : ℕ) → 1 ≤ at → IfOk (token_ranges packet at count) (λ partitions. readers_of other partitions.items ≡ readers_of packet partitions.items)
unfolding token_ranges
readers_alike packet other same at count some =
    let P : ArrayVec PartitionRange → Type 0 = λ partitions. readers_of other partitions.items ≡ readers_of packet partitions.items in
    let first : ℕ = at + 3 * (count - 1) in
    let places : List PartitionRange = places_of (at + 3 * (count - 1)) (sizes_at (count - 1) at packet) (length packet) in
    let found : Option ℕ = position_from (is_past (length packet)) 0 places in
    either_ok P (nat_lt (length packet) first) (Err TokenSizes) (unless_past found places) tt (found_alike packet other same (at + 3 * (count - 1)) (sizes_at (count - 1) at packet) (length packet) found (omega arith))
