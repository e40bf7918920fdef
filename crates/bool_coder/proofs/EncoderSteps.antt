use Rattle.std.proofs.Common.{◌≡◌, ℕ, zero, suc, ◌+◌, ◌-◌, ◌*◌, ◌/◌, ◌%◌, ◌^◌, ◌<◌, ◌≤◌, Bool, true, false, List, length, refl, ap, sym, ◌∙◌, arith, inl, inr}
use Rattle.std.proofs.Math.Nat.{pow-suc, mul-le-mul_right, mul-le-mul_left, pow-le-pow_right, mod-eq_of_lt}
use Rattle.std.proofs.lemmas.Nat.{pow-add, pow_pos, leading_top, shr-shr, shl-shr, shl_whole}
use Rattle.std.proofs.lemmas.Bool.{cases_lt}
use Rattle.std.specs.Int.Count.{count_leading_zeros}
use Rattle.bool_coder.specs.Reader.{split_of}
use Rattle.std.proofs.Common.{[], ◌∷◌, ◌++◌, get_or, length-append}
use Rattle.bool_coder.specs.CodeText.{Code, padding, text_of, code_doubled, code_renewed, narrowed, written}
use Rattle.bool_coder.specs.Low.{number_of, value_of, doublings_of, code_of, HasTail, StaysInside}
use Rattle.bool_coder.specs.declared.encoder.Low.{Low}
use Rattle.bool_coder.proofs.LowNumbers.{bytes_of-number_of, number_of-push}
use Rattle.bool_coder.proofs.RoundTrip.{code_renewed-small, code_renewed-large, code_renewed-zero, split_of-inside}

code_same : (low low' range range' shifts shifts' : ℕ) → low ≡ low' → range ≡ range' → shifts ≡ shifts' → ◌≡◌ {A = Code} (record { low = low; range = range; shifts = shifts }) (record { low = low'; range = range'; shifts = shifts' })
code_same low low' range range' shifts shifts' p q r = cc

-- how often a range has to be doubled
pub leading-count : (range : ℕ) → 1 ≤ range → range ≤ 255 → (24 ≤ count_leading_zeros 32 range) × (count_leading_zeros 32 range - 24 ≤ 7) × (128 ≤ range * 2 ^ (count_leading_zeros 32 range - 24)) × (range * 2 ^ (count_leading_zeros 32 range - 24) ≤ 255)
leading-count range some most =
    let top = leading_top 32 range some (omega arith) in
    let j = top.0 in
    let low_bits : j ≤ 7 = elim (cases_lt j 8) [ inl few ↦ omega arith | inr many ↦ absurd (let power : 2 ^ 8 ≤ 2 ^ j = pow-le-pow_right (omega arith) many in let least = top.2 in omega arith) ] in
    let count : count_leading_zeros 32 range - 24 ≡ 7 - j = omega (arith, top.1) in
    let whole : 2 ^ j * 2 ^ (7 - j) ≡ 128 = sym (pow-add 2 j (7 - j)) ∙ (let all : j + (7 - j) ≡ 7 = omega arith in rw all refl) in
    let power : 2 ^ suc j ≡ 2 ^ j * 2 = pow-suc 2 j in
    let least : 2 ^ j * 2 ^ (7 - j) ≤ range * 2 ^ (7 - j) = mul-le-mul_right (2 ^ (7 - j)) top.2 in
    let below : range + 1 ≤ 2 ^ j * 2 = (let less = rw power at top.3 in omega (arith, less)) in
    let less : (range + 1) * 2 ^ (7 - j) ≤ 2 ^ j * 2 * 2 ^ (7 - j) = mul-le-mul_right (2 ^ (7 - j)) below in
    let pos : 0 < 2 ^ (7 - j) = pow_pos (7 - j) in
    (omega (arith, top.1), rw count (omega arith), rw count (omega arith), rw count (omega arith))

-- a renewal doubles all at a time
pub code_renewed-shifted : (fuel count : ℕ) (c : Code) → count ≤ fuel → 128 ≤ c.range * 2 ^ count → c.range * 2 ^ count ≤ 255 → code_renewed fuel c ≡ record { low = c.low * 2 ^ count; range = c.range * 2 ^ count; shifts = c.shifts + count }
code_renewed-shifted zero zero c enough least most =
    code_renewed-zero c ∙ code_same _ _ _ _ _ _ (omega arith) (omega arith) (omega arith)
code_renewed-shifted (suc fuel) zero c enough least most =
    code_renewed-large fuel c (omega arith) ∙ code_same _ _ _ _ _ _ (omega arith) (omega arith) (omega arith)
code_renewed-shifted zero (suc count) c enough least most = absurd (omega arith)
code_renewed-shifted (suc fuel) (suc count) c enough least most =
    let power : 2 ^ suc count ≡ 2 ^ count * 2 = pow-suc 2 count in
    let some : 0 < 2 ^ count = pow_pos count in
    let least' = rw power at least in
    let most' = rw power at most in
    let wide : c.range * 1 ≤ c.range * 2 ^ count = mul-le-mul_left c.range some in
    let small : c.range < 128 = omega (arith, most') in
    code_renewed-small fuel c small ∙ code_renewed-shifted fuel count (code_doubled c) (omega arith) (omega (arith, least')) (omega (arith, most')) ∙ code_same _ _ _ _ _ _ (rw power (omega arith)) (rw power (omega arith)) (omega arith)

-- the state after the part of the range is chosen
pub record IsNarrowed (bit : Bool) (prob : ℕ) (before : Code) (low : Low) (range : ℕ) : Type 0 where
  pub same : code_of low range ≡ narrowed bit prob before
  pub some : 1 ≤ range
  pub most : range ≤ 255
  pub tail : HasTail low
  pub inside : StaysInside (code_of low range)

-- the upper part begins inside the text
pub split-inside : (low : Low) (range prob : ℕ) → prob ≤ 255 → 128 ≤ range → StaysInside (code_of low range) → value_of low + split_of prob range < 2 ^ (8 + doublings_of low)
split-inside low range prob probable large inside =
    let part : split_of prob range < range = split_of-inside prob range probable large in
    let power : 2 ^ (8 + doublings_of low) ≡ 256 * 2 ^ doublings_of low = pow-add 2 8 (doublings_of low) in
    rw power (omega arith)

pub IsNarrowed-one : (prob : ℕ) (low low' : Low) (range : ℕ) → prob ≤ 255 → 128 ≤ range → range ≤ 255 → StaysInside (code_of low range) → value_of low' ≡ value_of low + split_of prob range → doublings_of low' ≡ doublings_of low → HasTail low' → IsNarrowed true prob (code_of low range) low' (range - split_of prob range)
IsNarrowed-one prob low low' range probable large most inside value doublings tail =
    let part : split_of prob range < range = split_of-inside prob range probable large in
    record { same = code_same _ _ _ _ _ _ value refl doublings; some = omega arith; most = omega arith; tail = tail; inside = rw (value, doublings) (omega arith) }

pub IsNarrowed-zero : (prob : ℕ) (low : Low) (range : ℕ) → prob ≤ 255 → 128 ≤ range → range ≤ 255 → StaysInside (code_of low range) → HasTail low → IsNarrowed false prob (code_of low range) low (split_of prob range)
IsNarrowed-zero prob low range probable large most inside tail =
    let part : split_of prob range < range = split_of-inside prob range probable large in
    record { same = refl; some = omega arith; most = omega arith; tail = tail; inside = omega arith }

-- and the state after the bit
pub IsNarrowed-written : (bit : Bool) (prob : ℕ) (before : Code) (low low' : Low) (range count : ℕ) → IsNarrowed bit prob before low range → count ≤ 7 → 128 ≤ range * 2 ^ count → range * 2 ^ count ≤ 255 → value_of low' ≡ value_of low * 2 ^ count → doublings_of low' ≡ doublings_of low + count → code_of low' (range * 2 ^ count) ≡ written bit prob before
unfolding written
IsNarrowed-written bit prob before low low' range count standing few least most value doublings =
    code_same _ _ _ _ _ _ value refl doublings ∙ sym (code_renewed-shifted 7 count (code_of low range) few least most) ∙ ap (code_renewed 7) standing.same

pub shifted-inside : (low low' : Low) (range count : ℕ) → StaysInside (code_of low range) → value_of low' ≡ value_of low * 2 ^ count → doublings_of low' ≡ doublings_of low + count → StaysInside (code_of low' (range * 2 ^ count))
shifted-inside low low' range count inside value doublings =
    let power : 2 ^ (doublings_of low + count) ≡ 2 ^ doublings_of low * 2 ^ count = pow-add 2 (doublings_of low) count in
    let much : (value_of low + range) * 2 ^ count ≤ 255 * 2 ^ doublings_of low * 2 ^ count = mul-le-mul_right (2 ^ count) inside in
    rw (value, doublings, power) (omega arith)

pub small-mod : (n : ℕ) → n ≤ 255 → n % 4294967296 ≡ n
small-mod n small = mod-eq_of_lt (omega arith)

-- a text whose number is that of some bytes is those bytes
bytes-text : (bytes : List ℕ) (low : Low) (range : ℕ) → ((k : ℕ) → get_or bytes k 0 < 256) → (doublings_of low + 8 + padding (doublings_of low)) / 8 ≡ length bytes → value_of low * 2 ^ padding (doublings_of low) ≡ number_of bytes → bytes ≡ text_of (code_of low range)
bytes-text bytes low range small count number =
    rw (count, number) (sym (bytes_of-number_of bytes small))

-- a tail of a whole byte is the last
pub text-one : (bytes : List ℕ) (low : Low) (range : ℕ) → ((k : ℕ) → get_or bytes k 0 < 256) → low.shifts ≡ 0 → bytes ≡ low.bytes.items ++ low.tail / 2 ^ low.shifts ∷ [] → bytes ≡ text_of (code_of low range)
text-one bytes low range small none pushed =
    let len : length bytes ≡ length low.bytes.items + 1 = ap length pushed ∙ length-append low.bytes.items (low.tail / 2 ^ low.shifts ∷ []) in
    let pad : padding (doublings_of low) ≡ 0 = omega arith in
    let power : 2 ^ (8 + low.shifts) ≡ 256 = rw none refl in
    let one : 2 ^ low.shifts ≡ 1 = rw none refl in
    let count : (doublings_of low + 8 + padding (doublings_of low)) / 8 ≡ length bytes = omega arith in
    let whole : low.tail / 1 ≡ low.tail = omega arith in
    let number : number_of bytes ≡ number_of low.bytes.items * 256 + low.tail = rw pushed (number_of-push low.bytes.items (low.tail / 2 ^ low.shifts) ∙ rw (one, whole) refl) in
    bytes-text bytes low range small count (rw (pad, power, number) (omega arith))

-- the first byte of a tail that was filled up with zeros
rest-first : (tail shifts : ℕ) → shifts ≤ 7 → tail / 2 ^ shifts ≡ tail * 2 ^ (8 - shifts) / 256
rest-first tail shifts few =
    let all : 8 - shifts + shifts ≡ 8 = omega arith in
    let both_shifts : tail * 2 ^ (8 - shifts) / 2 ^ (8 - shifts) / 2 ^ shifts ≡ tail * 2 ^ (8 - shifts) / 2 ^ (8 - shifts + shifts) = shr-shr (tail * 2 ^ (8 - shifts)) (8 - shifts) shifts in
    let whole = rw (shl-shr tail (8 - shifts), all) at both_shifts in
    whole

-- a longer tail ends in a byte of its last bits and zeros
pub text-two : (bytes : List ℕ) (low : Low) (range : ℕ) → ((k : ℕ) → get_or bytes k 0 < 256) → 0 < low.shifts → HasTail low → bytes ≡ (low.bytes.items ++ low.tail / 2 ^ low.shifts ∷ []) ++ low.tail * 2 ^ (8 - low.shifts) % 4294967296 % 256 ∷ [] → bytes ≡ text_of (code_of low range)
text-two bytes low range small some tail pushed =
    let front = low.bytes.items ++ low.tail / 2 ^ low.shifts ∷ [] in
    let last = low.tail * 2 ^ (8 - low.shifts) in
    let len : length bytes ≡ length low.bytes.items + 2 = ap length pushed ∙ length-append front (last % 4294967296 % 256 ∷ []) ∙ rw (length-append low.bytes.items (low.tail / 2 ^ low.shifts ∷ [])) (omega arith) in
    let few : low.shifts ≤ 7 = tail.0 in
    let pad : padding (doublings_of low) ≡ 8 - low.shifts = omega arith in
    let count : (doublings_of low + 8 + padding (doublings_of low)) / 8 ≡ length bytes = omega arith in
    let fits : last % 4294967296 ≡ last = shl_whole low.tail (8 + low.shifts) (8 - low.shifts) 32 tail.1 (omega arith) in
    let first : low.tail / 2 ^ low.shifts ≡ last / 256 = rest-first low.tail low.shifts few in
    let number : number_of bytes ≡ (number_of low.bytes.items * 256 + last / 256) * 256 + last % 256 = rw (pushed, fits, number_of-push front (last % 256), number_of-push low.bytes.items (low.tail / 2 ^ low.shifts), first) refl in
    let power : 2 ^ (8 + low.shifts) * 2 ^ (8 - low.shifts) ≡ 65536 = sym (pow-add 2 (8 + low.shifts) (8 - low.shifts)) ∙ (let all : 8 + low.shifts + (8 - low.shifts) ≡ 16 = omega arith in rw all refl) in
    let value : (number_of low.bytes.items * 2 ^ (8 + low.shifts) + low.tail) * 2 ^ (8 - low.shifts) ≡ number_of low.bytes.items * 65536 + last = omega (arith, ap (λ (p : ℕ). number_of low.bytes.items * p) power) in
    bytes-text bytes low range small count (rw (pad, number, value) (omega arith))
