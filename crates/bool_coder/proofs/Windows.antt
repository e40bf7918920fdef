use Rattle.std.proofs.Common.{◌≡◌, ℕ, zero, suc, ◌+◌, ◌-◌, ◌*◌, ◌/◌, ◌%◌, ◌^◌, ◌<◌, ◌≤◌, min, Bool, true, false, List, [], ◌∷◌, ◌++◌, refl, ap, sym, ◌∙◌, arith, append_assoc}
use Rattle.std.proofs.Math.Dec.{leb}
use Rattle.std.proofs.Math.Nat.{pow-suc, add-mul-div_right, mul-le-mul_left, mul-le-mul_right, div-mul-le_self, div-lt_iff_lt-mul, le-div_iff_mul-le, lt-div-mul-add, mod-eq_of_lt, pow-le-pow_right}
use Rattle.std.proofs.lemmas.Bool.{le-leb, lt-leb}
use Rattle.std.proofs.lemmas.Nat.{pow_pos, pow-add, shr-shr}
use Rattle.bool_coder.specs.Reader.{Reader, bits_of, bit_string, doubled, level, renewed, read, split_of}
use Rattle.bool_coder.specs.Window.{reader_of, doublings}
use Rattle.bool_coder.proofs.Level.{level-padded, read-level}
use Rattle.bool_coder.proofs.Renewal.{renewed_large, renewed_small, split_of-small}

-- the bits that are left and d determine a reader of a range
reader_same : (range : ℕ) (rest rest' : List ℕ) (d d' : ℕ) → rest ≡ rest' → d ≡ d' → ◌≡◌ {A = Reader} (record { rest = rest; d = d; range = range }) (record { rest = rest'; d = d'; range = range })
reader_same range rest rest' d d' same_rest same_d =
    ap (λ (bits : List ℕ). record { rest = bits; d = d; range = range }) same_rest ∙ ap (λ (n : ℕ). record { rest = rest'; d = n; range = range }) same_d

-- the equations of a whole shift
doublings-zero : (r : Reader) → doublings 0 r ≡ r
unfolding doublings
doublings-zero r = refl

doublings-suc : (count : ℕ) (r : Reader) → doublings (suc count) r ≡ doublings count (doubled r)
unfolding doublings
doublings-suc count r = refl

-- it renews a range if it leaves one of 128 to 255
pub renewed-doublings : (fuel count : ℕ) (r : Reader) → count ≤ fuel → 128 ≤ r.range * 2 ^ count → r.range * 2 ^ count < 256 → renewed fuel r ≡ doublings count r
renewed-doublings fuel zero r enough large small = renewed_large fuel r (omega arith) ∙ sym (doublings-zero r)
renewed-doublings zero (suc count) r enough large small = absurd (omega arith)
renewed-doublings (suc fuel) (suc count) r enough large small =
    let power : 2 ^ suc count ≡ 2 ^ count * 2 = pow-suc 2 count in
    let least : 0 < 2 ^ count = pow_pos count in
    let one : 1 ≤ 2 ^ count = omega arith in
    let below : r.range * 2 ^ count < 128 = omega (arith, rw power at small) in
    let grows : r.range * 1 ≤ r.range * 2 ^ count = mul-le-mul_left r.range one in
    let next_large : 128 ≤ 2 * r.range * 2 ^ count = omega (arith, rw power at large) in
    let next_small : 2 * r.range * 2 ^ count < 256 = omega (arith, rw power at small) in
    renewed_small fuel r (omega arith) ∙ renewed-doublings fuel count (doubled r) (omega arith) next_large next_small ∙ sym (doublings-suc count r)

-- the part above the low bits changes none of them, and counts in d
div-above : (left low above : ℕ) → (low + above * 2 ^ left) / 2 ^ left ≡ low / 2 ^ left + above
div-above left low above = add-mul-div_right low above (pow_pos left)

bits_of-above : (left low above : ℕ) → bits_of left (low + above * 2 ^ left) ≡ bits_of left low
bits_of-above zero low above = refl
bits_of-above (suc left) low above =
    let power : 2 ^ suc left ≡ 2 ^ left * 2 = pow-suc 2 left in
    let number : low + above * 2 ^ suc left ≡ low + 2 * above * 2 ^ left = rw power (omega arith) in
    let quotient : (low + 2 * above * 2 ^ left) / 2 ^ left ≡ low / 2 ^ left + 2 * above = div-above left low (2 * above) in
    let bit : (low / 2 ^ left + 2 * above) % 2 ≡ low / 2 ^ left % 2 = omega arith in
    rw (number, quotient, bit) (ap (λ bits. low / 2 ^ left % 2 ∷ bits) (bits_of-above left low (2 * above)))

-- one bit moves from the low ones up to d
doubled-window : (value left : ℕ) (bytes : List ℕ) (range : ℕ) → doubled (reader_of value (suc left) bytes range) ≡ reader_of value left bytes (2 * range)
doubled-window value left bytes range =
    let halves : value / 2 ^ suc left ≡ value / 2 ^ left / 2 = sym (shr-shr value left 1 ∙ ap (λ (n : ℕ). value / 2 ^ n) (omega arith)) in
    reader_same _ _ _ _ _ refl (rw halves (omega arith))

pub doublings-window : (count left value : ℕ) (bytes : List ℕ) (range : ℕ) → doublings count (reader_of value (count + left) bytes range) ≡ reader_of value left bytes (range * 2 ^ count)
doublings-window zero left value bytes range =
    let same : 0 + left ≡ left = omega arith in
    let product : range * 1 ≡ range = omega arith in
    rw (same, product) (doublings-zero (reader_of value left bytes range))
doublings-window (suc count) left value bytes range =
    let next : suc count + left ≡ suc (count + left) = omega arith in
    let power : 2 ^ suc count ≡ 2 ^ count * 2 = pow-suc 2 count in
    let product : range * 2 ^ suc count ≡ 2 * range * 2 ^ count = rw power (omega arith) in
    rw (next, product) (doublings-suc count (reader_of value (suc (count + left)) bytes range) ∙ ap (doublings count) (doubled-window value (count + left) bytes range) ∙ doublings-window count left value bytes (2 * range))

-- a byte after the low bits
div-byte : (left value byte : ℕ) → byte < 256 → (value * 256 + byte) / 2 ^ (left + 8) ≡ value / 2 ^ left
div-byte left value byte fits =
    let quotient : (value * 256 + byte) / 2 ^ 8 ≡ value = omega arith in
    let order : left + 8 ≡ 8 + left = omega arith in
    rw order (sym (shr-shr (value * 256 + byte) 8 left) ∙ ap (λ (n : ℕ). n / 2 ^ left) quotient)

bits_of-byte : (left value byte : ℕ) → byte < 256 → bits_of (left + 8) (value * 256 + byte) ≡ bits_of left value ++ bits_of 8 byte
bits_of-byte zero value byte fits =
    let number : value * 256 + byte ≡ byte + value * 2 ^ 8 = omega arith in
    rw number (bits_of-above 8 byte value)
bits_of-byte (suc left) value byte fits =
    let next : suc left + 8 ≡ suc (left + 8) = omega arith in
    rw (next, div-byte left value byte fits) (ap (λ bits. value / 2 ^ left % 2 ∷ bits) (bits_of-byte left value byte fits))

pub reader_of-byte : (value left byte : ℕ) (bytes : List ℕ) (range : ℕ) → byte < 256 → reader_of (value * 256 + byte) (left + 8) bytes range ≡ reader_of value left (byte ∷ bytes) range
reader_of-byte value left byte bytes range fits =
    reader_same _ _ _ _ _ (rw (bits_of-byte left value byte fits) (append_assoc (bits_of left value) (bits_of 8 byte) (bit_string bytes))) (rw (div-byte left value byte fits) refl)

-- d clamped to the range
clamped_to_range-low : (low above left : ℕ) (bytes : List ℕ) (range : ℕ) → range ≤ low / 2 ^ left → reader_of low left bytes range ≡ reader_of (low + above * 2 ^ left) left bytes range
clamped_to_range-low low above left bytes range reached =
    reader_same _ _ _ _ _ (ap (λ bits. bits ++ bit_string bytes) (sym (bits_of-above left low above))) (rw (div-above left low above) (omega arith))

pub reader_of-clamped_to_range : (value left : ℕ) (bytes : List ℕ) (range : ℕ) → range ≤ value / 2 ^ left → reader_of (value - (value / 2 ^ left - range) * 2 ^ left) left bytes range ≡ reader_of value left bytes range
reader_of-clamped_to_range value left bytes range reached =
    let inside : value / 2 ^ left * 2 ^ left ≤ value = div-mul-le_self value (2 ^ left) in
    let above : ℕ = value / 2 ^ left - range in
    let low : ℕ = value - above * 2 ^ left in
    let fits : above * 2 ^ left ≤ value / 2 ^ left * 2 ^ left = mul-le-mul_right (2 ^ left) (omega arith) in
    let number : low + above * 2 ^ left ≡ value = omega arith in
    let quotient : low / 2 ^ left + above ≡ value / 2 ^ left = sym (div-above left low above) ∙ ap (λ (n : ℕ). n / 2 ^ left) number in
    clamped_to_range-low low above left bytes range (omega arith) ∙ ap (λ (n : ℕ). reader_of n left bytes range) number

-- a whole shift after the bit that d decides; d reaches the split when the window's value does
split_reached : (prob range value left : ℕ) → split_of prob range * 2 ^ left ≤ value → split_of prob range ≤ value / 2 ^ left
split_reached prob range value left reached =
    let power : 0 < 2 ^ left = pow_pos left in (le-div_iff_mul-le power).1 reached

split_missed : (prob range value left : ℕ) → value < split_of prob range * 2 ^ left → value / 2 ^ left < split_of prob range
split_missed prob range value left below =
    let power : 0 < 2 ^ left = pow_pos left in (div-lt_iff_lt-mul power).1 below

pub read-window_one : (prob range value left count : ℕ) (bytes : List ℕ) → prob ≤ 255 → 128 ≤ range → range ≤ 255 → split_of prob range * 2 ^ left ≤ value → count ≤ 7 → 128 ≤ (range - split_of prob range) * 2 ^ count → (range - split_of prob range) * 2 ^ count < 256 → read prob (reader_of value left bytes range) ≡ (true, doublings count (reader_of (value - split_of prob range * 2 ^ left) left bytes (range - split_of prob range)))
unfolding read
read-window_one prob range value left count bytes probable large most reached few enough small =
    let split : ℕ = split_of prob range in
    let inside : split_of prob range < range = split_of-small prob range probable large in
    let low : ℕ = value - split * 2 ^ left in
    let number : low + split * 2 ^ left ≡ value = omega arith in
    let quotient : value / 2 ^ left ≡ low / 2 ^ left + split = ap (λ (n : ℕ). n / 2 ^ left) (sym number) ∙ div-above left low split in
    let bits : bits_of left value ≡ bits_of left low = ap (bits_of left) (sym number) ∙ bits_of-above left low split in
    let here : split_of prob range ≤ min (value / 2 ^ left) range = omega arith in
    let same : record { rest = bits_of left value ++ bit_string bytes; d = min (value / 2 ^ left) range - split; range = range - split } ≡ reader_of low left bytes (range - split) = reader_same _ _ _ _ _ (ap (λ (b : List ℕ). b ++ bit_string bytes) bits) (omega arith) in
    rw (le-leb _ _ here) (ap (λ s. (true, s)) (ap (renewed 7) same ∙ renewed-doublings 7 count (reader_of low left bytes (range - split)) few enough small))

pub read-window_zero : (prob range value left count : ℕ) (bytes : List ℕ) → prob ≤ 255 → 128 ≤ range → range ≤ 255 → value < split_of prob range * 2 ^ left → count ≤ 7 → 128 ≤ split_of prob range * 2 ^ count → split_of prob range * 2 ^ count < 256 → read prob (reader_of value left bytes range) ≡ (false, doublings count (reader_of value left bytes (split_of prob range)))
unfolding read
read-window_zero prob range value left count bytes probable large most below few enough small =
    let split : ℕ = split_of prob range in
    let inside : split_of prob range < range = split_of-small prob range probable large in
    let under : value / 2 ^ left < split_of prob range = split_missed prob range value left below in
    let here : min (value / 2 ^ left) range < split_of prob range = omega arith in
    let same : record { rest = bits_of left value ++ bit_string bytes; d = min (value / 2 ^ left) range; range = split } ≡ reader_of value left bytes split = reader_same _ _ _ _ _ refl (omega arith) in
    rw (lt-leb _ _ here) (ap (λ s. (false, s)) (ap (renewed 7) same ∙ renewed-doublings 7 count (reader_of value left bytes split) few enough small))

-- the part that the code stores above the low bits is not cut off
above-fits : (value left above : ℕ) → above ≤ value / 2 ^ left → value < 2 ^ 64 → above * 2 ^ left % 2 ^ 64 ≡ above * 2 ^ left
above-fits value left above inside fits =
    let whole : value / 2 ^ left * 2 ^ left ≤ value = div-mul-le_self value (2 ^ left) in
    let part : above * 2 ^ left ≤ value / 2 ^ left * 2 ^ left = mul-le-mul_right (2 ^ left) inside in
    mod-eq_of_lt (omega arith)

pub hold-same : (value left : ℕ) (bytes : List ℕ) (range : ℕ) → value < 2 ^ 64 → range < value / 2 ^ left → reader_of (value - (value / 2 ^ left - range) * 2 ^ left % 2 ^ 64) left bytes range ≡ reader_of value left bytes range
hold-same value left bytes range fits reached =
    rw (above-fits value left (value / 2 ^ left - range) (omega arith) fits) (reader_of-clamped_to_range value left bytes range (omega arith))

small_above : (value left range above : ℕ) → value / 2 ^ left ≡ above + range → range ≤ 255 → value - above * 2 ^ left < 2 ^ (left + 8)
small_above value left range above quotient most =
    let power : 2 ^ (left + 8) ≡ 2 ^ left * 2 ^ 8 = pow-add 2 left 8 in
    let below : value < value / 2 ^ left * 2 ^ left + 2 ^ left = lt-div-mul-add (pow_pos left) in
    let parts : value < (above + range) * 2 ^ left + 2 ^ left = rw quotient at below in
    let range_most : range * 2 ^ left ≤ 255 * 2 ^ left = mul-le-mul_right (2 ^ left) most in
    omega arith

pub hold-small : (value left range : ℕ) → value < 2 ^ 64 → range < value / 2 ^ left → range ≤ 255 → value - (value / 2 ^ left - range) * 2 ^ left % 2 ^ 64 < 2 ^ (left + 8)
hold-small value left range fits reached most =
    rw (above-fits value left (value / 2 ^ left - range) (omega arith) fits) (small_above value left range (value / 2 ^ left - range) (omega arith) most)

pub small-small : (value left range : ℕ) → value / 2 ^ left ≤ range → range ≤ 255 → value < 2 ^ (left + 8)
small-small value left range below most =
    let cut : value - 0 * 2 ^ left < 2 ^ (left + 8) = small_above value left (value / 2 ^ left) 0 (omega arith) (omega arith) in omega arith

-- one more byte leaves room for the next
pub take-small : (value left byte : ℕ) → value < 2 ^ (left + 8) → byte < 256 → 256 * value + byte < 2 ^ (left + 8 + 8)
take-small value left byte small fits =
    let power : 2 ^ (left + 8 + 8) ≡ 2 ^ (left + 8) * 2 ^ 8 = pow-add 2 (left + 8) 8 in omega arith

pub take-fits : (value left : ℕ) → value < 2 ^ (left + 8) → left ≤ 48 → value < 2 ^ 56
take-fits value left small room =
    let two_pos : 0 < 2 = omega arith in
    let more_powers : left + 8 ≤ 56 = omega arith in
    let most : 2 ^ (left + 8) ≤ 2 ^ 56 = pow-le-pow_right two_pos more_powers in omega arith

-- a window with enough bits, and one whose bytes are at their end
pub refill-enough : (count left value : ℕ) (bytes : List ℕ) (range : ℕ) → count ≤ left → reader_of value (left - count) bytes (range * 2 ^ count) ≡ doublings count (reader_of value left bytes range)
refill-enough count left value bytes range enough =
    let whole : count + (left - count) ≡ left = omega arith in
    sym (rw whole at (doublings-window count (left - count) value bytes range))

pub refill-end : (left value : ℕ) (bytes : List ℕ) (range : ℕ) → left < 7 → value < 2 ^ (left + 8) → bytes ≡ [] → level (reader_of (value * 2 ^ (7 - left) % 2 ^ 64) 7 bytes range) ≡ level (reader_of value left bytes range)
refill-end left value bytes range short small ended =
    let pad : ℕ = 7 - left in
    let power : 2 ^ (left + 8 + pad) ≡ 2 ^ (left + 8) * 2 ^ pad = pow-add 2 (left + 8) pad in
    let least : 0 < 2 ^ pad = pow_pos pad in
    let two_pos : 0 < 2 = omega arith in
    let more_powers : left + 8 + pad ≤ 15 = omega arith in
    let most : 2 ^ (left + 8 + pad) ≤ 2 ^ 15 = pow-le-pow_right two_pos more_powers in
    let product : value * 2 ^ pad ≤ 2 ^ (left + 8) * 2 ^ pad = mul-le-mul_right (2 ^ pad) (omega arith) in
    let same : value * 2 ^ pad % 2 ^ 64 ≡ value * 2 ^ pad = mod-eq_of_lt (omega arith) in
    let whole : 7 ≡ left + pad = omega arith in
    let left_is : level (reader_of (value * 2 ^ pad) (left + pad) [] range) ≡ level (reader_of value left [] range) = level-padded left pad value range in
    rw (same, ended) (rw (← whole) at left_is)

pub take-same : (value left byte : ℕ) (bytes rest : List ℕ) (range : ℕ) → byte < 256 → bytes ≡ byte ∷ rest → reader_of (256 * value + byte) (left + 8) rest range ≡ reader_of value left bytes range
take-same value left byte bytes rest range fits next =
    let number : 256 * value + byte ≡ value * 256 + byte = omega arith in
    rw (number, next) (reader_of-byte value left byte rest range fits)

-- the code's split, moved above the low bits, is not cut off
split-fits : (prob range left : ℕ) → prob ≤ 255 → 128 ≤ range → range ≤ 255 → left ≤ 56 → split_of prob range * 2 ^ left % 2 ^ 64 ≡ split_of prob range * 2 ^ left
split-fits prob range left probable large most room =
    let inside : split_of prob range < range = split_of-small prob range probable large in
    let two_pos : 0 < 2 = omega arith in
    let power : 2 ^ left ≤ 2 ^ 56 = pow-le-pow_right two_pos room in
    let product : split_of prob range * 2 ^ left ≤ 255 * 2 ^ left = mul-le-mul_right (2 ^ left) (omega arith) in
    mod-eq_of_lt (omega arith)

-- a bit of the level reader of a window that has seven unread bits, decided by the split above the low bits
pub bit-one : (prob range value left count : ℕ) (bytes : List ℕ) → prob ≤ 255 → 128 ≤ range → range ≤ 255 → 7 ≤ left → left ≤ 56 → split_of prob range * 2 ^ left % 2 ^ 64 ≤ value → count ≤ 7 → 128 ≤ (range - split_of prob range) * 2 ^ count → (range - split_of prob range) * 2 ^ count < 256 → read prob (level (reader_of value left bytes range)) ≡ (leb (split_of prob range * 2 ^ left % 2 ^ 64) value, level (reader_of (value - split_of prob range * 2 ^ left % 2 ^ 64) (left - count) bytes ((range - split_of prob range) * 2 ^ count)))
bit-one prob range value left count bytes probable large most ready room reached few enough small =
    let whole : split_of prob range * 2 ^ left % 2 ^ 64 ≡ split_of prob range * 2 ^ left = split-fits prob range left probable large most room in
    let least : split_of prob range * 2 ^ left ≤ value = rw whole at reached in
    let bit : read prob (reader_of value left bytes range) ≡ (true, doublings count (reader_of (value - split_of prob range * 2 ^ left) left bytes (range - split_of prob range))) = read-window_one prob range value left count bytes probable large most least few enough small in
    let enough_bits : count ≤ left = omega arith in
    rw (le-leb _ _ reached, whole) (read-level prob (reader_of value left bytes range) ∙ ap (λ (s : Bool × Reader). (s.0, level s.1)) bit ∙ ap (λ (s : Reader). (true, level s)) (sym (refill-enough count left (value - split_of prob range * 2 ^ left) bytes (range - split_of prob range) enough_bits)))

pub bit-zero : (prob range value left count : ℕ) (bytes : List ℕ) → prob ≤ 255 → 128 ≤ range → range ≤ 255 → 7 ≤ left → left ≤ 56 → value < split_of prob range * 2 ^ left % 2 ^ 64 → count ≤ 7 → 128 ≤ split_of prob range * 2 ^ count → split_of prob range * 2 ^ count < 256 → read prob (level (reader_of value left bytes range)) ≡ (leb (split_of prob range * 2 ^ left % 2 ^ 64) value, level (reader_of value (left - count) bytes (split_of prob range * 2 ^ count)))
bit-zero prob range value left count bytes probable large most ready room below few enough small =
    let whole : split_of prob range * 2 ^ left % 2 ^ 64 ≡ split_of prob range * 2 ^ left = split-fits prob range left probable large most room in
    let least : value < split_of prob range * 2 ^ left = rw whole at below in
    let bit : read prob (reader_of value left bytes range) ≡ (false, doublings count (reader_of value left bytes (split_of prob range))) = read-window_zero prob range value left count bytes probable large most least few enough small in
    let enough_bits : count ≤ left = omega arith in
    rw (lt-leb _ _ below) (read-level prob (reader_of value left bytes range) ∙ ap (λ (s : Bool × Reader). (s.0, level s.1)) bit ∙ ap (λ (s : Reader). (false, level s)) (sym (refill-enough count left value bytes (split_of prob range) enough_bits)))
