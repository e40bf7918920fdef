use Rattle.std.proofs.Common.{◌≡◌, ℕ, zero, suc, ◌+◌, ◌-◌, ◌*◌, ◌/◌, ◌^◌, ◌<◌, ◌≤◌, Bool, true, false, List, [], ◌∷◌, map, refl, ap, sym, subst, ◌∙◌, arith, inl, inr}
use Rattle.std.proofs.Math.Nat.{pow-suc, mul-le-mul_left, mul-le-mul_right, mul-add-div_right}
use Rattle.std.proofs.lemmas.Bool.{lt-ltb, le-ltb, le-leb, lt-leb, cases_lt}
use Rattle.std.proofs.lemmas.Nat.{shr-shr, div_below, pow_pos}
use Rattle.std.specs.Prelude.{nat_le}
use Rattle.std.proofs.lemmas.List.Elements.{All-head, All-tail}
use Rattle.std.specs.List.{All}
use Rattle.bool_coder.specs.Reader.{Reader, bits_of, doubled, renewed, read, split_of, text_start, started}
use Rattle.bool_coder.specs.Uncut.{bits_read}
use Rattle.bool_coder.specs.CodeText.{Code, no_code, code_doubled, code_renewed, narrowed, written, all_written, bytes_of, padding, code_text}
use Rattle.bool_coder.proofs.ByteBits.{both, bit_string-bytes_of}
use Rattle.bool_coder.proofs.Level.{bits_read-level}

-- the reader that has `value` in its window and in the `left` bits after it
abbrev pub reader_at : ℕ → ℕ → ℕ → Reader
reader_at value left range = record { rest = bits_of left value; d = value / 2 ^ left; range = range }

-- a reader is in step with an encoder with this code, over the number `whole` of 8 + `places` bits
pub record StandsAt (c : Code) (whole places : ℕ) (r : Reader) : Type 0 where
  pub left : ℕ
  pub shifted : left + c.shifts ≡ places
  pub above : c.low * 2 ^ left ≤ whole
  pub below : whole < (c.low + c.range) * 2 ^ left
  pub same : r ≡ reader_at (whole - c.low * 2 ^ left) left c.range

reader_same : (rest rest' : List ℕ) (d d' range : ℕ) → rest ≡ rest' → d ≡ d' → ◌≡◌ {A = Reader} (record { rest = rest; d = d; range = range }) (record { rest = rest'; d = d'; range = range })
reader_same rest rest' d d' range p q = cc

-- one bit moves into the window
doubled-at : (value left range : ℕ) → value < range * 2 ^ suc left → doubled (reader_at value (suc left) range) ≡ reader_at value left (2 * range)
doubled-at value left range small =
    let half : value / 2 ^ left / 2 ^ 1 ≡ value / 2 ^ (left + 1) = shr-shr value left 1 in
    let one_more : left + 1 ≡ suc left = omega arith in
    let half' : value / 2 ^ left / 2 ≡ value / 2 ^ suc left = rw one_more at half in
    let power : 2 ^ suc left ≡ 2 ^ left * 2 = pow-suc 2 left in
    let less : value < 2 * range * 2 ^ left = (let much = rw power at small in omega (arith, much)) in
    let inside : value / 2 ^ left < 2 * range = div_below value (2 ^ left) (2 * range) (pow_pos left) less in
    reader_same _ _ _ _ _ refl (omega arith)

-- the equations of the code's renewal
pub code_renewed-small : (fuel : ℕ) (c : Code) → c.range < 128 → code_renewed (suc fuel) c ≡ code_renewed fuel (code_doubled c)
unfolding code_renewed
code_renewed-small fuel c small = rw (lt-ltb c.range 128 small) refl

pub code_renewed-large : (fuel : ℕ) (c : Code) → 128 ≤ c.range → code_renewed (suc fuel) c ≡ c
unfolding code_renewed
code_renewed-large fuel c large = rw (le-ltb c.range 128 large) refl

pub code_renewed-zero : (c : Code) → code_renewed 0 c ≡ c
unfolding code_renewed
code_renewed-zero c = refl

-- and of the reader's
reader_renewed-small : (fuel : ℕ) (r : Reader) → r.range < 128 → renewed (suc fuel) r ≡ renewed fuel (doubled r)
unfolding renewed
reader_renewed-small fuel r small = rw (lt-ltb r.range 128 small) refl

reader_renewed-large : (fuel : ℕ) (r : Reader) → 128 ≤ r.range → renewed (suc fuel) r ≡ r
unfolding renewed
reader_renewed-large fuel r large = rw (le-ltb r.range 128 large) refl

reader_renewed-zero : (r : Reader) → renewed 0 r ≡ r
unfolding renewed
reader_renewed-zero r = refl

-- a doubling, backwards
doubled-back : (c : Code) (whole places : ℕ) (s : Reader) → StandsAt (code_doubled c) whole places s → (r : Reader) × StandsAt c whole places r × (doubled r ≡ s) × (r.range ≡ c.range)
doubled-back c whole places s standing =
    let power : 2 ^ suc standing.left ≡ 2 ^ standing.left * 2 = pow-suc 2 standing.left in
    let low : c.low * 2 ^ suc standing.left ≡ 2 * c.low * 2 ^ standing.left = rw power (omega arith) in
    let high : (c.low + c.range) * 2 ^ suc standing.left ≡ (2 * c.low + 2 * c.range) * 2 ^ standing.left = rw power (omega arith) in
    let range_is : c.range * 2 ^ suc standing.left ≡ 2 * c.range * 2 ^ standing.left = rw power (omega arith) in
    let above : 2 * c.low * 2 ^ standing.left ≤ whole = standing.above in
    let below : whole < (2 * c.low + 2 * c.range) * 2 ^ standing.left = standing.below in
    let value = whole - c.low * 2 ^ suc standing.left in
    let small : whole - c.low * 2 ^ suc standing.left < c.range * 2 ^ suc standing.left = omega arith in
    let same : doubled (reader_at (whole - c.low * 2 ^ suc standing.left) (suc standing.left) c.range) ≡ s = doubled-at _ _ _ small ∙ rw low (sym standing.same) in
    (reader_at (whole - c.low * 2 ^ suc standing.left) (suc standing.left) c.range, record { left = suc standing.left; shifted = (let shifted : standing.left + (c.shifts + 1) ≡ places = standing.shifted in omega arith); above = omega arith; below = omega arith; same = refl }, same, refl)

StandsAt-range : (c : Code) (whole places : ℕ) (s : Reader) → StandsAt c whole places s → s.range ≡ c.range
StandsAt-range c whole places s standing = ap (λ (r : Reader). r.range) standing.same

-- a renewal, backwards
pub renewed-back : (fuel : ℕ) (c : Code) (whole places : ℕ) (s : Reader) → StandsAt (code_renewed fuel c) whole places s → (r : Reader) × StandsAt c whole places r × (renewed fuel r ≡ s)
renewed-back zero c whole places s standing =
    let here : StandsAt c whole places s = subst (λ (e : Code). StandsAt e whole places s) (code_renewed-zero c) standing in
    (s, here, reader_renewed-zero s)
renewed-back (suc fuel) c whole places s standing =
    elim (cases_lt c.range 128) [
      | inl small ↦ (
          let doubled_here : StandsAt (code_renewed fuel (code_doubled c)) whole places s = subst (λ (e : Code). StandsAt e whole places s) (code_renewed-small fuel c small) standing in
          let later = renewed-back fuel (code_doubled c) whole places s doubled_here in
          let back = doubled-back c whole places later.0 later.1 in
          let small' : back.0.range < 128 = rw back.3 small in
          (back.0, back.1, reader_renewed-small fuel back.0 small' ∙ rw back.2 later.2))
      | inr large ↦ (
          let here : StandsAt c whole places s = subst (λ (e : Code). StandsAt e whole places s) (code_renewed-large fuel c large) standing in
          let large' : 128 ≤ s.range = rw (StandsAt-range c whole places s here) large in
          (s, here, reader_renewed-large fuel s large'))
    ]

-- bits above the low bits do not change them
bits_of-above : (left n a : ℕ) → bits_of left (a * 2 ^ left + n) ≡ bits_of left n
bits_of-above zero n a = refl
bits_of-above (suc left) n a =
    let twice : a * 2 ^ suc left + n ≡ 2 * a * 2 ^ left + n = rw (pow-suc 2 left) (omega arith) in
    let over : (2 * a * 2 ^ left + n) / 2 ^ left ≡ 2 * a + n / 2 ^ left = mul-add-div_right (pow_pos left) (2 * a) n in
    rw twice (both (rw over (omega arith)) (bits_of-above left n (2 * a)))

-- a split leaves something on both sides
pub split_of-inside : (prob range : ℕ) → prob ≤ 255 → 128 ≤ range → split_of prob range < range
split_of-inside prob range probable large =
    let most : (range - 1) * prob ≤ (range - 1) * 255 = mul-le-mul_left (range - 1) probable in omega arith

-- the bit that the window decides, and the reader before its renewal
abbrev told : ℕ → Reader → Bool
told prob r = nat_le (split_of prob r.range) r.d

abbrev taken : Bool → ℕ → Reader → Reader
taken true prob r = record r { d = r.d - split_of prob r.range; range = r.range - split_of prob r.range }
taken false prob r = record r { range = split_of prob r.range }

read-told : (bit : Bool) (prob : ℕ) (r : Reader) → told prob r ≡ bit → read prob r ≡ (bit, renewed 7 (taken bit prob r))
unfolding read
read-told true prob r is = rw is refl
read-told false prob r is = rw is refl

-- a choice of a part, backwards
narrowed-back : (bit : Bool) (prob : ℕ) (c : Code) (whole places : ℕ) (s : Reader) → split_of prob c.range < c.range → StandsAt (narrowed bit prob c) whole places s → (r : Reader) × StandsAt c whole places r × (told prob r ≡ bit) × (taken bit prob r ≡ s)
narrowed-back false prob c whole places s inside standing =
    let split = split_of prob c.range in
    let power = 2 ^ standing.left in
    let above : c.low * power ≤ whole = standing.above in
    let below : whole < (c.low + split) * power = standing.below in
    let wider : split * power ≤ c.range * power = mul-le-mul_right power (omega arith) in
    let small : whole - c.low * power < split * power = omega arith in
    let less : (whole - c.low * power) / power < split = div_below _ _ _ (pow_pos standing.left) small in
    (reader_at (whole - c.low * power) standing.left c.range, record { left = standing.left; shifted = standing.shifted; above = above; below = omega arith; same = refl }, lt-leb _ _ less, sym standing.same)
narrowed-back true prob c whole places s inside standing =
    let split = split_of prob c.range in
    let power = 2 ^ standing.left in
    let above : (c.low + split) * power ≤ whole = standing.above in
    let below : whole < (c.low + split + (c.range - split)) * power = standing.below in
    let rest = whole - (c.low + split) * power in
    let value_is : whole - c.low * power ≡ split * power + rest = omega arith in
    let quotient : (whole - c.low * power) / power ≡ split + rest / power = rw value_is (mul-add-div_right (pow_pos standing.left) split rest) in
    let bits_are : bits_of standing.left (whole - c.low * power) ≡ bits_of standing.left rest = rw value_is (bits_of-above standing.left rest split) in
    let all : c.low + split + (c.range - split) ≡ c.low + c.range = omega arith in
    let below' : whole < (c.low + c.range) * power = rw all at below in
    (reader_at (whole - c.low * power) standing.left c.range, record { left = standing.left; shifted = standing.shifted; above = omega arith; below = below'; same = refl }, le-leb _ _ (omega arith), reader_same _ _ _ _ _ bits_are (omega arith) ∙ sym standing.same)

-- a bit, backwards
written-back : (bit : Bool) (prob : ℕ) (c : Code) (whole places : ℕ) (s : Reader) → prob ≤ 255 → 128 ≤ c.range → StandsAt (written bit prob c) whole places s → (r : Reader) × StandsAt c whole places r × (read prob r ≡ (bit, s))
unfolding written
written-back bit prob c whole places s probable large standing =
    let later = renewed-back 7 (narrowed bit prob c) whole places s standing in
    let back = narrowed-back bit prob c whole places later.0 (split_of-inside prob c.range probable large) later.1 in
    let same : renewed 7 (taken bit prob back.0) ≡ s = rw back.3 later.2 in
    (back.0, back.1, read-told bit prob back.0 back.2 ∙ ap (λ (r : Reader). (bit, r)) same)

-- a renewal ends with a large range
code_renewed-range : (fuel : ℕ) (c : Code) → c.range ≤ 255 → 128 ≤ c.range * 2 ^ fuel → (128 ≤ (code_renewed fuel c).range) × ((code_renewed fuel c).range ≤ 255)
code_renewed-range zero c most enough =
    let power : 2 ^ 0 ≡ 1 = refl in rw (code_renewed-zero c) (omega arith, omega arith)
code_renewed-range (suc fuel) c most enough =
    let power : 2 ^ suc fuel ≡ 2 ^ fuel * 2 = pow-suc 2 fuel in
    let much = rw power at enough in
    elim (cases_lt c.range 128) [ inl small ↦ rw (code_renewed-small fuel c small) (code_renewed-range fuel (code_doubled c) (omega arith) (omega (arith, much))) | inr large ↦ rw (code_renewed-large fuel c large) (omega arith, omega arith) ]

pub written-range : (bit : Bool) (prob : ℕ) (c : Code) → prob ≤ 255 → 128 ≤ c.range → c.range ≤ 255 → (128 ≤ (written bit prob c).range) × ((written bit prob c).range ≤ 255)
unfolding written
written-range false prob c probable large most =
    let inside : split_of prob c.range < c.range = split_of-inside prob c.range probable large in
    code_renewed-range 7 (narrowed false prob c) (omega arith) (omega arith)
written-range true prob c probable large most =
    let inside : split_of prob c.range < c.range = split_of-inside prob c.range probable large in
    code_renewed-range 7 (narrowed true prob c) (omega arith) (omega arith)

all_written-range : (pairs : List (Bool × ℕ)) (c : Code) → All (λ p. p.1 ≤ 255) pairs → 128 ≤ c.range → c.range ≤ 255 → 128 ≤ (all_written pairs c).range
all_written-range [] c probable large most = large
all_written-range (pair ∷ pairs) c probable large most =
    let first : pair.1 ≤ 255 = All-head (λ p. p.1 ≤ 255) pair pairs probable in
    let next = written-range pair.0 pair.1 c first large most in
    all_written-range pairs (written pair.0 pair.1 c) (All-tail (λ p. p.1 ≤ 255) pair pairs probable) next.0 next.1

-- all pairs, backwards
all_written-back : (pairs : List (Bool × ℕ)) (c : Code) (whole places : ℕ) (s : Reader) → All (λ p. p.1 ≤ 255) pairs → 128 ≤ c.range → c.range ≤ 255 → StandsAt (all_written pairs c) whole places s → (r : Reader) × StandsAt c whole places r × (bits_read read (map (λ p. p.1) pairs) r ≡ map (λ p. p.0) pairs)
all_written-back [] c whole places s probable large most standing = (s, standing, refl)
all_written-back (pair ∷ pairs) c whole places s probable large most standing =
    let first : pair.1 ≤ 255 = All-head (λ p. p.1 ≤ 255) pair pairs probable in
    let next = written-range pair.0 pair.1 c first large most in
    let later = all_written-back pairs (written pair.0 pair.1 c) whole places s (All-tail (λ p. p.1 ≤ 255) pair pairs probable) next.0 next.1 standing in
    let back = written-back pair.0 pair.1 c whole places later.0 first large later.1 in
    (back.0, back.1, rw back.2 (ap (λ (bits : List Bool). pair.0 ∷ bits) later.2))

-- the reader at the end of a text
StandsAt-end : (c : Code) (pad : ℕ) → 0 < c.range → StandsAt c (c.low * 2 ^ pad) (pad + c.shifts) (reader_at (c.low * 2 ^ pad - c.low * 2 ^ pad) pad c.range)
StandsAt-end c pad some =
    let more : c.low * 2 ^ pad + 1 * 2 ^ pad ≤ c.low * 2 ^ pad + c.range * 2 ^ pad = (let wide : 1 * 2 ^ pad ≤ c.range * 2 ^ pad = mul-le-mul_right (2 ^ pad) some in omega arith) in
    let power : 0 < 2 ^ pad = pow_pos pad in
    record { left = pad; shifted = refl; above = omega arith; below = omega arith; same = refl }

-- the reader at its start
StandsAt-started : (whole count : ℕ) (r : Reader) → StandsAt no_code whole (8 * count) r → r ≡ text_start (bytes_of (suc count) whole)
StandsAt-started whole count r standing =
    let places : standing.left ≡ 8 * count = (let shifted : standing.left + 0 ≡ 8 * count = standing.shifted in omega arith) in
    let none : whole - 0 * 2 ^ standing.left ≡ whole = omega arith in
    let below : whole < (0 + 255) * 2 ^ standing.left = standing.below in
    let below' : whole < 255 * 2 ^ (8 * count) = rw places at below in
    let byte : whole / 2 ^ (8 * count) < 255 = div_below whole (2 ^ (8 * count)) 255 (pow_pos (8 * count)) below' in
    let here : r ≡ reader_at whole (8 * count) 255 = standing.same ∙ rw (none, places) refl in
    here ∙ reader_same _ _ _ _ 255 (sym (bit_string-bytes_of count whole)) (omega arith)

-- the written bits are read back from a text of this many whole bytes
text-read : (pairs : List (Bool × ℕ)) (c : Code) (pad count : ℕ) → all_written pairs no_code ≡ c → All (λ p. p.1 ≤ 255) pairs → pad + c.shifts ≡ 8 * count → bits_read read (map (λ p. p.1) pairs) (started (bytes_of (suc count) (c.low * 2 ^ pad))) ≡ map (λ p. p.0) pairs
text-read pairs c pad count is probable places =
    let large = all_written-range pairs no_code probable (omega arith) (omega arith) in
    let range_is : 128 ≤ c.range = rw is at large in
    let whole = c.low * 2 ^ pad in
    let last = reader_at (whole - whole) pad c.range in
    let end : StandsAt c whole (8 * count) last = subst (λ (n : ℕ). StandsAt c whole n last) places (StandsAt-end c pad (omega arith)) in
    let end' : StandsAt (all_written pairs no_code) whole (8 * count) last = subst (λ (e : Code). StandsAt e whole (8 * count) last) (sym is) end in
    let back = all_written-back pairs no_code whole (8 * count) last probable (omega arith) (omega arith) end' in
    let start : back.0 ≡ text_start (bytes_of (suc count) whole) = StandsAt-started whole count back.0 back.1 in
    bits_read-level (map (λ p. p.1) pairs) (text_start (bytes_of (suc count) whole)) ∙ rw (← start) back.2

-- the written bits are read back
pub code_text-read : (pairs : List (Bool × ℕ)) → All (λ p. p.1 ≤ 255) pairs → bits_read read (map (λ p. p.1) pairs) (started (code_text pairs)) ≡ map (λ p. p.0) pairs
code_text-read pairs probable =
    let shifts = (all_written pairs no_code).shifts in
    let counted : (shifts + 8 + padding shifts) / 8 ≡ suc ((shifts + padding shifts) / 8) = omega arith in
    let places : padding shifts + shifts ≡ 8 * ((shifts + padding shifts) / 8) = omega arith in
    rw counted (text-read pairs (all_written pairs no_code) (padding shifts) ((shifts + padding shifts) / 8) refl probable places)
