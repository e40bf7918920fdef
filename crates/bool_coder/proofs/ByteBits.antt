use Rattle.std.proofs.Common.{◌≡◌, ℕ, zero, suc, ◌+◌, ◌*◌, ◌/◌, ◌%◌, ◌^◌, List, ◌∷◌, ◌++◌, replicate, refl, ap, ◌∙◌, arith}
use Rattle.std.proofs.Math.Nat.{pow-suc}
use Rattle.std.proofs.lemmas.Nat.{shr-shr, shl-shr}
use Rattle.bool_coder.specs.Reader.{bits_of, bit_string}
use Rattle.bool_coder.specs.CodeText.{bytes_of, padding}

-- a front and the rest after it
pub both : {a b : ℕ} {xs ys : List ℕ} → a ≡ b → xs ≡ ys → a ∷ xs ≡ b ∷ ys
both p q = cc

-- the high bits of a number come before its low ones
pub bits_of-append : (high low n : ℕ) → bits_of high (n / 2 ^ low) ++ bits_of low n ≡ bits_of (high + low) n
bits_of-append zero low n =
    let none : 0 + low ≡ low = omega arith in rw none refl
bits_of-append (suc high) low n =
    let one_more : suc high + low ≡ suc (high + low) = omega arith in
    let place : low + high ≡ high + low = omega arith in
    let here : n / 2 ^ low / 2 ^ high ≡ n / 2 ^ (high + low) = shr-shr n low high ∙ ap (λ (k : ℕ). n / 2 ^ k) place in
    rw one_more (both (ap (λ (m : ℕ). m % 2) here) (bits_of-append high low n))

-- a byte is its low eight bits
byte_bits : (m : ℕ) → bits_of 8 (m % 256) ≡ bits_of 8 m
byte_bits m =
    both (omega arith) (both (omega arith) (both (omega arith) (both (omega arith) (both (omega arith) (both (omega arith) (both (omega arith) (both (omega arith) refl)))))))

-- the bytes of a number have its bits
pub bit_string-bytes_of : (count n : ℕ) → bit_string (bytes_of count n) ≡ bits_of (8 * count) n
bit_string-bytes_of zero n = refl
bit_string-bytes_of (suc count) n =
    let eight_more : 8 * suc count ≡ 8 + 8 * count = omega arith in
    let front : bits_of 8 (n / 2 ^ (8 * count) % 256) ++ bit_string (bytes_of count n) ≡ bits_of 8 (n / 2 ^ (8 * count)) ++ bit_string (bytes_of count n) = ap (λ (xs : List ℕ). xs ++ bit_string (bytes_of count n)) (byte_bits (n / 2 ^ (8 * count))) in
    rw eight_more (front ∙ ap (λ (xs : List ℕ). bits_of 8 (n / 2 ^ (8 * count)) ++ xs) (bit_string-bytes_of count n) ∙ bits_of-append 8 (8 * count) n)

-- the bits shifted in from below are zeros
bits_of-shifted : (count n : ℕ) → bits_of count (n * 2 ^ count) ≡ replicate count 0
bits_of-shifted zero n = refl
bits_of-shifted (suc count) n =
    let twice : n * 2 ^ suc count ≡ 2 * n * 2 ^ count = rw (pow-suc 2 count) (omega arith) in
    let even : 2 * n * 2 ^ count / 2 ^ count ≡ 2 * n = shl-shr (2 * n) count in
    rw twice (both (rw even (omega arith)) (bits_of-shifted count (2 * n)))

-- the bits of a code's text
pub bits_of-padded : (count pad n : ℕ) → bits_of (count + pad) (n * 2 ^ pad) ≡ bits_of count n ++ replicate pad 0
bits_of-padded count pad n =
    rw (← bits_of-append count pad (n * 2 ^ pad), shl-shr n pad, bits_of-shifted pad n) refl

-- the bits of a text are whole bytes
pub whole_bytes : (bits : ℕ) → 8 * ((bits + 8 + padding bits) / 8) ≡ bits + 8 + padding bits
whole_bytes bits = omega arith
