-- The length of a bit string up to its last 1.
use Rattle.std.proofs.Common.{◌≡◌, ℕ, zero, suc, ◌+◌, ◌-◌, ◌*◌, ◌/◌, ◌%◌, ◌^◌, ◌<◌, ◌≤◌, List, [], ◌∷◌, ◌++◌, length, replicate, take, get_or, refl, ap, sym, ◌∙◌, arith, append-nil, append_assoc, inl, inr, ◌⊎◌}
use Rattle.std.proofs.lemmas.List.{length-append, length-take-le, replicate-append-replicate, take_more}
use Rattle.std.proofs.lemmas.Bool.{cases_eq}
use Rattle.std.proofs.lemmas.Nat.Bits.{bit_at-trailing_zeros}
use Rattle.std.specs.Int.{w8}
use Rattle.std.specs.Int.Count.{count_trailing_zeros}
use Rattle.bool_coder.specs.Reader.{bits_of, bit_string, before, trimmed}
use Rattle.bool_coder.proofs.ByteBits.{bits_of-append}
use Rattle.bool_coder.proofs.Level.{trimmed-none, trimmed-bit, trimmed-padded}

-- bits before one that stays are left as they are
before-kept : (bit other : ℕ) (rest : List ℕ) → before bit (other ∷ rest) ≡ bit ∷ other ∷ rest
before-kept zero other rest = refl
before-kept (suc more) other rest = refl

trimmed-kept : (bits rest : List ℕ) (bit : ℕ) (kept : List ℕ) → trimmed rest ≡ bit ∷ kept → trimmed (bits ++ rest) ≡ bits ++ bit ∷ kept
trimmed-kept [] rest bit kept ends = ends
trimmed-kept (first ∷ []) rest bit kept ends = trimmed-bit first rest ∙ ap (before first) ends ∙ before-kept first bit kept
trimmed-kept (first ∷ second ∷ bits) rest bit kept ends =
    trimmed-bit first (second ∷ bits ++ rest) ∙ ap (before first) (trimmed-kept (second ∷ bits) rest bit kept ends) ∙ before-kept first second (bits ++ bit ∷ kept)

-- a string that ends with a 1 is whole
trimmed-one : trimmed (1 ∷ []) ≡ 1 ∷ []
trimmed-one = trimmed-bit 1 [] ∙ ap (before 1) trimmed-none

pub trimmed-whole : (bits : List ℕ) → trimmed (bits ++ 1 ∷ []) ≡ bits ++ 1 ∷ []
trimmed-whole bits = trimmed-kept bits (1 ∷ []) 1 [] trimmed-one

length-bits_of : (count n : ℕ) → length (bits_of count n) ≡ count
length-bits_of zero n = refl
length-bits_of (suc count) n = ap suc (length-bits_of count n)

-- a bit is 0 or 1
low_bit : (n : ℕ) → (n % 2 ≡ 0) ⊎ (n % 2 ≡ 1)
low_bit n = elim (cases_eq (n % 2) 0) [ inl even ↦ inl even | inr odd ↦ inr (omega arith) ]

bits_of-last : (count n : ℕ) → bits_of (suc count) n ≡ bits_of count (n / 2) ++ n % 2 ∷ []
bits_of-last count n =
    let one_more : suc count ≡ count + 1 = omega arith in
    let low : n / 2 ^ 0 % 2 ≡ n % 2 = omega arith in
    ap (λ (k : ℕ). bits_of k n) one_more ∙ sym (bits_of-append count 1 n) ∙ ap (λ (bit : ℕ). bits_of count (n / 2) ++ bit ∷ []) low

-- the zeros at the end of a number are those at the end of its bits
pub length-trimmed : (width count n : ℕ) → count ≤ width → length (trimmed (bits_of count n)) ≡ count - count_trailing_zeros width n
unfolding count_trailing_zeros
length-trimmed width zero n within = ap length trimmed-none ∙ omega arith
length-trimmed zero (suc count) n within = absurd (omega arith)
length-trimmed (suc width) (suc count) n within =
    elim (low_bit n) [
      | inl even ↦ rw (bits_of-last count n, even) (ap length (trimmed-padded (bits_of count (n / 2)) 1) ∙ length-trimmed width count (n / 2) (omega arith) ∙ omega arith)
      | inr odd ↦ rw (bits_of-last count n, odd) (ap length (trimmed-whole (bits_of count (n / 2))) ∙ length-append (bits_of count (n / 2)) (1 ∷ []) ∙ ap (λ (k : ℕ). k + 1) (length-bits_of count (n / 2)) ∙ omega arith)
    ]

-- the bits of bytes
pub bit_string-append : (front back : List ℕ) → bit_string (front ++ back) ≡ bit_string front ++ bit_string back
bit_string-append [] back = refl
bit_string-append (byte ∷ front) back = ap (λ (bits : List ℕ). bits_of 8 byte ++ bits) (bit_string-append front back) ∙ sym (append_assoc (bits_of 8 byte) (bit_string front) (bit_string back))

pub length-bit_string : (bytes : List ℕ) → length (bit_string bytes) ≡ 8 * length bytes
length-bit_string [] = refl
length-bit_string (byte ∷ bytes) = length-append (bits_of 8 byte) (bit_string bytes) ∙ ap (λ (k : ℕ). 8 + k) (length-bit_string bytes) ∙ omega arith

-- zero bytes at the end
pub bit_string-zeros : (count : ℕ) → bit_string (replicate count 0) ≡ replicate (8 * count) 0
bit_string-zeros zero = refl
bit_string-zeros (suc count) =
    let more : 8 * suc count ≡ 8 + 8 * count = omega arith in rw more (ap (λ (bits : List ℕ). replicate 8 0 ++ bits) (bit_string-zeros count) ∙ replicate-append-replicate 8 (8 * count) 0)

-- bits and the bytes after them, up to the last 1
pub trimmed-zero_byte : (bits front : List ℕ) → trimmed (bits ++ bit_string (front ++ 0 ∷ [])) ≡ trimmed (bits ++ bit_string front)
trimmed-zero_byte bits front =
    rw (bit_string-append front (0 ∷ []), ← append_assoc bits (bit_string front) (replicate 8 0)) (trimmed-padded (bits ++ bit_string front) 8)

last_byte : (bits front : List ℕ) (last bit : ℕ) (kept : List ℕ) → trimmed (bits_of 8 last) ≡ bit ∷ kept → length (trimmed (bits ++ bit_string (front ++ last ∷ []))) ≡ length bits + 8 * length front + length (bit ∷ kept)
last_byte bits front last bit kept ends =
    let split : bits ++ bit_string (front ++ last ∷ []) ≡ (bits ++ bit_string front) ++ bits_of 8 last = ap (λ (b : List ℕ). bits ++ b) (bit_string-append front (last ∷ [])) ∙ sym (append_assoc bits (bit_string front) (bits_of 8 last)) in
    ap (λ (b : List ℕ). length (trimmed b)) split ∙ ap length (trimmed-kept (bits ++ bit_string front) (bits_of 8 last) bit kept ends) ∙ length-append (bits ++ bit_string front) (bit ∷ kept) ∙ ap (λ (k : ℕ). k + length (bit ∷ kept)) (length-append bits (bit_string front) ∙ ap (λ (k : ℕ). length bits + k) (length-bit_string front))

-- a list that is not empty has a first element
with_last : (bits front ends : List ℕ) (last : ℕ) → trimmed (bits_of 8 last) ≡ ends → 0 < length ends → length (trimmed (bits ++ bit_string (front ++ last ∷ []))) ≡ length bits + 8 * length front + length ends
with_last bits front [] last is some = absurd (omega arith)
with_last bits front (bit ∷ kept) last is some = last_byte bits front last bit kept is

unread-last : (left value last : ℕ) (front : List ℕ) → 0 < last → last < 256 → length (trimmed (bits_of left value ++ bit_string (front ++ last ∷ []))) ≡ left + 8 * length front + (8 - count_trailing_zeros 8 last)
unread-last left value last front some fits =
    let ends : length (trimmed (bits_of 8 last)) ≡ 8 - count_trailing_zeros 8 last = length-trimmed 8 8 last (omega arith) in
    let inside = (bit_at-trailing_zeros w8 last some fits).0 in
    with_last (bits_of left value) front (trimmed (bits_of 8 last)) last refl (omega (arith, ends, inside)) ∙ rw (ends, length-bits_of left value) refl

-- the same for the first `count` bytes of a list
take-last : (bytes : List ℕ) (count : ℕ) → 0 < count → count ≤ length bytes → take count bytes ≡ take (count - 1) bytes ++ get_or bytes (count - 1) 0 ∷ []
take-last bytes zero some within = absurd (omega arith)
take-last bytes (suc count) some within =
    let here : suc count ≡ count + 1 = omega arith in
    let before : suc count - 1 ≡ count = omega arith in
    rw before (ap (λ (k : ℕ). take k bytes) here ∙ take_more bytes count 0 (omega arith))

pub drop_zero : (bits bytes : List ℕ) (count : ℕ) → 0 < count → count ≤ length bytes → get_or bytes (count - 1) 0 ≡ 0 → trimmed (bits ++ bit_string (take (count - 1) bytes)) ≡ trimmed (bits ++ bit_string (take count bytes))
drop_zero bits bytes count some within is =
    sym (ap (λ (b : List ℕ). trimmed (bits ++ bit_string b)) (take-last bytes count some within ∙ ap (λ (last : ℕ). take (count - 1) bytes ++ last ∷ []) is) ∙ trimmed-zero_byte bits (take (count - 1) bytes))

pub unread-some : (left value : ℕ) (bytes : List ℕ) (count : ℕ) → 0 < count → count ≤ length bytes → 0 < get_or bytes (count - 1) 0 → get_or bytes (count - 1) 0 < 256 → length (trimmed (bits_of left value ++ bit_string (take count bytes))) ≡ left + 8 * (count - 1) + (8 - count_trailing_zeros 8 (get_or bytes (count - 1) 0))
unread-some left value bytes count some within last fits =
    let front : length (take (count - 1) bytes) ≡ count - 1 = length-take-le (count - 1) bytes (omega arith) in
    ap (λ (b : List ℕ). length (trimmed (bits_of left value ++ bit_string b))) (take-last bytes count some within) ∙ unread-last left value (get_or bytes (count - 1) 0) (take (count - 1) bytes) last fits ∙ rw front refl

pub unread-none : (left value : ℕ) → left ≤ 56 → length (trimmed (bits_of left value ++ [])) ≡ left - count_trailing_zeros 64 value
unread-none left value room = rw (append-nil (bits_of left value)) (length-trimmed 64 left value (omega arith))
