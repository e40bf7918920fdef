-- Bytes, read as a little-endian number and written again, are the same bytes.
use Rattle.std.proofs.Common.{◌≡◌, ℕ, zero, suc, ◌+◌, ◌*◌, ◌^◌, ◌/◌, ◌<◌, ◌≤◌, List, [], ◌∷◌, length, take, refl, sym, ap, ◌∙◌, arith, append-nil}
use Rattle.std.proofs.Math.Nat.{mod-lt}
use Rattle.std.proofs.lemmas.List.{length-take-le}
use Rattle.std.specs.Int.{byte_at, bytes_low_first}
use Rattle.byteorder.specs.Endian.{little_from, little_number, little_bytes}
use Rattle.byteorder.specs.Numbers.{little_from-cons, little_from-lt, little_from-take, little_number-reads_back, length-bytes_low_first}
use Rattle.stream_files.specs.Texts.{IsBytes}

-- each of them is a byte
abbrev AllBytes : List ℕ → Type 0
AllBytes [] = Unit {0}
AllBytes (x ∷ xs) = (x < 256) × AllBytes xs

byte_at-lt : (i x : ℕ) → byte_at i x < 256
byte_at-lt zero x = mod-lt x (omega arith)
byte_at-lt (suc i) x = mod-lt (x / 256 ^ suc i) (omega arith)

bytes_low_first-bytes : (i n x : ℕ) → AllBytes (bytes_low_first i n x)
bytes_low_first-bytes i zero x = tt
bytes_low_first-bytes i (suc n) x = (byte_at-lt i x, bytes_low_first-bytes (suc i) n x)

take-bytes : (n : ℕ) (xs : List ℕ) → IsBytes xs → AllBytes (take n xs)
take-bytes zero xs h = tt
take-bytes (suc n) [] h = tt
take-bytes (suc n) (x ∷ xs) h = (h 0, take-bytes n xs (λ i. h (suc i)))

-- two numbers of as many bytes are equal only if their bytes are
same_bytes : (xs ys : List ℕ) → length xs ≡ length ys → AllBytes xs → AllBytes ys → little_from 0 (length xs) xs ≡ little_from 0 (length xs) ys → xs ≡ ys
same_bytes [] [] len h k e = refl
same_bytes [] (y ∷ ys) len h k e = absurd (omega (arith, len))
same_bytes (x ∷ xs) [] len h k e = absurd (omega (arith, len))
same_bytes (x ∷ xs) (y ∷ ys) len h k e =
    let left : little_from 1 (length xs) (x ∷ xs) ≡ little_from 0 (length xs) xs = little_from-cons 0 (length xs) x xs in
    let right : little_from 1 (length xs) (y ∷ ys) ≡ little_from 0 (length xs) ys = little_from-cons 0 (length xs) y ys in
    let whole : x + 256 * little_from 1 (length xs) (x ∷ xs) ≡ y + 256 * little_from 1 (length xs) (y ∷ ys) = e in
    let low : x < 256 = h.0 in
    let low' : y < 256 = k.0 in
    let first : x ≡ y = omega arith in
    let others : little_from 0 (length xs) xs ≡ little_from 0 (length xs) ys = omega arith in
    let ih : xs ≡ ys = same_bytes xs ys (omega (arith, len)) h.1 k.1 others in
    cc

-- the number of the first n bytes has these bytes
pub little_bytes-number : (n : ℕ) (xs : List ℕ) → IsBytes xs → n ≤ length xs → little_bytes n (little_number n xs) ≡ take n xs
little_bytes-number n xs h long =
    let x = little_number n xs in
    let len : length (bytes_low_first 0 n x) ≡ n = length-bytes_low_first 0 n x in
    let len' : length (take n xs) ≡ n = length-take-le n xs long in
    let back : little_from 0 n (bytes_low_first 0 n x) ≡ x = ap (little_from 0 n) (sym (append-nil (bytes_low_first 0 n x))) ∙ little_number-reads_back n x [] (little_from-lt 0 n xs h) in
    let there : little_from 0 n (take n xs) ≡ x = little_from-take 0 n n xs (omega arith) in
    same_bytes (bytes_low_first 0 n x) (take n xs) (omega (arith, len, len')) (bytes_low_first-bytes 0 n x) (take-bytes n xs h) (rw len (back ∙ sym there))
