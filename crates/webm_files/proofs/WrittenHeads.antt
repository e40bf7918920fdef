-- Heads that are written are read.
use Rattle.std.proofs.Common.{◌≡◌, ℕ, ◌+◌, ◌*◌, ◌%◌, ◌^◌, ◌<◌, ◌≤◌, List, ◌∷◌, ◌++◌, length, drop, refl, sym, ap, ◌∙◌, arith}
use Rattle.std.specs.Int.{w8, leading_zeros, byte_at}
use Rattle.std.specs.Int.Count.{leading_unique}
use Rattle.byteorder.specs.Endian.{big_number}
use Rattle.byteorder.specs.Numbers.{big_number-reads_back}
use Rattle.webm_files.specs.Elements.{HasHead, IsSized, width, unmarked, after_number, id_of, head_size, content_size}
use Rattle.webm_files.specs.Texts.{size_text}

-- how many zero bits a byte begins with
pub zeros_are : (b r m : ℕ) → r + m ≡ 8 → b < 2 ^ m → 2 ^ m ≤ 2 * b + 1 → leading_zeros w8 b ≡ r
zeros_are b r m e h l = sym (leading_unique 8 b r m e h l)

-- a head of a name of one byte and a length of four
pub record IsHead (text : List ℕ) (id n : ℕ) (tail : List ℕ) : Type 0 where
  pub head : HasHead text
  pub name : id_of text ≡ id
  pub start : head_size text ≡ 5
  pub size : content_size text ≡ n
  pub sized : IsSized text
  pub long : length text ≡ 5 + length tail
  pub rest : drop 5 text ≡ tail

first_of_size : (n : ℕ) → n < 268435456 → (byte_at 3 (268435456 + n) < 32) × (32 ≤ 2 * byte_at 3 (268435456 + n) + 1)
first_of_size n few = (omega arith, omega arith)

rest_of : (n : ℕ) → n < 268435456 → (268435456 + n) % 268435456 ≡ n
rest_of n few = omega arith

pub head_read : (id n : ℕ) (tail : List ℕ) → 128 ≤ id → id < 256 → n + 1 < 268435456 → IsHead (id ∷ (size_text n ++ tail)) id n tail
head_read id n tail low high few =
    let text : List ℕ = id ∷ (size_text n ++ tail) in
    let following : List ℕ = size_text n ++ tail in
    let x : ℕ = 268435456 + n in
    let one : width text ≡ 1 = ap (λ z. z + 1) (zeros_are id 0 8 refl high (omega arith)) in
    let few' : n < 268435456 = omega arith in
    let byte = first_of_size n few' in
    let four : width following ≡ 4 = ap (λ z. z + 1) (zeros_are (byte_at 3 x) 3 5 refl byte.0 byte.1) in
    let after : after_number text ≡ following = ap (λ k. drop k text) one in
    let second : width (after_number text) ≡ 4 = ap width after ∙ four in
    let name : big_number 1 text ≡ id = omega arith in
    let number : big_number 4 following ≡ x = big_number-reads_back 4 x tail (omega arith) in
    let size : content_size text ≡ n = ap unmarked after ∙ ap (λ k. big_number k following % 128 ^ k) four ∙ ap (λ m. m % 268435456) number ∙ rest_of n few' in
    let long : length text ≡ 5 + length tail = omega arith in
    let left : length (after_number text) ≡ 4 + length tail = ap length after ∙ (omega arith) in
    record {
      head = ((omega (arith, one), omega (arith, one, long)), (omega (arith, second), omega (arith, second, left)));
      name = ap (λ k. big_number k text) one ∙ name;
      start = omega (arith, one, second);
      size = size;
      sized = rw (size, second) (omega arith);
      long = long;
      rest = refl;
    }
