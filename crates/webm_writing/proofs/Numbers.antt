-- Numbers that are written are read.
use Rattle.std.proofs.Common.{◌≡◌, ℕ, ◌+◌, List, ◌++◌, length, drop, refl, ap, ◌∙◌, arith}
use Rattle.std.specs.Int.{byte_at}
use Rattle.byteorder.specs.Endian.{big_bytes, big_number}
use Rattle.byteorder.specs.Numbers.{big_number-reads_back}
use Rattle.webm_files.specs.Elements.{width, marked}
use Rattle.webm_files.proofs.WrittenHeads.{zeros_are}
use Rattle.webm_writing.specs.Pieces.{IsMarked}

-- a number at the front, of so many bytes
pub record IsRead (size number : ℕ) (tail text : List ℕ) : Type 0 where
  pub width : width text ≡ size
  pub value : marked text ≡ number
  pub long : length text ≡ size + length tail
  pub rest : drop size text ≡ tail

pub read_1 : (x : ℕ) (tail : List ℕ) → IsMarked 1 x → IsRead 1 x tail (big_bytes 1 x ++ tail)
read_1 x tail m =
    let one : width (big_bytes 1 x ++ tail) ≡ 1 = ap (λ z. z + 1) (zeros_are (byte_at 0 x) 0 8 refl (omega (arith, m.low, m.high)) (omega (arith, m.low, m.high))) in
    record { width = one; value = ap (λ k. big_number k (big_bytes 1 x ++ tail)) one ∙ big_number-reads_back 1 x tail (omega (arith, m.high)); long = omega arith; rest = refl }

pub read_2 : (x : ℕ) (tail : List ℕ) → IsMarked 2 x → IsRead 2 x tail (big_bytes 2 x ++ tail)
read_2 x tail m =
    let two : width (big_bytes 2 x ++ tail) ≡ 2 = ap (λ z. z + 1) (zeros_are (byte_at 1 x) 1 7 refl (omega (arith, m.low, m.high)) (omega (arith, m.low, m.high))) in
    record { width = two; value = ap (λ k. big_number k (big_bytes 2 x ++ tail)) two ∙ big_number-reads_back 2 x tail (omega (arith, m.high)); long = omega arith; rest = refl }

pub read_3 : (x : ℕ) (tail : List ℕ) → IsMarked 3 x → IsRead 3 x tail (big_bytes 3 x ++ tail)
read_3 x tail m =
    let three : width (big_bytes 3 x ++ tail) ≡ 3 = ap (λ z. z + 1) (zeros_are (byte_at 2 x) 2 6 refl (omega (arith, m.low, m.high)) (omega (arith, m.low, m.high))) in
    record { width = three; value = ap (λ k. big_number k (big_bytes 3 x ++ tail)) three ∙ big_number-reads_back 3 x tail (omega (arith, m.high)); long = omega arith; rest = refl }

pub read_4 : (x : ℕ) (tail : List ℕ) → IsMarked 4 x → IsRead 4 x tail (big_bytes 4 x ++ tail)
read_4 x tail m =
    let four : width (big_bytes 4 x ++ tail) ≡ 4 = ap (λ z. z + 1) (zeros_are (byte_at 3 x) 3 5 refl (omega (arith, m.low, m.high)) (omega (arith, m.low, m.high))) in
    record { width = four; value = ap (λ k. big_number k (big_bytes 4 x ++ tail)) four ∙ big_number-reads_back 4 x tail (omega (arith, m.high)); long = omega arith; rest = refl }

pub read_8 : (x : ℕ) (tail : List ℕ) → IsMarked 8 x → IsRead 8 x tail (big_bytes 8 x ++ tail)
read_8 x tail m =
    let eight : width (big_bytes 8 x ++ tail) ≡ 8 = ap (λ z. z + 1) (zeros_are (byte_at 7 x) 7 1 refl (omega (arith, m.low, m.high)) (omega (arith, m.low, m.high))) in
    record { width = eight; value = ap (λ k. big_number k (big_bytes 8 x ++ tail)) eight ∙ big_number-reads_back 8 x tail (omega (arith, m.high)); long = omega arith; rest = refl }
