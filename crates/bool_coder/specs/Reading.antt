use Rattle.std.specs.Prelude.{ℕ, ◌+◌, ◌*◌, zero, suc, Bool, ℤ, pos, neg_ℤ, if◌then◌else◌}
use Rattle.std.specs.Int.{from_bool}
use Rattle.bool_coder.specs.Reader.{Reader, read}

-- a reading returns a value and the reader after it
abbrev pub Reading : Type 0 → Type 0
Reading A = Reader → A × Reader

-- one reading, then the next
infixl 10 ◌>>=◌
abbrev pub ◌>>=◌ : {A B : Type 0} → Reading A → (A → Reading B) → Reading B
first >>= next = λ r. next (first r).0 (first r).1

-- a value, without reading anything
abbrev pub give : {A : Type 0} → A → Reading A
give x = λ r. (x, r)

-- a flag is one bit at even odds
abbrev pub flag : Reading Bool
flag = read 128

-- the number whose bits follow those of `value`
unfoldable pub more_bits : ℕ → ℕ → Reading ℕ
more_bits zero value = give value
more_bits (suc count) value = do
  bit ← flag
  more_bits count (2 * value + from_bool bit)

-- L(n): a number of n bits, most significant first (`read_literal` in RFC 6386, section 8)
unfoldable pub literal : ℕ → Reading ℕ
literal count = more_bits count 0

-- S(n): a flag, and if it is set a magnitude of n bits and a sign, where 1 is minus; an absent number is 0 (RFC 6386, section 9.3)
unfoldable pub signed : ℕ → Reading ℤ
signed count = do
  is_present ← flag
  if is_present then (do
    magnitude ← literal count
    is_minus ← flag
    give (if is_minus then neg_ℤ (pos magnitude) else pos magnitude)) else give (pos 0)
