-- The four low bytes of a number are the bytes of its low 32 bits.
use Rattle.std.proofs.Common.{◌≡◌, ℕ, ◌/◌, ◌%◌, List, [], ◌∷◌, arith}
use Rattle.byteorder.specs.Endian.{little_bytes}

four : (a b c d a' b' c' d' : ℕ) → a ≡ a' → b ≡ b' → c ≡ c' → d ≡ d' → ◌≡◌ {A = List ℕ} (a ∷ b ∷ c ∷ d ∷ []) (a' ∷ b' ∷ c' ∷ d' ∷ [])
four a b c d a' b' c' d' p q r s = cc

pub low_bytes : (n : ℕ) → little_bytes 4 (n % 4294967296) ≡ little_bytes 4 n
low_bytes n =
    four (n % 4294967296 % 256) (n % 4294967296 / 256 % 256) (n % 4294967296 / 65536 % 256) (n % 4294967296 / 16777216 % 256) (n % 256) (n / 256 % 256) (n / 65536 % 256) (n / 16777216 % 256)
    (omega arith) (omega arith) (omega arith) (omega arith)
