-- A byte with bit 4 set or cleared, and packets of which only the first byte differs.
use Rattle.std.proofs.Common.{◌≡◌, ℕ, zero, suc, ◌+◌, ◌*◌, ◌/◌, ◌%◌, ◌<◌, ◌≤◌, Bool, true, false, List, [], ◌∷◌, length, drop, refl, sym, ap, ◌∙◌, arith, inl, inr, if◌then◌else◌}
use Rattle.std.specs.Prelude.{slice_index, slice_set}
use Rattle.std.proofs.lemmas.Bool.{le-leb, lt-leb, cases_lt}
use Rattle.frame_header.specs.ShowBits.{byte_showing, has_show_bit, with_show_bit}

-- bit 4 as a number
abbrev pub bit_of : Bool → ℕ
bit_of shown = if shown then 1 else 0

pub showing-is : (shown : Bool) (byte : ℕ) → byte_showing shown byte ≡ byte / 32 * 32 + byte % 16 + 16 * bit_of shown
showing-is true byte = omega arith
showing-is false byte = omega arith

showing-low : (shown : Bool) (byte : ℕ) → byte_showing shown byte % 16 ≡ byte % 16
showing-low true byte = omega arith
showing-low false byte = omega arith

showing-high : (shown : Bool) (byte : ℕ) → byte_showing shown byte / 32 ≡ byte / 32
showing-high true byte = omega arith
showing-high false byte = omega arith

showing-last : (before shown : Bool) (byte : ℕ) → byte_showing shown (byte_showing before byte) ≡ byte_showing shown byte
showing-last before true byte = let low = showing-low before byte in let high = showing-high before byte in rw (low, high) refl
showing-last before false byte = let low = showing-low before byte in let high = showing-high before byte in rw (low, high) refl

-- a packet of three bytes or more, with its show bit changed
pub with-cons : (shown : Bool) (a b c : ℕ) (rest : List ℕ) → with_show_bit shown (a ∷ b ∷ c ∷ rest) ≡ byte_showing shown a ∷ b ∷ c ∷ rest
with-cons shown a b c rest =
    let long : has_show_bit (a ∷ b ∷ c ∷ rest) ≡ true = le-leb 3 (length (a ∷ b ∷ c ∷ rest)) (omega arith) in
    ap (λ (has : Bool). if has then slice_set (a ∷ b ∷ c ∷ rest) 0 (byte_showing shown (slice_index (a ∷ b ∷ c ∷ rest) 0)) else a ∷ b ∷ c ∷ rest) long

-- a shorter one is unchanged
pub with-short : (shown : Bool) (packet : List ℕ) → length packet < 3 → with_show_bit shown packet ≡ packet
with-short shown packet short =
    let none : has_show_bit packet ≡ false = lt-leb 3 (length packet) short in
    ap (λ (has : Bool). if has then slice_set packet 0 (byte_showing shown (slice_index packet 0)) else packet) none

-- the shape of a packet of three bytes or more
pub record HasThree (packet : List ℕ) : Type 0 where
  pub first : ℕ
  pub second : ℕ
  pub third : ℕ
  pub rest : List ℕ
  pub is : packet ≡ first ∷ second ∷ third ∷ rest

pub has_three : (packet : List ℕ) → 3 ≤ length packet → HasThree packet
has_three [] enough = absurd (omega arith)
has_three (a ∷ []) enough = absurd (omega arith)
has_three (a ∷ b ∷ []) enough = absurd (omega arith)
has_three (a ∷ b ∷ c ∷ rest) enough = record { first = a; second = b; third = c; rest = rest; is = refl }

pub bit-cons : (a b c : ℕ) (rest : List ℕ) → has_show_bit (a ∷ b ∷ c ∷ rest) ≡ true
bit-cons a b c rest = le-leb 3 (length (a ∷ b ∷ c ∷ rest)) (omega arith)

last_long : (before shown : Bool) (packet : List ℕ) → HasThree packet → with_show_bit shown (with_show_bit before packet) ≡ with_show_bit shown packet
last_long before shown packet h =
    let a : ℕ = h.first in
    let changed : with_show_bit before packet ≡ byte_showing before a ∷ h.second ∷ h.third ∷ h.rest = ap (with_show_bit before) h.is ∙ with-cons before a h.second h.third h.rest in
    ap (with_show_bit shown) changed
    ∙ with-cons shown (byte_showing before a) h.second h.third h.rest
    ∙ ap (λ (byte : ℕ). byte ∷ h.second ∷ h.third ∷ h.rest) (showing-last before shown a)
    ∙ sym (ap (with_show_bit shown) h.is ∙ with-cons shown a h.second h.third h.rest)

pub last_bit : (before shown : Bool) (packet : List ℕ) → with_show_bit shown (with_show_bit before packet) ≡ with_show_bit shown packet
last_bit before shown packet = elim (cases_lt (length packet) 3) [
  | inl short ↦ ap (with_show_bit shown) (with-short before packet short)
  | inr enough ↦ last_long before shown packet (has_three packet enough)
]
