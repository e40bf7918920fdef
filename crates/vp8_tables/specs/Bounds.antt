-- Bounds of numbers, for the crates that decode.
use Rattle.std.specs.Prelude.{ℕ, ℤ, pos, negsuc, neg_ℤ, ◌≤ℤ◌, min}

-- no further from 0 than n
abbrev pub IsWithin : ℕ → ℤ → Type 0
IsWithin n z = (neg_ℤ (pos n) ≤ℤ z) × (z ≤ℤ pos n)

-- a number clamped to 0..255, as samples are
abbrev pub clamped_sample : ℤ → ℕ
clamped_sample (pos n) = min n 255
clamped_sample (negsuc n) = 0
