-- The parts of the formulas of intra prediction (RFC 6386, section 12).
use Rattle.std.specs.Prelude.{ℕ, ◌+◌, ◌*◌, ◌/◌, List, [], ◌∷◌, length, sum, pos, ◌-ℤ◌}
use Rattle.vp8_tables.specs.Bounds.{clamped_sample}

-- the mean of two samples, rounded
unfoldable pub mean_of_two : ℕ → ℕ → ℕ
mean_of_two a b = (a + b + 1) / 2

-- the mean of three samples of which the middle one counts twice, rounded
unfoldable pub mean_of_three : ℕ → ℕ → ℕ → ℕ
mean_of_three a b c = (a + 2 * b + c + 2) / 4

-- the mean of samples, rounded, and 128 if there are none
unfoldable pub mean_of : List ℕ → ℕ
mean_of [] = 128
mean_of (x ∷ xs) = (sum (x ∷ xs) + length (x ∷ xs) / 2) / length (x ∷ xs)

-- the prediction of mode TM: left + above - corner, clamped to 0..255
unfoldable pub gradient : ℕ → ℕ → ℕ → ℕ
gradient left above corner = clamped_sample (pos (left + above) -ℤ pos corner)
