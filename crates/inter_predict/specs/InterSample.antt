-- The samples that inter prediction takes from a reference plane (RFC 6386, section 18).
use Rattle.std.specs.Prelude.{ℕ, ◌+◌, ◌-◌, ◌%◌, List, [], ◌∷◌, map, slice_index_or, ℤ, pos, negsuc, ◌+ℤ◌, ◌-ℤ◌, ◌*ℤ◌}
use Rattle.std.specs.Int.{int_shr}
use Rattle.vp8_tables.specs.Bounds.{clamped_sample}
use Rattle.vp8_tables.specs.declared.filters.TheConstants.{SIX_TAP_FILTERS, BILINEAR_FILTERS}
use Rattle.pixel_planes.specs.Samples.{Samples}
use Rattle.pixel_planes.specs.ReferenceSamples.{reference_sample}
use Rattle.inter_predict.specs.declared.kinds.Kind.{Kind}
use Rattle.inter_predict.specs.declared.kinds.Kind.TheVariants.{SixTap, Bilinear}

-- the whole samples in a number of eighths of a sample, rounded down
abbrev pub whole_part : ℤ → ℤ
whole_part eighths = int_shr eighths 3

-- the remaining eighths, 0 to 7
abbrev pub fraction : ℤ → ℕ
fraction (pos n) = n % 8
fraction (negsuc n) = 7 - n % 8

-- the sum of each tap times its sample
abbrev pub weighed : List ℤ → (ℕ → ℕ) → ℤ
weighed [] samples = pos 0
weighed (tap ∷ taps) samples = (tap *ℤ pos (samples 0)) +ℤ weighed taps (λ k. samples (k + 1))

-- the filtered sample: taps in 128ths times their samples, rounded, and clamped to 0..255 (section 18.3)
unfoldable pub filtered : List ℤ → (ℕ → ℕ) → ℕ
filtered taps samples = clamped_sample (int_shr (weighed taps samples +ℤ pos 64) 7)

-- the sample a fraction of eighths after a position on a line of samples: six taps start two samples before the position, two taps at the position (section 18.3)
unfoldable pub between : Kind → ℕ → (ℤ → ℕ) → ℤ → ℕ
between SixTap fraction line place = filtered (slice_index_or SIX_TAP_FILTERS fraction []) (λ k. line ((place -ℤ pos 2) +ℤ pos k))
between Bilinear fraction line place = filtered (map pos (slice_index_or BILINEAR_FILTERS fraction [])) (λ k. line (place +ℤ pos k))

-- the sample of a row a number of eighths to the right of a position
abbrev pub across : Kind → Samples → ℤ → ℤ → ℤ → ℕ
across kind p x right row = between kind (fraction right) (λ column. reference_sample p column row) (x +ℤ whole_part right)

-- the sample that a vector, in eighths to the right and below, predicts at column x of row y: filtered across, and then down
unfoldable pub inter_sample : Kind → Samples → ℤ → ℤ → ℤ → ℤ → ℕ
inter_sample kind p x y right below = between kind (fraction below) (across kind p x right) (y +ℤ whole_part below)

-- the sample that a vector predicts in a column of a row of a block at (x, y)
abbrev pub predicted : Kind → Samples → ℤ → ℤ → ℤ → ℤ → ℕ → ℕ → ℕ
predicted kind p x y right below column row = inter_sample kind p (x +ℤ pos column) (y +ℤ pos row) right below
