-- The filters on lanes.
use Rattle.std.specs.Prelude.{ℕ, ◌+◌, ◌-◌, ◌*◌, ◌/◌, ◌<◌, min, List, slice_index}
use Rattle.inter_predict.specs.declared.taps.Taps.{Taps}

-- the first n lanes hold samples
abbrev pub AreSamples : ℕ → List ℕ → Type 0
AreSamples n lanes = (lane : ℕ) → lane < n → slice_index lanes lane < 256

-- the sample that taps return for six samples
abbrev pub weighed_by : Taps → (a b c d e f : ℕ) → ℕ
weighed_by t a b c d e f = min ((a * t.a + c * t.c + d * t.d + f * t.f + 64 - (b * t.b + e * t.e)) / 128) 255
