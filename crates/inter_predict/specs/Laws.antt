-- Properties of the filters (RFC 6386, section 18.3).
use Rattle.std.specs.Prelude.{◌≡◌, ℕ, ◌<◌, List, [], ◌∷◌, ◌++◌, slice_index, slice_index_or, ℤ, pos, negsuc, ◌+ℤ◌, ◌*ℤ◌}
use Rattle.vp8_tables.specs.declared.filters.TheConstants.{SIX_TAP_FILTERS}
use Rattle.pixel_planes.specs.Samples.{Samples}
use Rattle.pixel_planes.specs.ReferenceSamples.{reference_sample}
use Rattle.inter_predict.specs.declared.kinds.Kind.{Kind}
use Rattle.inter_predict.specs.InterSample.{weighed, between, inter_sample}

-- the taps of each filter add up to 128
abbrev pub TapsAddUp : Type 0
TapsAddUp = (eighths : ℕ) → eighths < 8 → weighed (slice_index_or SIX_TAP_FILTERS eighths []) (λ k. 1) ≡ pos 128

-- between samples of one value lies that value
abbrev pub KeepsOneValue : Type 0
KeepsOneValue = (kind : Kind) (eighths value : ℕ) (place : ℤ) → eighths < 8 → value < 256 → between kind eighths (λ k. value) place ≡ value

-- a vector of whole samples takes the reference sample there as it is
abbrev pub CopiesWhole : Type 0
CopiesWhole =
    (kind : Kind) (p : Samples) (x y right below : ℤ) → ((column row : ℤ) → reference_sample p column row < 256) →
    inter_sample kind p x y (right *ℤ pos 8) (below *ℤ pos 8) ≡ reference_sample p (x +ℤ right) (y +ℤ below)

-- a line that begins with these samples
abbrev pub line_of : List ℕ → ℤ → ℕ
line_of samples (pos place) = slice_index samples place
line_of samples (negsuc before) = 0

-- three rows whose middle is 255, above three rows whose first two samples are
abbrev pub worked_plane : Samples
worked_plane =
    let upper = 0 ∷ 0 ∷ 255 ∷ 255 ∷ 0 ∷ 0 ∷ [] in
    let lower = 255 ∷ 255 ∷ 0 ∷ 0 ∷ 0 ∷ 0 ∷ [] in
    record { width = 6; height = 6; samples = upper ++ upper ++ upper ++ lower ++ lower ++ lower }
