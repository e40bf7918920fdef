-- What a filter down makes of lines that were kept.
use Rattle.std.specs.Prelude.{slice_index, slice_index_or}
use Rattle.std.proofs.Common.{◌≡◌, ℕ, ◌+◌, ◌<◌, ◌≤◌, List, [], refl, arith}
use Rattle.inter_predict.specs.declared.taps.Taps.{Taps}
use Rattle.inter_predict.specs.Kernels.{IsLine, IsStrip, tapped, tapped_from}
use Rattle.inter_predict.proofs.Twice.{same_strip}

-- taps return one sample for equal samples
tapped_same : (t : Taps) (s s' : ℕ → ℕ) → ((k : ℕ) → k < 6 → s k ≡ s' k) → tapped t s ≡ tapped t s'
unfolding tapped
tapped_same t s s' same = rw (same 0 (omega arith), same 1 (omega arith), same 2 (omega arith), same 3 (omega arith), same 4 (omega arith), same 5 (omega arith)) refl

-- a strip of them is one of the lines' samples
pub kept_strip : (n : ℕ) (down : Taps) (sample : ℕ → ℕ → ℕ) (kept : List (List ℕ)) (from first width height stride : ℕ) (old new : List ℕ) → from + width ≤ n → ((number : ℕ) → number < height + 5 → IsLine n (sample number) (slice_index_or kept number []))
    → IsStrip (λ column row. tapped_from down (λ number lane. slice_index (slice_index_or kept number []) lane) (from + column) row) first width height stride old new → IsStrip (λ column row. tapped_from down sample (from + column) row) first width height stride old new
kept_strip n down sample kept from first width height stride old new fits lines strip =
    same_strip (λ column row. tapped_from down (λ number lane. slice_index (slice_index_or kept number []) lane) (from + column) row) (λ column row. tapped_from down sample (from + column) row) first width height stride old new strip
    (λ column row inside below. tapped_same down _ _ (λ k less. (lines (row + k) (omega arith)).value (from + column) (omega arith)))

-- the same from the first lane on
pub kept_front : (n : ℕ) (down : Taps) (sample : ℕ → ℕ → ℕ) (kept : List (List ℕ)) (first width height stride : ℕ) (old new : List ℕ) → width ≤ n → ((number : ℕ) → number < height + 5 → IsLine n (sample number) (slice_index_or kept number []))
    → IsStrip (tapped_from down (λ number lane. slice_index (slice_index_or kept number []) lane)) first width height stride old new → IsStrip (tapped_from down sample) first width height stride old new
kept_front n down sample kept first width height stride old new fits lines strip =
    same_strip (tapped_from down (λ number lane. slice_index (slice_index_or kept number []) lane)) (tapped_from down sample) first width height stride old new strip
    (λ column row inside below. tapped_same down _ _ (λ k less. (lines (row + k) (omega arith)).value column (omega arith)))
