-- Eight samples with their residuals, clamped to 0 to 255.
use Rattle.std.specs.Prelude.{replicate, slice_index, slice_index_or}
use Rattle.std.proofs.Common.{◌≡◌, ℕ, zero, suc, ◌+◌, ◌%◌, ◌<◌, ◌≤◌, cond, List, [], ◌∷◌, length, map, refl, ap, ◌∙◌, arith, ℤ, pos, ◌+ℤ◌, w8, w16, Fits, to_z, of_z}
use lib.Dec.{T}
use lib.IntN.{nat_abs}
use lib.Lanes.{Each1, zip2, sel_l, chunk, put_chunk, top}
use lib.Signed.{lt_z, non_neg}
use Rattle.std.proofs.lemmas.Simd.{Each1-from_get_or, length-chunk, length-zip2, get_or-chunk, get_or-zip2, length-put_chunk, get_or-put_chunk_at}
use Rattle.vp8_tables.specs.Bounds.{IsWithin, clamped_sample}
use Rattle.transforms.specs.Residuals.{IsRowAdded}
use Rattle.transforms.proofs.Held.{sum_asks, sum_is}
use Rattle.transforms.proofs.MovedRows.{same_lanes, kept}

abbrev below : ℕ → ℕ → ℕ
below a b = cond (lt_z (to_z w16 a) (to_z w16 b)) 65535 0

-- sums, and those of which none is below 0
abbrev sums : List ℕ → List ℤ → List ℕ
sums xs rs = zip2 (λ a b. (a + b) % 65536) (map (λ (a : ℕ). a) xs) (map (of_z w16) rs)

abbrev not_below : ℕ → List ℕ → List ℕ
not_below m ss = sel_l (map (top 15) (zip2 below ss (replicate m 0))) (replicate m 0) ss

abbrev clamped : ℕ → List ℕ → List ℕ
clamped m ss = sel_l (map (top 15) (zip2 below (not_below m ss) (replicate m 255))) (not_below m ss) (replicate m 255)

-- each clamped sum fits a sample
sums_fit : (m : ℕ) (xs : List ℕ) (rs : List ℤ) → length xs ≡ m → length rs ≡ m → Each1 (λ x. x < 256) xs → Each1 (IsWithin 16384) rs →
    Each1 (λ h. T (non_neg (to_z w16 h)) × Fits w8 (nat_abs (to_z w16 h))) (clamped m (sums xs rs))
sums_fit zero [] rs long long' small within = tt
sums_fit zero (x ∷ xs) rs long long' small within = absurd (omega (arith, long))
sums_fit (suc m) [] rs long long' small within = absurd (omega (arith, long))
sums_fit (suc m) (x ∷ xs) [] long long' small within = absurd (omega (arith, long'))
sums_fit (suc m) (x ∷ xs) (r ∷ rs) long long' small within = (sum_asks x r small.0 within.0, sums_fit m xs rs (omega (arith, long)) (omega (arith, long')) small.1 within.1)

abbrev added : List ℕ → List ℤ → List ℕ
added xs rs = zip2 (λ (x : ℕ) (r : ℤ). clamped_sample (pos x +ℤ r)) xs rs

sums_are : (m : ℕ) (xs : List ℕ) (rs : List ℤ) → length xs ≡ m → length rs ≡ m → Each1 (λ x. x < 256) xs → Each1 (IsWithin 16384) rs →
    map (λ h. nat_abs (to_z w16 h)) (clamped m (sums xs rs)) ≡ added xs rs
sums_are zero [] rs long long' small within = refl
sums_are zero (x ∷ xs) rs long long' small within = absurd (omega (arith, long))
sums_are (suc m) [] rs long long' small within = absurd (omega (arith, long))
sums_are (suc m) (x ∷ xs) [] long long' small within = absurd (omega (arith, long'))
sums_are (suc m) (x ∷ xs) (r ∷ rs) long long' small within = same_lanes _ _ _ _ (sum_is x r small.0 within.0) (sums_are m xs rs (omega (arith, long)) (omega (arith, long')) small.1 within.1)

module _ (old : List ℕ) (start : ℕ) (rs : List ℤ) (room : start + 8 ≤ length old) (long : length rs ≡ 8) (bytes : (k : ℕ) → slice_index old k < 256) (within : (column : ℕ) → column < 8 → IsWithin 16384 (slice_index_or rs column (pos 0))) where
  row_long : length (chunk start 8 old) ≡ 8
  row_long = length-chunk start 8 old room

  row_small : Each1 (λ (x : ℕ). x < 256) (chunk start 8 old)
  row_small = Each1-from_get_or (λ (x : ℕ). x < 256) (chunk start 8 old) 0 (λ k less. rw (get_or-chunk start 8 old k 0 (omega (arith, row_long, less))) (bytes (start + k)))

  all_within : Each1 (IsWithin 16384) rs
  all_within = Each1-from_get_or (IsWithin 16384) rs (pos 0) (λ k less. within k (omega (arith, long, less)))

  pub eight_fit : Each1 (λ h. T (non_neg (to_z w16 h)) × Fits w8 (nat_abs (to_z w16 h))) (clamped 8 (sums (chunk start 8 old) rs))
  eight_fit = sums_fit 8 (chunk start 8 old) rs row_long long row_small all_within

  line_long : length (added (chunk start 8 old) rs) ≡ 8
  line_long = length-zip2 (λ (x : ℕ) (r : ℤ). clamped_sample (pos x +ℤ r)) (chunk start 8 old) rs (omega (arith, row_long, long)) ∙ row_long

  row_put : IsRowAdded 8 rs start old (put_chunk start old (added (chunk start 8 old) rs))
  row_put = record {
    whole = length-put_chunk start old (added (chunk start 8 old) rs);
    each = λ column inside.
        get_or-put_chunk_at start old (added (chunk start 8 old) rs) column 0 (omega (arith, line_long, inside)) (omega (arith, line_long, room))
        ∙ get_or-zip2 (λ (x : ℕ) (r : ℤ). clamped_sample (pos x +ℤ r)) (chunk start 8 old) rs column 0 (pos 0) 0 (omega (arith, row_long, inside)) (omega (arith, long, inside))
        ∙ ap (λ (x : ℕ). clamped_sample (pos x +ℤ slice_index_or rs column (pos 0))) (get_or-chunk start 8 old column 0 inside);
    others = λ place beside. kept start old (added (chunk start 8 old) rs) place (rw line_long beside);
  }

  pub eight_added : IsRowAdded 8 rs start old (put_chunk start old (map (λ h. nat_abs (to_z w16 h)) (clamped 8 (sums (chunk start 8 old) rs))))
  eight_added = rw (sums_are 8 (chunk start 8 old) rs row_long long row_small all_within) row_put
