-- The directions of the modes of a sub block.
use Rattle.std.proofs.Common.{◌≡◌, ℕ, zero, suc, ◌+◌, ◌-◌, ◌<◌, refl, ap, arith}
use Rattle.intra_predict.specs.declared.modes.SubMode.TheVariants.{Ve, He, Ld, Rd, Vr, Vl, Hd, Hu}
use Rattle.intra_predict.specs.SubSample.{sub_sample, three_from, edge_at, above_at}
use Rattle.intra_predict.specs.SubLaws.{GoesRight, GoesLeft}

-- a fact at 0 and 1, or at 0 to 2, holds below the next number
below_two : (P : ℕ → Type 0) → P 0 → P 1 → (k : ℕ) → k < 2 → P k
below_two P at0 at1 zero less = at0
below_two P at0 at1 (suc zero) less = at1
below_two P at0 at1 (suc (suc k)) less = absurd (omega arith)

below_three : (P : ℕ → Type 0) → P 0 → P 1 → P 2 → (k : ℕ) → k < 3 → P k
below_three P at0 at1 at2 zero less = at0
below_three P at0 at1 at2 (suc zero) less = at1
below_three P at0 at1 at2 (suc (suc zero)) less = at2
below_three P at0 at1 at2 (suc (suc (suc k))) less = absurd (omega arith)

pub vertical : GoesRight Ve 0 1
unfolding sub_sample
vertical left above corner column row inside below =
    let same : column + 0 ≡ column = omega arith in
    ap (λ k. three_from (edge_at left corner above) (4 + k)) same

pub horizontal : GoesRight He 1 0
unfolding sub_sample
horizontal left above corner column row inside below =
    let same : row + 0 ≡ row = omega arith in
    ap (sub_sample He left corner above column) same

pub left_down : GoesLeft Ld 1 1
unfolding sub_sample
left_down left above corner column row inside below =
    let same : column + (row + 1) ≡ column + 1 + row = omega arith in
    ap (three_from (above_at above)) same

pub right_down : GoesRight Rd 1 1
unfolding sub_sample
right_down left above corner column row inside below =
    let same : 3 + (column + 1) - (row + 1) ≡ 3 + column - row = omega arith in
    ap (three_from (edge_at left corner above)) same

pub vertical_right : GoesRight Vr 1 2
unfolding sub_sample
vertical_right left above corner column row inside below =
    let Same : ℕ → ℕ → Type 0 = λ (c r : ℕ). sub_sample Vr left corner above (c + 1) (r + 2) ≡ sub_sample Vr left corner above c r in
    below_three (λ c. Same c row) (below_two (λ r. Same 0 r) refl refl row (omega arith)) (below_two (λ r. Same 1 r) refl refl row (omega arith)) (below_two (λ r. Same 2 r) refl refl row (omega arith)) column (omega arith)

pub vertical_left : GoesLeft Vl 1 2
unfolding sub_sample
vertical_left left above corner column row inside below =
    let Same : ℕ → ℕ → Type 0 = λ (c r : ℕ). sub_sample Vl left corner above c (r + 2) ≡ sub_sample Vl left corner above (c + 1) r in
    below_three (λ c. Same c row) (below_two (λ r. Same 0 r) refl refl row (omega arith)) (below_two (λ r. Same 1 r) refl refl row (omega arith)) (below_two (λ r. Same 2 r) refl refl row (omega arith)) column (omega arith)

pub horizontal_down : GoesRight Hd 2 1
unfolding sub_sample
horizontal_down left above corner column row inside below =
    let Same : ℕ → ℕ → Type 0 = λ (c r : ℕ). sub_sample Hd left corner above (c + 2) (r + 1) ≡ sub_sample Hd left corner above c r in
    below_two (λ c. Same c row) (below_three (λ r. Same 0 r) refl refl refl row (omega arith)) (below_three (λ r. Same 1 r) refl refl refl row (omega arith)) column (omega arith)

pub horizontal_up : GoesLeft Hu 2 1
unfolding sub_sample
horizontal_up left above corner column row inside below =
    let Same : ℕ → ℕ → Type 0 = λ (c r : ℕ). sub_sample Hu left corner above c (r + 1) ≡ sub_sample Hu left corner above (c + 2) r in
    below_two (λ c. Same c row) (below_three (λ r. Same 0 r) refl refl refl row (omega arith)) (below_three (λ r. Same 1 r) refl refl refl row (omega arith)) column (omega arith)
