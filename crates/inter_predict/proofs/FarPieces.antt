-- Blocks that are predicted at whole samples, in pieces.
use Rattle.std.specs.Prelude.{slice_index, min}
use Rattle.std.proofs.Common.{◌≡◌, inl, inr, ℕ, zero-add, add-zero, ◌+◌, ◌*◌, ◌/◌, ◌%◌, ◌<◌, ◌≤◌, List, length, ℤ, pos, negsuc, ◌+ℤ◌, ◌-ℤ◌, ◌≤ℤ◌, refl, ap, subst, sym, ◌∙◌, arith, to_z, of_z, w32, w64, FitsSigned}
use Rattle.std.proofs.Math.Nat.{mul_comm, mul-le-mul_right}
use Rattle.std.proofs.lemmas.Bool.{cases_lt}
use Rattle.std.proofs.lemmas.List.{get_or_past}
use Rattle.std.proofs.lemmas.Int.{ints, to_z-of_z}
use Rattle.vp8_tables.specs.Bounds.{IsWithin}
use Rattle.pixel_planes.specs.Samples.{Samples, sample_at}
use Rattle.pixel_planes.specs.ReferenceSamples.{clamped_coordinate, reference_sample, IsWindow}
use Rattle.inter_predict.specs.declared.kinds.Kind.{Kind}
use Rattle.inter_predict.specs.declared.kinds.Kind.TheVariants.{SixTap, Bilinear}
use Rattle.inter_predict.specs.declared.taps.Taps.{Taps}
use Rattle.inter_predict.specs.Blocks.{IsBlockIn}
use Rattle.inter_predict.specs.InterSample.{whole_part, fraction, between, across, inter_sample, predicted}
use Rattle.inter_predict.specs.Kernels.{AreTapsOf, IsNear, Predicts, six_taps}
use Rattle.inter_predict.proofs.Predicted.{block_of_strip, two_further}
use Rattle.inter_predict.proofs.TapSums.{six_between, two_taps, two_between}
use Rattle.inter_predict.proofs.Twice.{tapped_same}

-- past a side all coordinates are its last
far_place : (side : ℕ) (a b : ℤ) → pos side ≤ℤ a → pos side ≤ℤ b → clamped_coordinate side a ≡ clamped_coordinate side b
far_place side (pos m) (pos n) far far' = omega (arith, ints)
far_place side (pos m) (negsuc n) far far' = absurd (omega (arith, ints))
far_place side (negsuc m) b far far' = absurd (omega (arith, ints))

-- a filter reads six samples
between_same : (kind : Kind) (eighths : ℕ) → eighths < 8 → (line other : ℤ → ℕ) (place place' : ℤ) → ((k : ℕ) → k < 6 → line ((place -ℤ pos 2) +ℤ pos k) ≡ other ((place' -ℤ pos 2) +ℤ pos k)) → between kind eighths line place ≡ between kind eighths other place'
between_same SixTap eighths less line other place place' same = six_between eighths less line place ∙ tapped_same (six_taps eighths) _ _ same ∙ sym (six_between eighths less other place')
between_same Bilinear eighths less line other place place' same = two_between eighths less line place ∙ tapped_same (two_taps eighths) _ _ same ∙ sym (two_between eighths less other place')

-- at two coordinates along a side the same six samples are read
abbrev pub AreAlike : ℕ → ℤ → ℤ → Type 0
AreAlike side a b = (k : ℕ) → k < 6 → clamped_coordinate side ((a -ℤ pos 2) +ℤ pos k) ≡ clamped_coordinate side ((b -ℤ pos 2) +ℤ pos k)

-- fewer than 8 eighths have no whole sample
no_whole : (eighths : ℕ) → eighths < 8 → (z : ℤ) → z +ℤ whole_part (pos eighths) ≡ z
no_whole eighths less z = omega (arith, ints)

alike_behind : (side eighths : ℕ) (a b : ℤ) → eighths < 8 → AreAlike side a b → AreAlike side (a +ℤ whole_part (pos eighths)) (b +ℤ whole_part (pos eighths))
alike_behind side eighths a b less alike = λ k six.
    ap (λ (z : ℤ). clamped_coordinate side ((z -ℤ pos 2) +ℤ pos k)) (no_whole eighths less a) ∙ alike k six ∙ sym (ap (λ (z : ℤ). clamped_coordinate side ((z -ℤ pos 2) +ℤ pos k)) (no_whole eighths less b))

-- so the inter samples there are the same
inter_same : (kind : Kind) (p : Samples) (x y x' y' : ℤ) (right below : ℕ) → right < 8 → below < 8 → AreAlike p.width x x' → AreAlike p.height y y' → inter_sample kind p x y (pos right) (pos below) ≡ inter_sample kind p x' y' (pos right) (pos below)
unfolding inter_sample reference_sample
inter_same kind p x y x' y' right below right_less below_less wide high =
    let beside = alike_behind p.width right x x' right_less wide in
    let under = alike_behind p.height below y y' below_less high in
    between_same kind (fraction (pos below)) (omega arith) (across kind p x (pos right)) (across kind p x' (pos right)) (y +ℤ whole_part (pos below)) (y' +ℤ whole_part (pos below)) (λ j six.
    let row : ℤ = ((y +ℤ whole_part (pos below)) -ℤ pos 2) +ℤ pos j in
    let row' : ℤ = ((y' +ℤ whole_part (pos below)) -ℤ pos 2) +ℤ pos j in
    between_same kind (fraction (pos right)) (omega arith) (λ c. reference_sample p c row) (λ c. reference_sample p c row') (x +ℤ whole_part (pos right)) (x' +ℤ whole_part (pos right)) (λ i six'.
    ap (λ (c : ℕ). sample_at p c (clamped_coordinate p.height row)) (beside i six')
    ∙ ap (λ (r : ℕ). sample_at p (clamped_coordinate p.width (((x' +ℤ whole_part (pos right)) -ℤ pos 2) +ℤ pos i)) r) (under j six)))

-- a piece begins at its first sample, or past the side as that sample is
alike_piece : (side first k : ℕ) (x from : ℤ) → IsWithin 5000000000 x → from ≡ x +ℤ pos (min first (side + 8589934592)) → AreAlike side (from +ℤ pos k) (x +ℤ pos (first + k))
alike_piece side first k x from within from_is = λ i six.
    elim (cases_lt first (side + 8589934592)) [
      | inl near ↦
          let same : from +ℤ pos k ≡ x +ℤ pos (first + k) = omega (arith, ints) in
          ap (λ (z : ℤ). clamped_coordinate side ((z -ℤ pos 2) +ℤ pos i)) same
      | inr far ↦ far_place side _ _ (omega (arith, ints)) (omega (arith, ints))
    ]

-- the samples of a piece of a row
pub in_piece : (kind : Kind) (p : Samples) (x y from : ℤ) (right below first k : ℕ) → right < 8 → below < 8 → IsWithin 5000000000 x → from ≡ x +ℤ pos (min first (p.width + 8589934592)) → predicted kind p from y (pos right) (pos below) k 0 ≡ predicted kind p x y (pos right) (pos below) (first + k) 0
in_piece kind p x y from right below first k right_less below_less within from_is =
    inter_same kind p (from +ℤ pos k) (y +ℤ pos 0) (x +ℤ pos (first + k)) (y +ℤ pos 0) right below right_less below_less (alike_piece p.width first k x from within from_is) (λ k six. refl)

-- the samples of a row
pub in_row : (kind : Kind) (p : Samples) (x y from : ℤ) (right below column row : ℕ) → right < 8 → below < 8 → IsWithin 5000000000 y → from ≡ y +ℤ pos (min row (p.height + 8589934592)) → predicted kind p x from (pos right) (pos below) column 0 ≡ predicted kind p x y (pos right) (pos below) column row
in_row kind p x y from right below column row right_less below_less within from_is =
    inter_same kind p (x +ℤ pos column) (from +ℤ pos 0) (x +ℤ pos column) (y +ℤ pos (row + 0)) right below right_less below_less (λ k six. refl) (alike_piece p.height row 0 y from within from_is)
    ∙ ap (λ (r : ℕ). predicted kind p x y (pos right) (pos below) column r) (add-zero row)

-- a block at whole samples
pub block_is_at : (kind : Kind) (p : Samples) (x y left top : ℤ) (right below : ℕ) (across_taps down_taps : Taps) (samples : List ℕ) (stride width height out_stride : ℕ) (old new : List ℕ) → right < 8 → below < 8 → AreTapsOf across_taps kind right → AreTapsOf down_taps kind below
    → left ≡ x -ℤ pos 2 → top ≡ y -ℤ pos 2 → IsWindow p left top (width + 5) (height + 5) samples stride → Predicts across_taps down_taps samples stride 0 width height out_stride old new → IsBlockIn (predicted kind p x y (pos right) (pos below)) width height out_stride old new
block_is_at kind p x y left top right below across_taps down_taps samples stride width height out_stride old new right_less below_less is_across is_down left_is top_is window predicts =
    let small_right : right ≡ fraction (pos right) = omega arith in
    let small_below : below ≡ fraction (pos below) = omega arith in
    let at_left : IsWindow p ((x +ℤ whole_part (pos right)) -ℤ pos 2) top (width + 5) (height + 5) samples stride = subst (λ (z : ℤ). IsWindow p z top (width + 5) (height + 5) samples stride) (left_is ∙ ap (λ (z : ℤ). z -ℤ pos 2) (sym (no_whole right right_less x))) window in
    let at_top : IsWindow p ((x +ℤ whole_part (pos right)) -ℤ pos 2) ((y +ℤ whole_part (pos below)) -ℤ pos 2) (width + 5) (height + 5) samples stride = subst (λ (z : ℤ). IsWindow p ((x +ℤ whole_part (pos right)) -ℤ pos 2) z (width + 5) (height + 5) samples stride) (top_is ∙ ap (λ (z : ℤ). z -ℤ pos 2) (sym (no_whole below below_less y))) at_left in
    block_of_strip (λ column row. predicted kind p x y (pos right) (pos below) (0 + column) row) (predicted kind p x y (pos right) (pos below)) width height out_stride old new
    (predicts kind p x y (pos right) (pos below) (record {
      across_is = subst (λ (f : ℕ). AreTapsOf across_taps kind f) small_right is_across;
      down_is = subst (λ (f : ℕ). AreTapsOf down_taps kind f) small_below is_down;
      window = subst (λ (n : ℕ). IsWindow p ((x +ℤ whole_part (pos right)) -ℤ pos 2) ((y +ℤ whole_part (pos below)) -ℤ pos 2) (n + 5) (height + 5) samples stride) (sym (zero-add width)) at_top;
    }))
    (λ column row inside within. ap (λ (c : ℕ). predicted kind p x y (pos right) (pos below) c row) (zero-add column))

-- two samples before in 64 bits
pub two_before : (place : ℤ) → IsWithin 68719476736 place → to_z w64 (of_z w64 (to_z w64 (of_z w64 place) -ℤ pos 2)) ≡ place -ℤ pos 2
two_before place near = omega (arith, ints)

fraction_small : (z : ℤ) → fraction z < 8
fraction_small (pos n) = omega arith
fraction_small (negsuc n) = omega arith

-- the start of a piece, in 64 bits
pub begun : (x offset : ℤ) (n side own : ℕ) → IsWithin 5000000000 x → own ≤ 16384 → side ≡ own → offset ≡ pos (min n (side + 8589934592)) → to_z w64 (of_z w64 (to_z w64 (of_z w64 x) +ℤ to_z w64 (of_z w64 offset))) ≡ x +ℤ pos (min n (own + 8589934592))
begun x offset n side own within small same offset_is = omega (arith, ints)

-- the whole samples two after a first tap, in 64 bits
pub near_within : (place : ℤ) → IsNear place → IsWithin 5000000000 (to_z w64 (of_z w64 (to_z w64 (of_z w64 place) +ℤ pos 2)))
near_within place near = (omega (arith, ints), omega (arith, ints))

pub same_within : (place : ℤ) → IsWithin 68719476736 place → to_z w64 (of_z w64 place) ≡ place
same_within place within = omega (arith, ints)

pub further_within : (place : ℤ) → IsWithin 5000000000 place → IsWithin 68719476736 place
further_within place within = (omega (arith, ints), omega (arith, ints))

-- a vector's whole samples and its eighths apart
pub whole_apart : (kind : Kind) (p : Samples) (x y right below x' y' : ℤ) (right' below' column row : ℕ) → x' ≡ x +ℤ whole_part right → y' ≡ y +ℤ whole_part below → right' ≡ fraction right → below' ≡ fraction below → predicted kind p x' y' (pos right') (pos below') column row ≡ predicted kind p x y right below column row
unfolding inter_sample
whole_apart kind p x y right below x' y' right' below' column row x_is y_is right_is below_is =
    let one : right' % 8 ≡ fraction right = let small : right' % 8 ≡ right' = omega (arith, right_is, fraction_small right) in small ∙ right_is in
    let other : below' % 8 ≡ fraction below = let small : below' % 8 ≡ below' = omega (arith, below_is, fraction_small below) in small ∙ below_is in
    let none : right' / 8 ≡ 0 = omega (arith, right_is, fraction_small right) in
    let none' : below' / 8 ≡ 0 = omega (arith, below_is, fraction_small below) in
    let there : (x' +ℤ pos column) +ℤ pos 0 ≡ (x +ℤ pos column) +ℤ whole_part right = omega (arith, ints) in
    let there' : (y' +ℤ pos row) +ℤ pos 0 ≡ (y +ℤ pos row) +ℤ whole_part below = omega (arith, ints) in
    let along_x : (x' +ℤ pos column) +ℤ pos (right' / 8) ≡ (x +ℤ pos column) +ℤ whole_part right = ap (λ (n : ℕ). (x' +ℤ pos column) +ℤ pos n) none ∙ there in
    let along_y : (y' +ℤ pos row) +ℤ pos (below' / 8) ≡ (y +ℤ pos row) +ℤ whole_part below = ap (λ (n : ℕ). (y' +ℤ pos row) +ℤ pos n) none' ∙ there' in
    let by : ℕ → ℕ → ℤ → ℤ → ℕ = λ (f g : ℕ) (a b : ℤ). between kind f (λ r. between kind g (λ c. reference_sample p c r) a) b in
    ap (λ (f : ℕ). by f (right' % 8) ((x' +ℤ pos column) +ℤ pos (right' / 8)) ((y' +ℤ pos row) +ℤ pos (below' / 8))) other
    ∙ ap (λ (g : ℕ). by (fraction below) g ((x' +ℤ pos column) +ℤ pos (right' / 8)) ((y' +ℤ pos row) +ℤ pos (below' / 8))) one
    ∙ ap (λ (a : ℤ). by (fraction below) (fraction right) a ((y' +ℤ pos row) +ℤ pos (below' / 8))) along_x
    ∙ ap (λ (b : ℤ). by (fraction below) (fraction right) ((x +ℤ pos column) +ℤ whole_part right) b) along_y

-- the position of the whole samples that a vector points to
pub whole_there : (place eighths first : ℤ) → FitsSigned w32 place → FitsSigned w32 eighths → first ≡ (to_z w32 (of_z w32 place) +ℤ whole_part (to_z w32 (of_z w32 eighths))) -ℤ pos 2 → IsNear first → to_z w64 (of_z w64 (to_z w64 (of_z w64 first) +ℤ pos 2)) ≡ place +ℤ whole_part eighths
whole_there place eighths first place_fits eighths_fits first_is near =
    let back : (z : ℤ) → (z -ℤ pos 2) +ℤ pos 2 ≡ z = λ (z : ℤ). omega (arith, ints) in
    two_further first near ∙ ap (λ (z : ℤ). z +ℤ pos 2) first_is ∙ back _
    ∙ ap (λ (z : ℤ). z +ℤ whole_part (to_z w32 (of_z w32 eighths))) (to_z-of_z w32 place place_fits)
    ∙ ap (λ (z : ℤ). place +ℤ whole_part z) (to_z-of_z w32 eighths eighths_fits)

-- the same block by another function of column and row
pub same_block : (one other : ℕ → ℕ → ℕ) (width height stride : ℕ) (old new : List ℕ) → IsBlockIn one width height stride old new → ((column row : ℕ) → one column row ≡ other column row) → IsBlockIn other width height stride old new
same_block one other width height stride old new block same = record { whole = block.whole; each = λ column row inside below. block.each column row inside below ∙ same column row; others = block.others }

-- no samples are next to a block that is the whole list
pub none_beside : (width height column row : ℕ) (old new : List ℕ) → length new ≡ length old → length old ≡ width * height → height ≤ row → slice_index new (row * width + column) ≡ slice_index old (row * width + column)
none_beside width height column row old new same long under =
    let past : width * height ≤ row * width + column = let le : height * width ≤ row * width = mul-le-mul_right width under in omega (arith, le, mul_comm width height) in
    get_or_past new (row * width + column) 0 (omega (arith, same, long, past)) ∙ sym (get_or_past old (row * width + column) 0 (omega (arith, long, past)))
