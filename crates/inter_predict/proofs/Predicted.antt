-- The kernels return the definition's samples of a window.
use Rattle.std.specs.Prelude.{slice_index}
use Rattle.std.specs.Int.{int_shr}
use Rattle.std.proofs.Common.{◌≡◌, inl, inr, ℕ, zero-add, ◌+◌, ◌*◌, ◌<◌, List, ℤ, pos, negsuc, ◌+ℤ◌, ◌-ℤ◌, ◌≤ℤ◌, refl, ap, subst, sym, ◌∙◌, arith, to_z, of_z, w32, w64, FitsSigned}
use Rattle.std.proofs.lemmas.Int.{ints, to_z-of_z}
use Rattle.pixel_planes.specs.Samples.{Samples}
use Rattle.pixel_planes.specs.ReferenceSamples.{reference_sample, IsWindow}
use Rattle.inter_predict.specs.declared.kinds.Kind.{Kind}
use Rattle.inter_predict.specs.declared.taps.Taps.{Taps}
use Rattle.inter_predict.specs.InterSample.{whole_part, fraction, between, across, inter_sample, predicted}
use Rattle.inter_predict.specs.Blocks.{IsBlockIn}
use Rattle.inter_predict.specs.Kernels.{AreTapsOf, IsStrip, IsNear, Predicts, between_in, line_from, tapped_from, tapped_twice}
use Rattle.inter_predict.proofs.FilterLaws.{at_place, between_byte}
use Rattle.inter_predict.proofs.Twice.{same_strip, tapped_same}

-- the position of a tap
tap_place : (x whole left : ℤ) (column i : ℕ) → left ≡ (x +ℤ whole) -ℤ pos 2 → (((x +ℤ pos column) +ℤ whole) -ℤ pos 2) +ℤ pos i ≡ left +ℤ pos (column + i)
tap_place x whole left column i same = omega (arith, ints)

-- a sample of a window that begins at the first taps
pub predicted_is : (kind : Kind) (p : Samples) (x y right below left top : ℤ) (across_taps down_taps : Taps) (samples : List ℕ) (stride width height column row : ℕ)
    → AreTapsOf across_taps kind (fraction right) → AreTapsOf down_taps kind (fraction below) → left ≡ (x +ℤ whole_part right) -ℤ pos 2 → top ≡ (y +ℤ whole_part below) -ℤ pos 2
    → IsWindow p left top (width + 5) (height + 5) samples stride → column < width → row < height → tapped_twice across_taps down_taps samples stride column row ≡ predicted kind p x y right below column row
unfolding inter_sample
predicted_is kind p x y right below left top across_taps down_taps samples stride width height column row is_across is_down left_is top_is window inside within =
    let row_at : ℕ → ℤ = λ (j : ℕ). (((y +ℤ pos row) +ℤ whole_part below) -ℤ pos 2) +ℤ pos j in
    let column_at : ℕ → ℤ = λ (i : ℕ). (((x +ℤ pos column) +ℤ whole_part right) -ℤ pos 2) +ℤ pos i in
    sym (is_down (across kind p (x +ℤ pos column) right) ((y +ℤ pos row) +ℤ whole_part below)
    ∙ tapped_same down_taps _ _ (λ j less.
    is_across (λ c. reference_sample p c (row_at j)) ((x +ℤ pos column) +ℤ whole_part right)
    ∙ tapped_same across_taps _ _ (λ i less'.
    let place : (row + j) * stride + (column + i) ≡ (row + j) * stride + column + i * 1 = omega arith in
    ap (λ c. reference_sample p c (row_at j)) (tap_place x (whole_part right) left column i left_is)
    ∙ ap (reference_sample p (left +ℤ pos (column + i))) (tap_place y (whole_part below) top row j top_is)
    ∙ sym (window.each (column + i) (row + j) (omega arith) (omega arith))
    ∙ ap (slice_index samples) place)))

-- the taps of a filter return the sample between
pub between_is : (taps : Taps) (kind : Kind) (eighths : ℕ) (sample : ℕ → ℕ → ℕ) (lane at : ℕ) → AreTapsOf taps kind eighths → tapped_from taps sample lane at ≡ between_in kind eighths sample lane at
between_is taps kind eighths sample lane at are = tapped_same taps _ _ (λ k less. ap (λ (i : ℕ). sample (at + i) lane) (sym (zero-add k))) ∙ sym (are (line_from sample lane at) (pos 2))

pub strip_between : (taps : Taps) (sample : ℕ → ℕ → ℕ) (first width height out_stride : ℕ) (old new : List ℕ) → IsStrip (tapped_from taps sample) first width height out_stride old new
    → (kind : Kind) (eighths : ℕ) → AreTapsOf taps kind eighths → IsStrip (between_in kind eighths sample) first width height out_stride old new
strip_between taps sample first width height out_stride old new strip kind eighths are =
    same_strip (tapped_from taps sample) (between_in kind eighths sample) first width height out_stride old new strip (λ column row inside within. between_is taps kind eighths sample column row are)

-- taps across and down a window return the inter samples
pub strip_predicts : (across down : Taps) (samples : List ℕ) (stride first columns height out_stride : ℕ) (old new : List ℕ) → IsStrip (λ column row. tapped_twice across down samples stride (first + column) row) first columns height out_stride old new → Predicts across down samples stride first columns height out_stride old new
strip_predicts across down samples stride first columns height out_stride old new strip = λ kind p x y right below input.
    same_strip _ (λ column row. predicted kind p x y right below (first + column) row) first columns height out_stride old new strip
    (λ column row inside within. predicted_is kind p x y right below _ _ across down samples stride (first + columns) height (first + column) row input.across_is input.down_is refl refl input.window (omega arith) within)

-- a strip from the first column on is a block
pub block_of_strip : (one other : ℕ → ℕ → ℕ) (width height stride : ℕ) (old new : List ℕ) → IsStrip one 0 width height stride old new → ((column row : ℕ) → column < width → row < height → one column row ≡ other column row) → IsBlockIn other width height stride old new
block_of_strip one other width height stride old new strip same = record {
  whole = strip.whole;
  each = λ column row inside below. ap (λ k. slice_index new (row * stride + k)) (sym (zero-add column)) ∙ strip.each column row inside below ∙ same column row inside below;
  others = λ column row inside beside. strip.others column row inside (inr (elim beside [ inl following ↦ inl (omega arith) | inr below ↦ inr below ]));
}

-- the whole samples in 32 bits of eighths
pub whole_fits : (z : ℤ) → FitsSigned w32 z → (negsuc 268435455 ≤ℤ int_shr z 3) × (int_shr z 3 ≤ℤ pos 268435455)
whole_fits (pos n) fits = omega (arith, ints)
whole_fits (negsuc n) fits = omega (arith, ints)

-- the first tap in 64 bits
pub first_tap_is : (place whole one other : ℤ) → FitsSigned w32 place → (negsuc 268435455 ≤ℤ whole) × (whole ≤ℤ pos 268435455) → one ≡ place → other ≡ whole
    → (to_z w64 (of_z w64 (to_z w64 (of_z w64 (to_z w64 (of_z w64 one) +ℤ to_z w64 (of_z w64 other))) -ℤ pos 2)) ≡ (place +ℤ whole) -ℤ pos 2) × IsNear ((place +ℤ whole) -ℤ pos 2)
first_tap_is place whole one other fits small one_is other_is = (omega (arith, ints), (omega (arith, ints), omega (arith, ints)))

-- a coordinate passes through 64 bits
near_fits : (place : ℤ) → IsNear place → to_z w64 (of_z w64 place) ≡ place
near_fits place near = omega (arith, ints)

-- a block that the kernels make of a window at the first taps
pub block_is : (kind : Kind) (p : Samples) (x y right below left top : ℤ) (eighths_right eighths_below : ℕ) (across_taps down_taps : Taps) (samples : List ℕ) (stride width height out_stride : ℕ) (old new : List ℕ)
    → AreTapsOf across_taps kind eighths_right → AreTapsOf down_taps kind eighths_below → eighths_right ≡ fraction (to_z w32 (of_z w32 right)) → eighths_below ≡ fraction (to_z w32 (of_z w32 below))
    → FitsSigned w32 x → FitsSigned w32 y → FitsSigned w32 right → FitsSigned w32 below → left ≡ (to_z w32 (of_z w32 x) +ℤ whole_part (to_z w32 (of_z w32 right))) -ℤ pos 2 → top ≡ (to_z w32 (of_z w32 y) +ℤ whole_part (to_z w32 (of_z w32 below))) -ℤ pos 2 → IsNear left → IsNear top
    → IsWindow p (to_z w64 (of_z w64 left)) (to_z w64 (of_z w64 top)) (width + 5) (height + 5) samples stride → IsStrip (tapped_twice across_taps down_taps samples stride) 0 width height out_stride old new → IsBlockIn (predicted kind p x y right below) width height out_stride old new
block_is kind p x y right below left top eighths_right eighths_below across_taps down_taps samples stride width height out_stride old new is_across is_down right_is below_is x_fits y_fits right_fits below_fits left_is top_is left_near top_near window strip =
    let right_same = to_z-of_z w32 right right_fits in
    let below_same = to_z-of_z w32 below below_fits in
    let across_is : AreTapsOf across_taps kind (fraction right) = subst (λ (f : ℕ). AreTapsOf across_taps kind f) (right_is ∙ ap fraction right_same) is_across in
    let down_is : AreTapsOf down_taps kind (fraction below) = subst (λ (f : ℕ). AreTapsOf down_taps kind f) (below_is ∙ ap fraction below_same) is_down in
    let left_there : left ≡ (x +ℤ whole_part right) -ℤ pos 2 = left_is ∙ ap (λ (z : ℤ). (z +ℤ whole_part (to_z w32 (of_z w32 right))) -ℤ pos 2) (to_z-of_z w32 x x_fits) ∙ ap (λ (z : ℤ). (x +ℤ whole_part z) -ℤ pos 2) right_same in
    let top_there : top ≡ (y +ℤ whole_part below) -ℤ pos 2 = top_is ∙ ap (λ (z : ℤ). (z +ℤ whole_part (to_z w32 (of_z w32 below))) -ℤ pos 2) (to_z-of_z w32 y y_fits) ∙ ap (λ (z : ℤ). (y +ℤ whole_part z) -ℤ pos 2) below_same in
    let at_left : IsWindow p left (to_z w64 (of_z w64 top)) (width + 5) (height + 5) samples stride = subst (λ (z : ℤ). IsWindow p z (to_z w64 (of_z w64 top)) (width + 5) (height + 5) samples stride) (near_fits left left_near) window in
    let at_top : IsWindow p left top (width + 5) (height + 5) samples stride = subst (λ (z : ℤ). IsWindow p left z (width + 5) (height + 5) samples stride) (near_fits top top_near) at_left in
    block_of_strip (tapped_twice across_taps down_taps samples stride) (predicted kind p x y right below) width height out_stride old new strip
    (λ column row inside within. predicted_is kind p x y right below left top across_taps down_taps samples stride width height column row across_is down_is left_there top_there at_top inside within)

-- zero eighths after whole samples the inter sample is the sample there
whole_sample : (kind : Kind) (p : Samples) (x y right below : ℤ) → fraction right ≡ 0 → fraction below ≡ 0 → reference_sample p (x +ℤ whole_part right) (y +ℤ whole_part below) < 256
    → inter_sample kind p x y right below ≡ reference_sample p (x +ℤ whole_part right) (y +ℤ whole_part below)
unfolding inter_sample
whole_sample kind p x y right below no_right no_below byte =
    let down : between kind (fraction below) (across kind p x right) (y +ℤ whole_part below) ≡ across kind p x right (y +ℤ whole_part below) = rw no_below (at_place kind (across kind p x right) (y +ℤ whole_part below) (between_byte kind _ _ _)) in
    let line : across kind p x right (y +ℤ whole_part below) ≡ reference_sample p (x +ℤ whole_part right) (y +ℤ whole_part below) = rw no_right (at_place kind (λ column. reference_sample p column (y +ℤ whole_part below)) (x +ℤ whole_part right) byte) in
    down ∙ line

-- the position of a whole sample
whole_place : (x whole left : ℤ) (column : ℕ) → left ≡ (x +ℤ whole) -ℤ pos 2 → (left +ℤ pos 2) +ℤ pos column ≡ (x +ℤ pos column) +ℤ whole
whole_place x whole left column same = omega (arith, ints)

-- a sample of a window that begins at the whole samples
whole_is : (kind : Kind) (p : Samples) (x y right below left top : ℤ) (samples : List ℕ) (stride width height column row : ℕ)
    → fraction right ≡ 0 → fraction below ≡ 0 → left ≡ (x +ℤ whole_part right) -ℤ pos 2 → top ≡ (y +ℤ whole_part below) -ℤ pos 2 → IsWindow p (left +ℤ pos 2) (top +ℤ pos 2) width height samples stride → slice_index samples (row * stride + column) < 256 → column < width → row < height
    → slice_index samples (row * stride + column) ≡ predicted kind p x y right below column row
whole_is kind p x y right below left top samples stride width height column row no_right no_below left_is top_is window byte inside within =
    let there : slice_index samples (row * stride + column) ≡ reference_sample p ((x +ℤ pos column) +ℤ whole_part right) ((y +ℤ pos row) +ℤ whole_part below) =
    window.each column row inside within ∙ ap (λ (z : ℤ). reference_sample p z ((top +ℤ pos 2) +ℤ pos row)) (whole_place x (whole_part right) left column left_is) ∙ ap (reference_sample p ((x +ℤ pos column) +ℤ whole_part right)) (whole_place y (whole_part below) top row top_is) in
    let byte' : reference_sample p ((x +ℤ pos column) +ℤ whole_part right) ((y +ℤ pos row) +ℤ whole_part below) < 256 = let P : ℕ → Type 0 = λ (k : ℕ). k < 256 in subst P there byte in
    there ∙ sym (whole_sample kind p (x +ℤ pos column) (y +ℤ pos row) right below no_right no_below byte')

-- two positions further in 64 bits
pub two_further : (place : ℤ) → IsNear place → to_z w64 (of_z w64 (to_z w64 (of_z w64 place) +ℤ pos 2)) ≡ place +ℤ pos 2
two_further place near = omega (arith, ints)

-- a block that is copied from a window at the whole samples
pub copied_is : (kind : Kind) (p : Samples) (x y right below left top : ℤ) (eighths_right eighths_below : ℕ) (samples : List ℕ) (stride width height out_stride : ℕ) (old new : List ℕ)
    → eighths_right ≡ fraction (to_z w32 (of_z w32 right)) → eighths_below ≡ fraction (to_z w32 (of_z w32 below)) → eighths_right ≡ 0 → eighths_below ≡ 0
    → FitsSigned w32 x → FitsSigned w32 y → FitsSigned w32 right → FitsSigned w32 below → left ≡ (to_z w32 (of_z w32 x) +ℤ whole_part (to_z w32 (of_z w32 right))) -ℤ pos 2 → top ≡ (to_z w32 (of_z w32 y) +ℤ whole_part (to_z w32 (of_z w32 below))) -ℤ pos 2 → IsNear left → IsNear top
    → IsWindow p (to_z w64 (of_z w64 (to_z w64 (of_z w64 left) +ℤ pos 2))) (to_z w64 (of_z w64 (to_z w64 (of_z w64 top) +ℤ pos 2))) width height samples stride → ((k : ℕ) → slice_index new k < 256)
    → IsStrip (λ column row. slice_index samples (0 + row * stride + column)) 0 width height out_stride old new → IsBlockIn (predicted kind p x y right below) width height out_stride old new
copied_is kind p x y right below left top eighths_right eighths_below samples stride width height out_stride old new right_is below_is no_right no_below x_fits y_fits right_fits below_fits left_is top_is left_near top_near window bytes strip =
    let right_same = to_z-of_z w32 right right_fits in
    let below_same = to_z-of_z w32 below below_fits in
    let whole_right : fraction right ≡ 0 = sym (ap fraction right_same) ∙ sym right_is ∙ no_right in
    let whole_below : fraction below ≡ 0 = sym (ap fraction below_same) ∙ sym below_is ∙ no_below in
    let left_there : left ≡ (x +ℤ whole_part right) -ℤ pos 2 = left_is ∙ ap (λ (z : ℤ). (z +ℤ whole_part (to_z w32 (of_z w32 right))) -ℤ pos 2) (to_z-of_z w32 x x_fits) ∙ ap (λ (z : ℤ). (x +ℤ whole_part z) -ℤ pos 2) right_same in
    let top_there : top ≡ (y +ℤ whole_part below) -ℤ pos 2 = top_is ∙ ap (λ (z : ℤ). (z +ℤ whole_part (to_z w32 (of_z w32 below))) -ℤ pos 2) (to_z-of_z w32 y y_fits) ∙ ap (λ (z : ℤ). (y +ℤ whole_part z) -ℤ pos 2) below_same in
    let at_whole : IsWindow p (left +ℤ pos 2) (top +ℤ pos 2) width height samples stride = rw (two_further left left_near, two_further top top_near) at window in
    block_of_strip (λ column row. slice_index samples (0 + row * stride + column)) (predicted kind p x y right below) width height out_stride old new strip
    (λ column row inside within.
    let place : 0 + row * stride + column ≡ row * stride + column = omega arith in
    let byte : slice_index samples (row * stride + column) < 256 = let P : ℕ → Type 0 = λ (k : ℕ). k < 256 in subst P (strip.each column row inside within ∙ ap (slice_index samples) place) (bytes (row * out_stride + (0 + column))) in
    ap (slice_index samples) place ∙ whole_is kind p x y right below left top samples stride width height column row whole_right whole_below left_there top_there at_whole byte inside within)
