-- Each sample that a mode predicts from bytes is a byte, and so is each sample of an inter prediction.
use lib.Lanes.{Each1}
use Rattle.std.proofs.Common.{◌≡◌, ℕ, zero, suc, ◌+◌, ◌-◌, ◌*◌, ◌/◌, ◌%◌, ◌<◌, ◌≤◌, ◌==◌, Bool, true, false, List, [], ◌∷◌, ◌++◌, length, map, take, Option, Some, None, refl, ◌∙◌, arith, ℤ, pos, negsuc, min, nat_lt, if◌then◌else◌}
use Rattle.std.specs.Prelude.{slice_index, sum}
use Rattle.std.specs.List.{range_with_len}
use Rattle.std.proofs.lemmas.List.Sums.{sum_by-cons}
use Rattle.std.proofs.lemmas.Nat.{div_below}
use Rattle.vp8_tables.specs.Bounds.{clamped_sample}
use Rattle.intra_predict.specs.Edges.{above_frame, left_of_frame}
use Rattle.intra_predict.specs.Means.{gradient, mean_of, mean_of_three, mean_of_two}
use Rattle.intra_predict.specs.SubSample.{above_at as eight_at, edge_at, horizontal_down, horizontal_up, left_at as four_at, sub_sample, three_from, two_from, vertical_left, vertical_right}
use Rattle.intra_predict.specs.WholeSample.{above_at, inside, left_at, whole_sample}
use Rattle.intra_predict.specs.declared.modes.SubMode.{SubMode}
use Rattle.intra_predict.specs.declared.modes.SubMode.TheVariants.{Dc, Tm, Ve, He, Ld, Rd, Vr, Vl, Hd, Hu}
use Rattle.intra_predict.specs.declared.modes.WholeMode.{WholeMode}
use Rattle.intra_predict.specs.declared.modes.WholeMode.TheVariants as whole_modes
use Rattle.inter_predict.specs.InterSample.{across, fraction, inter_sample, whole_part}
use Rattle.inter_predict.specs.declared.kinds.Kind.{Kind}
use Rattle.inter_predict.proofs.FilterLaws.{between_byte}
use Rattle.pixel_planes.specs.Samples.{Samples}
use Rattle.stream_refusals.proofs.ByteLines.{AreSmall, small-at, small-take}

pub clamped-small : (z : ℤ) → clamped_sample z < 256
clamped-small (pos n) = omega arith
clamped-small (negsuc n) = omega arith

gradient-small : (left above corner : ℕ) → gradient left above corner < 256
unfolding gradient
gradient-small left above corner = clamped-small _

pub either-small : (b : Bool) (x y : ℕ) → x < 256 → y < 256 → (if b then x else y) < 256
either-small true x y first second = first
either-small false x y first second = second

two-small : (a b : ℕ) → a < 256 → b < 256 → mean_of_two a b < 256
unfolding mean_of_two
two-small a b first second = omega (arith, first, second)

three-small : (a b c : ℕ) → a < 256 → b < 256 → c < 256 → mean_of_three a b c < 256
unfolding mean_of_three
three-small a b c first second third = omega (arith, first, second, third)

sum-small : (xs : List ℕ) → AreSmall xs → sum xs ≤ 255 * length xs
sum-small [] small = omega arith
sum-small (x ∷ xs) small = let rest : sum xs ≤ 255 * length xs = sum-small xs small.1 in let first : x < 256 = small.0 in omega (arith, rest, first, sum_by-cons (λ (y : ℕ). y) x xs)

mean-small : (xs : List ℕ) → AreSmall xs → mean_of xs < 256
unfolding mean_of
mean-small [] small = omega arith
mean-small (x ∷ xs) small =
    let most : sum (x ∷ xs) ≤ 255 * length (x ∷ xs) = sum-small (x ∷ xs) small in
    div_below (sum (x ∷ xs) + length (x ∷ xs) / 2) (length (x ∷ xs)) 256 (omega arith) (omega (arith, most))

small-append : (xs ys : List ℕ) → AreSmall xs → AreSmall ys → AreSmall (xs ++ ys)
small-append [] ys first second = second
small-append (x ∷ xs) ys first second = (first.0, small-append xs ys first.1 second)

pub small-map : (f : ℕ → ℕ) (xs : List ℕ) → ((k : ℕ) → f k < 256) → AreSmall (map f xs)
small-map f [] each = tt
small-map f (x ∷ xs) each = (each x, small-map f xs each)

-- ---- sub blocks

edge-small : (left : List ℕ) (corner : ℕ) (above : List ℕ) → AreSmall left → corner < 256 → AreSmall above → (k : ℕ) → edge_at left corner above k < 256
edge-small left corner above lefts small aboves k =
    either-small (nat_lt k 4) (slice_index left (3 - k)) (if k == 4 then corner else eight_at above (k - 5)) (small-at left lefts (3 - k)) (either-small (k == 4) corner (eight_at above (k - 5)) small (small-at above aboves (min (k - 5) 7)))

two_from-small : (f : ℕ → ℕ) → ((k : ℕ) → f k < 256) → (k : ℕ) → two_from f k < 256
two_from-small f each k = two-small (f k) (f (k + 1)) (each k) (each (k + 1))

three_from-small : (f : ℕ → ℕ) → ((k : ℕ) → f k < 256) → (k : ℕ) → three_from f k < 256
three_from-small f each k = three-small (f k) (f (k + 1)) (f (k + 2)) (each k) (each (k + 1)) (each (k + 2))

right-small : (f : ℕ → ℕ) → ((k : ℕ) → f k < 256) → (column row : ℕ) → vertical_right f column row < 256
right-small f each column row = either-small (nat_lt column (row / 2)) _ _ (three_from-small f each _) (either-small (row % 2 == 0) _ _ (two_from-small f each _) (three_from-small f each _))

left-small : (f : ℕ → ℕ) → ((k : ℕ) → f k < 256) → (column row : ℕ) → vertical_left f column row < 256
left-small f each column row = either-small (nat_lt 3 (column + row / 2)) _ _ (three_from-small f each _) (either-small (row % 2 == 0) _ _ (two_from-small f each _) (three_from-small f each _))

down-small : (f : ℕ → ℕ) → ((k : ℕ) → f k < 256) → (column row : ℕ) → horizontal_down f column row < 256
down-small f each column row = either-small (nat_lt row (column / 2)) _ _ (three_from-small f each _) (either-small (column % 2 == 0) _ _ (two_from-small f each _) (three_from-small f each _))

up-small : (f : ℕ → ℕ) → ((k : ℕ) → f k < 256) → (column row : ℕ) → horizontal_up f column row < 256
up-small f each column row = either-small (column % 2 == 0) _ _ (two_from-small f each _) (three_from-small f each _)

pub sub-small : (mode : SubMode) (left : List ℕ) (corner : ℕ) (above : List ℕ) → AreSmall left → corner < 256 → AreSmall above → (column row : ℕ) → sub_sample mode left corner above column row < 256
unfolding sub_sample
sub-small Dc left corner above lefts small aboves column row = mean-small (take 4 above ++ left) (small-append (take 4 above) left (small-take 4 above aboves) lefts)
sub-small Tm left corner above lefts small aboves column row = gradient-small _ _ _
sub-small Ve left corner above lefts small aboves column row = three_from-small (edge_at left corner above) (edge-small left corner above lefts small aboves) (4 + column)
sub-small He left corner above lefts small aboves column row = three-small _ _ _ (edge-small left corner above lefts small aboves (4 - row)) (small-at left lefts (min row 3)) (small-at left lefts (min (row + 1) 3))
sub-small Ld left corner above lefts small aboves column row = three_from-small (eight_at above) (λ k. small-at above aboves (min k 7)) (column + row)
sub-small Rd left corner above lefts small aboves column row = three_from-small (edge_at left corner above) (edge-small left corner above lefts small aboves) (3 + column - row)
sub-small Vr left corner above lefts small aboves column row = right-small (edge_at left corner above) (edge-small left corner above lefts small aboves) column row
sub-small Vl left corner above lefts small aboves column row = left-small (eight_at above) (λ k. small-at above aboves (min k 7)) column row
sub-small Hd left corner above lefts small aboves column row = down-small (edge_at left corner above) (edge-small left corner above lefts small aboves) column row
sub-small Hu left corner above lefts small aboves column row = up-small (four_at left) (λ k. small-at left lefts (min k 3)) column row

-- ---- whole blocks

-- the samples of a side that is inside the frame
pub AreSmallInside : Option (List ℕ) → Type 0
AreSmallInside None = Unit {0}
AreSmallInside (Some xs) = AreSmall xs

inside-small : (side : Option (List ℕ)) → AreSmallInside side → AreSmall (inside side)
unfolding AreSmallInside
inside-small None small = tt
inside-small (Some xs) small = small

above-small : (side : Option (List ℕ)) → AreSmallInside side → (column : ℕ) → above_at side column < 256
unfolding AreSmallInside
above-small None small column = omega arith
above-small (Some xs) small column = small-at xs small column

lefts-small : (side : Option (List ℕ)) → AreSmallInside side → (row : ℕ) → left_at side row < 256
unfolding AreSmallInside
lefts-small None small row = omega arith
lefts-small (Some xs) small row = small-at xs small row

pub side-small : (b : Bool) (xs : List ℕ) → AreSmall xs → AreSmallInside (if b then None else Some xs)
unfolding AreSmallInside
side-small true xs small = tt
side-small false xs small = small

pub whole-small : (mode : WholeMode) (above left : Option (List ℕ)) (corner : ℕ) → AreSmallInside above → AreSmallInside left → (column row : ℕ) → whole_sample mode above left corner column row < 256
unfolding whole_sample
whole-small whole_modes.Dc above left corner aboves lefts column row = mean-small (inside above ++ inside left) (small-append (inside above) (inside left) (inside-small above aboves) (inside-small left lefts))
whole-small whole_modes.V above left corner aboves lefts column row = above-small above aboves column
whole-small whole_modes.H above left corner aboves lefts column row = lefts-small left lefts row
whole-small whole_modes.Tm above left corner aboves lefts column row = gradient-small _ _ _

-- ---- inter prediction

pub inter-small : (kind : Kind) (p : Samples) (x y right below : ℤ) → inter_sample kind p x y right below < 256
unfolding inter_sample
inter-small kind p x y right below = between_byte kind (fraction below) (across kind p x right) _
