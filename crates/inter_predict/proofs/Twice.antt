-- Taps across and then down.
use Rattle.std.specs.Prelude.{slice_index}
use Rattle.std.proofs.Common.{◌≡◌, ℕ, ◌+◌, ◌-◌, ◌*◌, ◌<◌, ◌≤◌, List, refl, ap, sym, ◌∙◌, arith}
use Rattle.std.proofs.Math.Nat.{mul-le-mul_right}
use Rattle.inter_predict.specs.declared.taps.Taps.{Taps}
use Rattle.inter_predict.specs.Kernels.{IsTaps, IsStrip, tapped, HasRow, tapped_at, tapped_from, tapped_twice}

-- taps read six samples
pub tapped_same : (t : Taps) (f g : ℕ → ℕ) → ((k : ℕ) → k < 6 → f k ≡ g k) → tapped t f ≡ tapped t g
unfolding tapped
tapped_same t f g same = rw (same 0 (omega arith), same 1 (omega arith), same 2 (omega arith), same 3 (omega arith), same 4 (omega arith), same 5 (omega arith)) refl

-- taps of a whole position leave the sample as it is
pub tapped_whole : (t : Taps) (f : ℕ → ℕ) → IsTaps t → t.c ≡ 128 → f 2 < 256 → tapped t f ≡ f 2
unfolding tapped
tapped_whole t f small whole byte =
    let none = small.alone whole in
    rw (none.0, none.1, whole, none.2, none.3, none.4) (omega arith)

-- taps return a sample
pub tapped_byte : (t : Taps) (f : ℕ → ℕ) → tapped t f < 256
unfolding tapped
tapped_byte t f = omega arith

-- so many rows further down
pub further : (row j stride : ℕ) → (row + j) * stride ≡ row * stride + j * stride
further row j stride = grind arith

-- the same strip by another function of column and row
pub same_strip : (one other : ℕ → ℕ → ℕ) (first width height stride : ℕ) (old new : List ℕ) → IsStrip one first width height stride old new → ((column row : ℕ) → column < width → row < height → one column row ≡ other column row) → IsStrip other first width height stride old new
same_strip one other first width height stride old new strip same = record { whole = strip.whole; each = λ column row inside below. strip.each column row inside below ∙ same column row inside below; others = strip.others }

-- a sample filtered neither across nor down is copied
pub copied : (across down : Taps) (xs : List ℕ) (stride first column row : ℕ) → IsTaps across → IsTaps down → across.c ≡ 128 → down.c ≡ 128 → ((k : ℕ) → slice_index xs k < 256)
    → slice_index xs (2 * stride + first + 2 + row * stride + column) ≡ tapped_twice across down xs stride (first + column) row
copied across down xs stride first column row small small' whole whole' bytes =
    let place : (row + 2) * stride + (first + column) + 2 * 1 ≡ 2 * stride + first + 2 + row * stride + column = omega (arith, further row 2 stride) in
    sym (tapped_whole down (λ j. tapped_at across xs 1 ((row + j) * stride + (first + column))) small' whole' (tapped_byte across _)
    ∙ tapped_whole across (λ k. slice_index xs ((row + 2) * stride + (first + column) + k * 1)) small whole (bytes _)
    ∙ ap (slice_index xs) place)

-- the samples of a list, from a place on
abbrev pub plain : List ℕ → ℕ → ℕ → ℕ
plain xs place lane = slice_index xs (place + lane)

across_at : (across : Taps) (xs : List ℕ) (lane at : ℕ) → tapped_from across (plain xs) lane at ≡ tapped_at across xs 1 (at + lane)
across_at across xs lane at = tapped_same across _ _ (λ k less. let place : at + k + lane ≡ at + lane + k * 1 = omega arith in ap (slice_index xs) place)

-- filtered across only
pub across_alone : (across down : Taps) (xs : List ℕ) (stride first column row : ℕ) → IsTaps down → down.c ≡ 128
    → tapped_from across (plain xs) column (row * stride + (2 * stride + first)) ≡ tapped_twice across down xs stride (first + column) row
across_alone across down xs stride first column row small' whole' =
    let place : (row + 2) * stride + (first + column) ≡ row * stride + (2 * stride + first) + column = omega (arith, further row 2 stride) in
    across_at across xs column (row * stride + (2 * stride + first))
    ∙ sym (tapped_whole down (λ j. tapped_at across xs 1 ((row + j) * stride + (first + column))) small' whole' (tapped_byte across _) ∙ ap (tapped_at across xs 1) place)

-- filtered down only
pub down_alone : (across down : Taps) (xs : List ℕ) (stride first column row : ℕ) → IsTaps across → across.c ≡ 128 → ((k : ℕ) → slice_index xs k < 256)
    → tapped_from down (λ line. plain xs (line * stride + (first + 2))) column row ≡ tapped_twice across down xs stride (first + column) row
down_alone across down xs stride first column row small whole bytes =
    tapped_same down _ _ (λ j less.
    let place : (row + j) * stride + (first + 2) + column ≡ (row + j) * stride + (first + column) + 2 * 1 = omega arith in
    ap (slice_index xs) place ∙ sym (tapped_whole across (λ k. slice_index xs ((row + j) * stride + (first + column) + k * 1)) small whole (bytes _)))

-- filtered across, and then down
pub across_then_down : (across down : Taps) (xs : List ℕ) (stride first column row : ℕ) → tapped_from down (λ line lane. tapped_from across (plain xs) lane (line * stride + first)) column row ≡ tapped_twice across down xs stride (first + column) row
across_then_down across down xs stride first column row =
    tapped_same down _ _ (λ j less.
    let place : (row + j) * stride + first + column ≡ (row + j) * stride + (first + column) = omega arith in
    across_at across xs column ((row + j) * stride + first) ∙ ap (tapped_at across xs 1) place)

-- a row that is in the window
row_room : (number stride start n len : ℕ) → stride ≤ 65536 → start ≤ 262144 → number ≤ 20 → number * stride + (start + n + 5) ≤ len → HasRow (λ place. place + n ≤ len) stride start number
row_room number stride start n len thin near few room =
    let one : number * stride ≤ 20 * stride = mul-le-mul_right stride few in
    (omega (arith, one), λ place from upto. omega arith)

-- the rows of a strip are in the window
pub rows_room : (number height stride start n len : ℕ) → stride ≤ 65536 → start ≤ 262144 → height ≤ 16 → number < height → (height - 1) * stride + (start + n + 5) ≤ len → HasRow (λ place. place + n ≤ len) stride start number
rows_room number height stride start n len thin near low less room =
    let le : number * stride ≤ (height - 1) * stride = mul-le-mul_right stride (omega arith) in
    row_room number stride start n len thin near (omega arith) (omega (arith, le))

-- and so are the five below them
pub lower_room : (number height stride start n len : ℕ) → stride ≤ 65536 → start ≤ 262144 → height ≤ 16 → number < height + 5 → (height + 4) * stride + (start + n + 5) ≤ len → HasRow (λ place. place + n ≤ len) stride start number
lower_room number height stride start n len thin near low less room =
    let le : number * stride ≤ (height + 4) * stride = mul-le-mul_right stride (omega arith) in
    row_room number stride start n len thin near (omega arith) (omega (arith, le))

-- a line that is filtered down only
pub line_room : (number height stride start n len : ℕ) → stride ≤ 65536 → start ≤ 262144 → height ≤ 16 → number < height + 5 → (height + 4) * stride + (start + n) ≤ len → (number * stride + start ≤ 1099511627776) × (number * stride + start + n ≤ len)
line_room number height stride start n len thin near low less room =
    let le : number * stride ≤ (height + 4) * stride = mul-le-mul_right stride (omega arith) in
    let one : number * stride ≤ 20 * stride = mul-le-mul_right stride (omega arith) in
    (omega (arith, one), omega (arith, le))

-- the rows two further down
pub lower_rows : (height stride rest len : ℕ) → 0 < height → (height + 4) * stride + rest ≤ len → (height - 1) * stride + (2 * stride + rest) ≤ len
lower_rows height stride rest len high room =
    let split : (height + 4) * stride ≡ (height - 1) * stride + 5 * stride = let parts : height + 4 ≡ (height - 1) + 5 = omega arith in rw parts (grind arith) in
    omega (arith, split)

-- a line at whole samples
pub whole_room : (number height stride first n len : ℕ) → stride ≤ 65536 → first ≤ 16 → height ≤ 16 → number < height → (height + 4) * stride + (first + n + 5) ≤ len → (number * stride + (2 * stride + first + 2) ≤ 1099511627776) × (number * stride + (2 * stride + first + 2) + n ≤ len)
whole_room number height stride first n len thin near low less room =
    let le : number * stride ≤ (height - 1) * stride = mul-le-mul_right stride (omega arith) in
    let one : number * stride ≤ 20 * stride = mul-le-mul_right stride (omega arith) in
    let below = lower_rows height stride (first + n + 5) len (omega arith) room in
    (omega (arith, one), omega (arith, le, below))
