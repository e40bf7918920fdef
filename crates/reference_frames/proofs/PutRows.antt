-- Rows that are written straight into the samples of a plane.
use Rattle.std.specs.Prelude.{slice_range}
use Rattle.std.specs.Simd.Lanes.{put_chunk}
use Rattle.std.proofs.Common.{refl, ◌≡◌, ℕ, zero, suc, ◌+◌, ◌-◌, ◌*◌, ◌<◌, ◌≤◌, List, [], ◌∷◌, length, take, drop, ap, sym, ◌∙◌, arith}
use Rattle.std.proofs.Math.Nat.{mul-le-mul_right}
use Rattle.std.proofs.lemmas.Simd.{length-put_chunk}
use Rattle.std.proofs.lemmas.List.FromFn.{length-map-range_with_len}
use Rattle.pixel_planes.specs.Samples.{Samples}
use Rattle.reference_frames.specs.Unfiltered.{block_row, with_block_rows}
use Rattle.reference_frames.specs.WrittenBlocks.{block_rows_put}

-- writing the samples that are there
put_front : (n : ℕ) (xs : List ℕ) → put_chunk 0 xs (take n xs) ≡ xs
put_front zero [] = refl
put_front zero (x ∷ xs) = refl
put_front (suc n) [] = refl
put_front (suc n) (x ∷ xs) = ap (λ (l : List ℕ). x ∷ l) (put_front n xs)

-- writing a front of a list back, with something written into it
put_in_front : (w x : ℕ) (xs span : List ℕ) → x + length span ≤ w → put_chunk 0 xs (put_chunk x (take w xs) span) ≡ put_chunk x xs span
put_in_front zero zero [] [] fits = refl
put_in_front zero zero (h ∷ t) [] fits = refl
put_in_front zero zero xs (a ∷ more) fits = absurd (omega (arith, fits))
put_in_front zero (suc x) xs span fits = absurd (omega (arith, fits))
put_in_front (suc w) x [] span fits = refl
put_in_front (suc w) zero (h ∷ t) [] fits = ap (λ (l : List ℕ). h ∷ l) (put_front w t)
put_in_front (suc w) zero (h ∷ t) (a ∷ more) fits = ap (λ (l : List ℕ). a ∷ l) (put_in_front w 0 t more (omega (arith, fits)))
put_in_front (suc w) (suc x) (h ∷ t) span fits = ap (λ (l : List ℕ). h ∷ l) (put_in_front w x t span (omega (arith, fits)))

-- writing a row back, with something written into it
put_in_row : (a w x : ℕ) (xs span : List ℕ) → x + length span ≤ w → put_chunk a xs (put_chunk x (take w (drop a xs)) span) ≡ put_chunk (a + x) xs span
put_in_row zero w x xs span fits =
    let same : 0 + x ≡ x = omega arith in
    rw same (put_in_front w x xs span fits)
put_in_row (suc a) w x [] span fits = refl
put_in_row (suc a) w x (h ∷ t) span fits =
    let next : suc a + x ≡ suc (a + x) = omega arith in
    rw next (ap (λ (l : List ℕ). h ∷ l) (put_in_row a w x t span fits))

row_place : (y n w x : ℕ) → (y + n) * w + x ≡ y * w + x + n * w
row_place y n w x = omega arith

-- a row of a block that is written into a row of the plane is written at its index
row_written : (w y n x : ℕ) (xs span : List ℕ) → x + length span ≤ w → put_chunk ((y + n) * w) xs (put_chunk x (slice_range xs ((y + n) * w) ((y + n) * w + w)) span) ≡ put_chunk (y * w + x + n * w) xs span
row_written w y n x xs span fits =
    let wide : (y + n) * w + w - (y + n) * w ≡ w = omega arith in
    rw (wide, sym (row_place y n w x)) (put_in_row ((y + n) * w) w x xs span fits)

-- a block that is written into the rows of a plane is written among its samples
pub rows_put : (p : Samples) (x y side : ℕ) (sample : ℕ → ℕ → ℕ) (n : ℕ) → x + side ≤ p.width → with_block_rows p x y side sample n ≡ record p { samples = block_rows_put p.samples (y * p.width + x) p.width side sample n }
unfolding with_block_rows block_rows_put
rows_put p x y side sample zero fits = refl
rows_put p x y side sample (suc n) fits =
    let span : List ℕ = block_row side sample n in
    let long : length span ≡ side = length-map-range_with_len (λ column. sample column n) 0 side in
    let before = block_rows_put p.samples (y * p.width + x) p.width side sample n in
    rw (rows_put p x y side sample n fits) (ap (λ (xs : List ℕ). record p { samples = xs }) (row_written p.width y n x before span (omega (arith, long, fits))))

-- and there are as many samples
pub rows_put-length : (samples : List ℕ) (start stride side : ℕ) (sample : ℕ → ℕ → ℕ) (n : ℕ) → length (block_rows_put samples start stride side sample n) ≡ length samples
unfolding block_rows_put
rows_put-length samples start stride side sample zero = refl
rows_put-length samples start stride side sample (suc n) = length-put_chunk _ _ _ ∙ rows_put-length samples start stride side sample n

-- the index after a row
pub row_inside : (side stride n : ℕ) → n < side → n * stride + stride ≤ side * stride
row_inside side stride n below = grind (arith, mul-le-mul_right)

-- a block that lies in a plane has room among its samples
pub block_room : (x y side across height count : ℕ) → x + side ≤ across → y + side ≤ height → count ≡ height * across → y * across + x + side * across ≤ count + (across - side)
block_room x y side across height count wide high is =
    let rows : (y + side) * across ≤ height * across = mul-le-mul_right across high in
    rw is (omega (arith, rows, wide))
