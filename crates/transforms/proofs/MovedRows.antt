-- Rows of samples to which lanes are added, and from which others are subtracted.
use Rattle.std.specs.Prelude.{slice_index, slice_index_or}
use Rattle.std.specs.Simd.Lanes.{put_chunk}
use Rattle.std.proofs.Common.{◌≡◌, ◌⊎◌, ℕ, zero, suc, lit<, ◌-ℤ◌, ◌+◌, ◌-◌, ◌*◌, ◌/◌, ◌%◌, ◌<◌, ◌≤◌, inl, inr, min, Bool, true, false, cond, ltb, leb, List, [], ◌∷◌, ◌++◌, length, map, get_or, refl, ap, sym, ◌∙◌, arith, add-zero, ℤ, pos, negsuc, ◌+ℤ◌, neg_ℤ, w8, w16, Fits, SFits, to_z, of_z}
use lib.Lanes.{Each1, zip2, sel_l, chunk}
use lib.Dec.{T}
use lib.IntN.{nat_abs}
use lib.Signed.{non_neg}
use Rattle.std.proofs.Math.Nat.{mul-le-mul_right}
use Rattle.std.proofs.lemmas.Bool.{cases_lt}
use Rattle.std.proofs.lemmas.Bool.Decides.{nat_tests}
use Rattle.std.proofs.lemmas.Int.{ints, to_z-of_z}
use Rattle.std.proofs.lemmas.Simd.{length-chunk, length-zip2, get_or-zip2, get_or-chunk, length-put_chunk, get_or-put_chunk_below, get_or-put_chunk_at, get_or-put_chunk_above}
use Rattle.vp8_tables.specs.Bounds.{IsWithin, clamped_sample}
use Rattle.std.specs.List.{range_with_len}
use Rattle.transforms.specs.Residuals.{IsAdded, firsts_residual}
use Rattle.transforms.specs.Transforms.{eighth}
use Rattle.transforms.proofs.Passes.{inverse_dct-first}
use Rattle.transforms.proofs.Rows.{below_four}
use Rattle.transforms.proofs.Bits.{Stand, Stand-minus, Stand-of}
use Rattle.transforms.proofs.Held.{held_bits, held_lane, held_small}

-- ---- sums and differences in lanes

pub same_lanes : (x y : ℕ) (xs ys : List ℕ) → x ≡ y → xs ≡ ys → x ∷ xs ≡ y ∷ ys
same_lanes x y xs ys first rest = ap (λ (z : ℕ). z ∷ xs) first ∙ ap (λ (l : List ℕ). y ∷ l) rest

-- the top bit of a mask is the result of the comparison
mask_tells : (b : Bool) → leb 128 (cond b 255 0) ≡ b
mask_tells true = refl
mask_tells false = refl

clamped_sum : (a b : ℕ) → a < 256 → (a + cond (leb 128 (cond (ltb b (255 - a)) 255 0)) b (255 - a)) % 256 ≡ min (a + b) 255
clamped_sum a b small = rw mask_tells (grind (arith, nat_tests))

clamped_rest : (a b : ℕ) → a < 256 → b < 256 → (cond (leb 128 (cond (ltb a b) 255 0)) b a + (256 - b)) % 256 ≡ a - b
clamped_rest a b small small' = rw mask_tells (grind (arith, nat_tests))

-- all lanes of sums that are clamped at 255
pub clamped_sums : (xs ys : List ℕ) → Each1 (Fits w8) xs → zip2 (λ a b. (a + b) % 256) xs (sel_l (map (λ m. leb 128 m) (zip2 (λ b n. cond (ltb b n) 255 0) ys (map (λ a. 255 - a) xs))) ys (map (λ a. 255 - a) xs)) ≡ zip2 (λ a b. min (a + b) 255) xs ys
clamped_sums [] ys fits = refl
clamped_sums (x ∷ xs) [] fits = refl
clamped_sums (x ∷ xs) (y ∷ ys) fits = same_lanes _ _ _ _ (clamped_sum x y fits.0.fits) (clamped_sums xs ys fits.1)

-- all lanes of differences that are clamped at 0
pub clamped_rests : (xs ys : List ℕ) → Each1 (Fits w8) xs → Each1 (Fits w8) ys → zip2 (λ a b. (a + (256 - b)) % 256) (sel_l (map (λ m. leb 128 m) (zip2 (λ a b. cond (ltb a b) 255 0) xs ys)) ys xs) ys ≡ zip2 (λ a b. a - b) xs ys
clamped_rests [] ys fits fits' = refl
clamped_rests (x ∷ xs) [] fits fits' = refl
clamped_rests (x ∷ xs) (y ∷ ys) fits fits' = same_lanes _ _ _ _ (clamped_rest x y fits.0.fits fits'.0.fits) (clamped_rests xs ys fits.1 fits'.1)

-- ---- rows

-- the first n rows of `width` samples were changed
pub record RowsMoved (more less : List ℕ) (width stride n : ℕ) (old new : List ℕ) : Type 0 where
  pub whole : length new ≡ length old
  pub each : (column row : ℕ) → column < width → row < n → slice_index new (row * stride + column) ≡ min (slice_index old (row * stride + column) + slice_index more column) 255 - slice_index less column
  pub others : (column row : ℕ) → column < stride → (width ≤ column) ⊎ (n ≤ row) → slice_index new (row * stride + column) ≡ slice_index old (row * stride + column)

pub no_row : (more less : List ℕ) (width stride : ℕ) (old : List ℕ) → RowsMoved more less width stride 0 old old
no_row more less width stride old = record { whole = refl; each = λ column row inside below. absurd (omega arith); others = λ column row inside beside. refl }

-- rows do not overlap
earlier_row : (stride row n : ℕ) → row < n → row * stride + stride ≤ n * stride
earlier_row stride row n less =
    let le : (row + 1) * stride ≤ n * stride = mul-le-mul_right stride (omega arith) in
    omega (arith, le)

-- each of four rows has room if the last has
pub row_room : (stride row width count : ℕ) → row < 4 → 3 * stride + width ≤ count → row * stride + width ≤ count
row_room stride row width count less room =
    let le : row * stride ≤ 3 * stride = mul-le-mul_right stride (omega (arith, less)) in
    omega (arith, le, room)

pub kept : (i : ℕ) (xs ys : List ℕ) (p : ℕ) → (p < i) ⊎ (i + length ys ≤ p) → slice_index (put_chunk i xs ys) p ≡ slice_index xs p
kept i xs ys p (inl before) = get_or-put_chunk_below i xs ys p 0 before
kept i xs ys p (inr following) = get_or-put_chunk_above i xs ys p 0 following

-- an index outside the written part of row n is before it or after it
beside_row : (width n stride column row : ℕ) → width ≤ stride → column < stride → (width ≤ column) ⊎ (n + 1 ≤ row) → (row * stride + column < n * stride) ⊎ (n * stride + width ≤ row * stride + column)
beside_row width n stride column row fits inside beside =
    elim (cases_lt row n) [
      | inl earlier ↦ inl (omega (arith, earlier_row stride row n earlier))
      | inr from ↦ elim (cases_lt n row) [
        | inl later ↦ inr (omega (arith, earlier_row stride n row later))
        | inr upto ↦
            let same : row ≡ n = omega arith in
            rw same (elim beside [
              | inl right ↦ inr (omega arith)
              | inr below ↦ absurd (omega arith)
            ])
      ]
    ]

beside_before : (width n column row : ℕ) → (width ≤ column) ⊎ (n + 1 ≤ row) → (width ≤ column) ⊎ (n ≤ row)
beside_before width n column row (inl right) = inl right
beside_before width n column row (inr below) = inr (omega arith)

-- the samples of one row after the change
abbrev pub moved : List ℕ → List ℕ → List ℕ → List ℕ
moved more less row = zip2 (λ a b. a - b) (zip2 (λ a b. min (a + b) 255) row more) less

moved-length : (more less row : List ℕ) (width : ℕ) → length row ≡ width → length more ≡ width → length less ≡ width → length (moved more less row) ≡ width
moved-length more less row width r m l =
    let inner : length (zip2 (λ (a b : ℕ). min (a + b) 255) row more) ≡ length row = length-zip2 (λ (a b : ℕ). min (a + b) 255) row more (r ∙ sym m) in
    length-zip2 (λ (a b : ℕ). a - b) (zip2 (λ (a b : ℕ). min (a + b) 255) row more) less (inner ∙ r ∙ sym l) ∙ inner ∙ r

moved-at : (more less row : List ℕ) (width column : ℕ) → length row ≡ width → length more ≡ width → length less ≡ width → column < width → slice_index (moved more less row) column ≡ min (slice_index row column + slice_index more column) 255 - slice_index less column
moved-at more less row width column r m l inside =
    let long : length (zip2 (λ (a b : ℕ). min (a + b) 255) row more) ≡ length row = length-zip2 (λ (a b : ℕ). min (a + b) 255) row more (r ∙ sym m) in
    get_or-zip2 (λ (a b : ℕ). a - b) (zip2 (λ (a b : ℕ). min (a + b) 255) row more) less column 0 0 0 (omega (arith, long, r, inside)) (omega (arith, l, inside))
    ∙ ap (λ n. n - slice_index less column) (get_or-zip2 (λ (a b : ℕ). min (a + b) 255) row more column 0 0 0 (omega (arith, r, inside)) (omega (arith, m, inside)))

-- one row more
pub row_moved : (more less : List ℕ) (width n stride : ℕ) (old now : List ℕ) → RowsMoved more less width stride n old now → length more ≡ width → length less ≡ width → width ≤ stride → n * stride + width ≤ length old →
    RowsMoved more less width stride (n + 1) old (put_chunk (n * stride) now (moved more less (chunk (n * stride) width now)))
row_moved more less width n stride old now before m l fits room =
    let row : List ℕ = chunk (n * stride) width now in
    let line : List ℕ = moved more less row in
    let r : length row ≡ width = length-chunk (n * stride) width now (omega (arith, before.whole, room)) in
    let long : length line ≡ width = moved-length more less row width r m l in
    let there : n * stride + length line ≤ length now = omega (arith, before.whole, long, room) in
    record {
      whole = length-put_chunk (n * stride) now line ∙ before.whole;
      each = λ column at inside less_row.
          elim (cases_lt at n) [
            | inl earlier ↦ get_or-put_chunk_below (n * stride) now line (at * stride + column) 0 (omega (arith, earlier_row stride at n earlier)) ∙ before.each column at inside earlier
            | inr from ↦
                let same : at ≡ n = omega arith in
                let was : slice_index row column ≡ slice_index old (n * stride + column) = get_or-chunk (n * stride) width now column 0 inside ∙ before.others column n (omega (arith, inside, fits)) (inr (omega arith)) in
                rw same (get_or-put_chunk_at (n * stride) now line column 0 (omega (arith, inside, long)) there ∙ moved-at more less row width column r m l inside ∙ ap (λ k. min (k + slice_index more column) 255 - slice_index less column) was)
          ];
      others = λ column at inside beside. kept (n * stride) now line (at * stride + column) (rw long (beside_row width n stride column at fits inside beside)) ∙ before.others column at inside (beside_before width n column at beside);
    }

-- ---- the two parts of a residual

part_fits : (e : ℤ) → IsWithin 4096 e → SFits w16 e
part_fits (pos n) within = record { sfits = omega (arith, ints, within.0, within.1) }
part_fits (negsuc n) within = record { sfits = omega (arith, ints, within.0, within.1) }

abbrev pub more_bits : ℤ → ℕ
more_bits e = of_z w16 e

abbrev pub less_bits : ℤ → ℕ
less_bits e = (0 + (65536 - of_z w16 e)) % 65536

none_stands : Stand w16 0 (pos 0)
none_stands = Stand-of w16 (pos 0) (record { sfits = lit< tt })

more_lane : (e : ℤ) → IsWithin 4096 e → to_z w16 (held_bits (more_bits e)) ≡ pos (clamped_sample e)
more_lane e within = held_lane _ _ (Stand-of w16 e (part_fits e within)) (omega (arith, ints, within.0, within.1), omega (arith, ints, within.0, within.1))

less_lane : (e : ℤ) → IsWithin 4096 e → to_z w16 (held_bits (less_bits e)) ≡ pos (clamped_sample (neg_ℤ e))
less_lane e within =
    let is : pos 0 -ℤ e ≡ neg_ℤ e = omega (arith, ints) in
    held_lane _ _ (Stand-minus w16 _ _ _ _ none_stands (Stand-of w16 e (part_fits e within))) (omega (arith, ints, within.0, within.1), omega (arith, ints, within.0, within.1)) ∙ ap (λ z. pos (clamped_sample z)) is

pub more_is : (e : ℤ) → IsWithin 4096 e → nat_abs (to_z w16 (held_bits (more_bits e))) ≡ clamped_sample e
more_is e within = ap nat_abs (more_lane e within)

pub less_is : (e : ℤ) → IsWithin 4096 e → nat_abs (to_z w16 (held_bits (less_bits e))) ≡ clamped_sample (neg_ℤ e)
less_is e within = ap nat_abs (less_lane e within)

-- and they fit a sample
pub more_asks : (e : ℤ) → IsWithin 4096 e → T (non_neg (to_z w16 (held_bits (more_bits e)))) × Fits w8 (nat_abs (to_z w16 (held_bits (more_bits e))))
more_asks e within = rw (more_lane e within) (tt, record { fits = held_small _ })

pub less_asks : (e : ℤ) → IsWithin 4096 e → T (non_neg (to_z w16 (held_bits (less_bits e)))) × Fits w8 (nat_abs (to_z w16 (held_bits (less_bits e))))
less_asks e within = rw (less_lane e within) (tt, record { fits = held_small _ })

-- a sample with a residual by its two parts
pub by_parts : (sample : ℕ) (e : ℤ) → sample < 256 → min (sample + clamped_sample e) 255 - clamped_sample (neg_ℤ e) ≡ clamped_sample (pos sample +ℤ e)
by_parts sample (pos zero) small = omega (arith, ints)
by_parts sample (pos (suc n)) small = omega (arith, ints)
by_parts sample (negsuc n) small =
    elim (cases_lt n sample) [
      | inl above ↦ let is : pos sample +ℤ negsuc n ≡ pos (sample - n - 1) = omega (arith, ints) in rw is (omega arith)
      | inr below ↦ let is : pos sample +ℤ negsuc n ≡ negsuc (n - sample) = omega (arith, ints) in rw is (omega arith)
    ]

-- four rows that were changed by the two parts of a residual
pub moved_added : (residual : ℕ → ℕ → ℤ) (more less : List ℕ) (width stride : ℕ) (old new : List ℕ) → RowsMoved more less width stride 4 old new → ((k : ℕ) → slice_index old k < 256) →
    ((column row : ℕ) → column < width → row < 4 → (slice_index more column ≡ clamped_sample (residual column row)) × (slice_index less column ≡ clamped_sample (neg_ℤ (residual column row)))) → IsAdded residual width stride old new
moved_added residual more less width stride old new rows small parts = record {
  whole = rows.whole;
  each = λ column row inside below.
      let two = parts column row inside below in
      rows.each column row inside below ∙ rw (two.0, two.1) (by_parts (slice_index old (row * stride + column)) (residual column row) (small (row * stride + column)));
  others = rows.others;
}

-- ---- lanes that repeat

-- a fact of 0 to 15 holds for all below 16
below_sixteen : (P : ℕ → Type 0) → P 0 → P 1 → P 2 → P 3 → P 4 → P 5 → P 6 → P 7 → P 8 → P 9 → P 10 → P 11 → P 12 → P 13 → P 14 → P 15 → (k : ℕ) → k < 16 → P k
below_sixteen P h0 h1 h2 h3 h4 h5 h6 h7 h8 h9 h10 h11 h12 h13 h14 h15 zero less = h0
below_sixteen P h0 h1 h2 h3 h4 h5 h6 h7 h8 h9 h10 h11 h12 h13 h14 h15 (suc zero) less = h1
below_sixteen P h0 h1 h2 h3 h4 h5 h6 h7 h8 h9 h10 h11 h12 h13 h14 h15 (suc (suc zero)) less = h2
below_sixteen P h0 h1 h2 h3 h4 h5 h6 h7 h8 h9 h10 h11 h12 h13 h14 h15 (suc (suc (suc zero))) less = h3
below_sixteen P h0 h1 h2 h3 h4 h5 h6 h7 h8 h9 h10 h11 h12 h13 h14 h15 (suc (suc (suc (suc zero)))) less = h4
below_sixteen P h0 h1 h2 h3 h4 h5 h6 h7 h8 h9 h10 h11 h12 h13 h14 h15 (suc (suc (suc (suc (suc zero))))) less = h5
below_sixteen P h0 h1 h2 h3 h4 h5 h6 h7 h8 h9 h10 h11 h12 h13 h14 h15 (suc (suc (suc (suc (suc (suc zero)))))) less = h6
below_sixteen P h0 h1 h2 h3 h4 h5 h6 h7 h8 h9 h10 h11 h12 h13 h14 h15 (suc (suc (suc (suc (suc (suc (suc zero))))))) less = h7
below_sixteen P h0 h1 h2 h3 h4 h5 h6 h7 h8 h9 h10 h11 h12 h13 h14 h15 (suc (suc (suc (suc (suc (suc (suc (suc zero)))))))) less = h8
below_sixteen P h0 h1 h2 h3 h4 h5 h6 h7 h8 h9 h10 h11 h12 h13 h14 h15 (suc (suc (suc (suc (suc (suc (suc (suc (suc zero))))))))) less = h9
below_sixteen P h0 h1 h2 h3 h4 h5 h6 h7 h8 h9 h10 h11 h12 h13 h14 h15 (suc (suc (suc (suc (suc (suc (suc (suc (suc (suc zero)))))))))) less = h10
below_sixteen P h0 h1 h2 h3 h4 h5 h6 h7 h8 h9 h10 h11 h12 h13 h14 h15 (suc (suc (suc (suc (suc (suc (suc (suc (suc (suc (suc zero))))))))))) less = h11
below_sixteen P h0 h1 h2 h3 h4 h5 h6 h7 h8 h9 h10 h11 h12 h13 h14 h15 (suc (suc (suc (suc (suc (suc (suc (suc (suc (suc (suc (suc zero)))))))))))) less = h12
below_sixteen P h0 h1 h2 h3 h4 h5 h6 h7 h8 h9 h10 h11 h12 h13 h14 h15 (suc (suc (suc (suc (suc (suc (suc (suc (suc (suc (suc (suc (suc zero))))))))))))) less = h13
below_sixteen P h0 h1 h2 h3 h4 h5 h6 h7 h8 h9 h10 h11 h12 h13 h14 h15 (suc (suc (suc (suc (suc (suc (suc (suc (suc (suc (suc (suc (suc (suc zero)))))))))))))) less = h14
below_sixteen P h0 h1 h2 h3 h4 h5 h6 h7 h8 h9 h10 h11 h12 h13 h14 h15 (suc (suc (suc (suc (suc (suc (suc (suc (suc (suc (suc (suc (suc (suc (suc zero))))))))))))))) less = h15
below_sixteen P h0 h1 h2 h3 h4 h5 h6 h7 h8 h9 h10 h11 h12 h13 h14 h15 (suc (suc (suc (suc (suc (suc (suc (suc (suc (suc (suc (suc (suc (suc (suc (suc k)))))))))))))))) less = absurd (omega arith)

-- each lane four times
abbrev pub four_times_four : List ℕ → List ℕ
four_times_four lanes = get_or lanes 0 0 ∷ get_or lanes 0 0 ∷ get_or lanes 0 0 ∷ get_or lanes 0 0 ∷ get_or lanes 1 0 ∷ get_or lanes 1 0 ∷ get_or lanes 1 0 ∷ get_or lanes 1 0 ∷ get_or lanes 2 0 ∷ get_or lanes 2 0 ∷ get_or lanes 2 0 ∷ get_or lanes 2 0 ∷ get_or lanes 3 0 ∷ get_or lanes 3 0 ∷ get_or lanes 3 0 ∷ get_or lanes 3 0 ∷ []

abbrev pub four_times_two : List ℕ → List ℕ
four_times_two lanes = get_or lanes 0 0 ∷ get_or lanes 0 0 ∷ get_or lanes 0 0 ∷ get_or lanes 0 0 ∷ get_or lanes 1 0 ∷ get_or lanes 1 0 ∷ get_or lanes 1 0 ∷ get_or lanes 1 0 ∷ []

pub four_times_four-at : (lanes : List ℕ) (column : ℕ) → column < 16 → slice_index (four_times_four lanes) column ≡ slice_index lanes (column / 4)
four_times_four-at lanes = below_sixteen (λ column. slice_index (four_times_four lanes) column ≡ slice_index lanes (column / 4)) refl refl refl refl refl refl refl refl refl refl refl refl refl refl refl refl

pub four_times_two-at : (lanes : List ℕ) (column : ℕ) → column < 8 → slice_index (four_times_two lanes) column ≡ slice_index lanes (column / 4)
four_times_two-at lanes column less = elim (cases_lt column 4) [
  | inl first ↦ below_four (λ column. slice_index (four_times_two lanes) column ≡ slice_index lanes (column / 4)) refl refl refl refl column first
  | inr second ↦
      let at : 4 + (column - 4) ≡ column = omega (arith, second) in
      rw (← at) (below_four (λ k. slice_index (four_times_two lanes) (4 + k) ≡ slice_index lanes ((4 + k) / 4)) refl refl refl refl (column - 4) (omega (arith, less)))
]

-- the two parts of the residual in a column
abbrev pub more_of : List ℤ → ℕ → ℕ
more_of firsts k = clamped_sample (eighth (slice_index_or firsts k (pos 0)))

abbrev pub less_of : List ℤ → ℕ → ℕ
less_of firsts k = clamped_sample (neg_ℤ (eighth (slice_index_or firsts k (pos 0))))

residual_is : (firsts : List ℤ) (column row : ℕ) → SFits w16 (slice_index_or firsts (column / 4) (pos 0)) → row < 4 → firsts_residual firsts column row ≡ eighth (slice_index_or firsts (column / 4) (pos 0))
unfolding firsts_residual
residual_is firsts column row fits below = inverse_dct-first (slice_index_or firsts (column / 4) (pos 0)) fits (column % 4) row (omega arith) below

-- the lanes of a vector of four, followed by others
pub part_at : (f : ℕ → ℕ) (lanes rest : List ℕ) → lanes ≡ map f (range_with_len 0 4) → (k : ℕ) → k < 4 → slice_index (lanes ++ rest) k ≡ f k
part_at f lanes rest are = rw are (below_four (λ k. slice_index (map f (range_with_len 0 4) ++ rest) k ≡ f k) refl refl refl refl)

-- the parts of the residual of four blocks next to each other
pub parts_of : (firsts : List ℤ) (lanes lanes' : List ℕ) → ((k : ℕ) → k < 4 → SFits w16 (slice_index_or firsts k (pos 0))) → ((k : ℕ) → k < 4 → slice_index lanes k ≡ more_of firsts k) → ((k : ℕ) → k < 4 → slice_index lanes' k ≡ less_of firsts k) →
    (column row : ℕ) → column < 16 → row < 4 → (slice_index (four_times_four lanes) column ≡ clamped_sample (firsts_residual firsts column row)) × (slice_index (four_times_four lanes') column ≡ clamped_sample (neg_ℤ (firsts_residual firsts column row)))
parts_of firsts lanes lanes' fits are are' column row inside below =
    let k : column / 4 < 4 = omega (arith, inside) in
    let is = residual_is firsts column row (fits (column / 4) k) below in
    (four_times_four-at lanes column inside ∙ are (column / 4) k ∙ sym (ap clamped_sample is), four_times_four-at lanes' column inside ∙ are' (column / 4) k ∙ sym (ap (λ z. clamped_sample (neg_ℤ z)) is))

pub below_two : (P : ℕ → Type 0) → P 0 → P 1 → (k : ℕ) → k < 2 → P k
below_two P at0 at1 zero less = at0
below_two P at0 at1 (suc zero) less = at1
below_two P at0 at1 (suc (suc k)) less = absurd (omega arith)

-- and of two
pub parts_of_two : (firsts : List ℤ) (lanes lanes' : List ℕ) → ((k : ℕ) → k < 2 → SFits w16 (slice_index_or firsts k (pos 0))) → ((k : ℕ) → k < 2 → slice_index lanes k ≡ more_of firsts k) → ((k : ℕ) → k < 2 → slice_index lanes' k ≡ less_of firsts k) →
    (column row : ℕ) → column < 8 → row < 4 → (slice_index (four_times_two lanes) column ≡ clamped_sample (firsts_residual firsts column row)) × (slice_index (four_times_two lanes') column ≡ clamped_sample (neg_ℤ (firsts_residual firsts column row)))
parts_of_two firsts lanes lanes' fits are are' column row inside below =
    let k : column / 4 < 2 = omega (arith, inside) in
    let is = residual_is firsts column row (fits (column / 4) k) below in
    (four_times_two-at lanes column inside ∙ are (column / 4) k ∙ sym (ap clamped_sample is), four_times_two-at lanes' column inside ∙ are' (column / 4) k ∙ sym (ap (λ z. clamped_sample (neg_ℤ z)) is))

-- ---- first coefficients that are 0

no_residual : (firsts : List ℤ) (column row : ℕ) → slice_index_or firsts (column / 4) (pos 0) ≡ pos 0 → row < 4 → firsts_residual firsts column row ≡ pos 0
unfolding firsts_residual eighth
no_residual firsts column row none below = rw none (inverse_dct-first (pos 0) (record { sfits = lit< tt }) (column % 4) row (omega arith) below)

alone : (sample : ℕ) → sample < 256 → clamped_sample (pos sample +ℤ pos 0) ≡ sample
alone sample small = rw add-zero (omega arith)

pub zero_of : (z : ℤ) → SFits w16 z → of_z w16 z ≡ 0 → z ≡ pos 0
zero_of z fits is = sym (to_z-of_z w16 z fits) ∙ ap (to_z w16) is

-- samples to which nothing is added
pub nothing_added : (firsts : List ℤ) (count stride : ℕ) (samples : List ℕ) → ((k : ℕ) → k < count → slice_index_or firsts k (pos 0) ≡ pos 0) → ((k : ℕ) → slice_index samples k < 256) → IsAdded (firsts_residual firsts) (4 * count) stride samples samples
nothing_added firsts count stride samples none small = record {
  whole = refl;
  each = λ column row inside below. sym (ap (λ (r : ℤ). clamped_sample (pos (slice_index samples (row * stride + column)) +ℤ r)) (no_residual firsts column row (none (column / 4) (omega (arith, inside))) below) ∙ alone _ (small (row * stride + column)));
  others = λ column row inside beside. refl;
}
