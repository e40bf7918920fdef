-- The inverse transforms (RFC 6386, section 14). Numbers are whole; `reduced` cuts one to 16 bits.
use Rattle.std.specs.Prelude.{ℕ, zero, suc, ◌+◌, ◌*◌, ◌/◌, ◌%◌, List, map, slice_index_or, ℤ, pos, ◌+ℤ◌, ◌-ℤ◌, ◌*ℤ◌}
use Rattle.std.specs.List.{range_with_len}
use Rattle.std.specs.Int.{int_shr, int_wrap, w16}

-- the low 16 bits of a number, in two's complement
abbrev pub reduced : ℤ → ℤ
reduced x = int_wrap w16 x

-- the coefficient in a column of a row of four
abbrev pub coefficient : List ℤ → ℕ → ℕ → ℤ
coefficient coefficients column row = slice_index_or coefficients (4 * row + column) (pos 0)

-- sqrt 2 times the sine of pi / 8 times x, and the same with the cosine, in 65,536ths rounded down (`sinpi8sqrt2` and `cospi8sqrt2minus1` in section 14.3)
unfoldable pub by_sine : ℤ → ℤ
by_sine x = int_shr (x *ℤ pos 35468) 16

unfoldable pub by_cosine : ℤ → ℤ
by_cosine x = x +ℤ int_shr (x *ℤ pos 20091) 16

-- number n of the four results of one pass of the inverse DCT over four numbers (section 14.3)
unfoldable pub dct_pass : ℕ → ℤ → ℤ → ℤ → ℤ → ℤ
dct_pass zero i0 i1 i2 i3 = (i0 +ℤ i2) +ℤ (by_cosine i1 +ℤ by_sine i3)
dct_pass (suc zero) i0 i1 i2 i3 = (i0 -ℤ i2) +ℤ (by_sine i1 -ℤ by_cosine i3)
dct_pass (suc (suc zero)) i0 i1 i2 i3 = (i0 -ℤ i2) -ℤ (by_sine i1 -ℤ by_cosine i3)
dct_pass (suc (suc (suc n))) i0 i1 i2 i3 = (i0 +ℤ i2) -ℤ (by_cosine i1 +ℤ by_sine i3)

-- the result of the first pass, over a column, in a row of it
unfoldable pub dct_column : List ℤ → ℕ → ℕ → ℤ
dct_column coefficients column row =
    let at = coefficient coefficients column in
    reduced (dct_pass row (at 0) (at 1) (at 2) (at 3))

-- an eighth of a number, rounded to the nearest
unfoldable pub eighth : ℤ → ℤ
eighth x = int_shr (x +ℤ pos 4) 3

-- the residual in a column of a row: the second pass, over the row (section 14.3)
unfoldable pub inverse_dct : List ℤ → ℕ → ℕ → ℤ
inverse_dct coefficients column row =
    let at = λ (k : ℕ). dct_column coefficients k row in
    eighth (dct_pass column (at 0) (at 1) (at 2) (at 3))

-- number n of the four results of one pass of the inverse WHT over four numbers (section 14.3)
unfoldable pub wht_pass : ℕ → ℤ → ℤ → ℤ → ℤ → ℤ
wht_pass zero i0 i1 i2 i3 = (i0 +ℤ i3) +ℤ (i1 +ℤ i2)
wht_pass (suc zero) i0 i1 i2 i3 = (i1 -ℤ i2) +ℤ (i0 -ℤ i3)
wht_pass (suc (suc zero)) i0 i1 i2 i3 = (i0 +ℤ i3) -ℤ (i1 +ℤ i2)
wht_pass (suc (suc (suc n))) i0 i1 i2 i3 = (i0 -ℤ i3) -ℤ (i1 -ℤ i2)

-- the result of the first pass, over a column, in a row of it
unfoldable pub wht_column : List ℤ → ℕ → ℕ → ℤ
wht_column coefficients column row =
    let at = coefficient coefficients column in
    reduced (wht_pass row (at 0) (at 1) (at 2) (at 3))

-- the number in a column of a row: the second pass, over the row, in eighths (section 14.3). An eighth of the sum of four
-- numbers of 16 bits has 16 bits itself
unfoldable pub inverse_wht_at : List ℤ → ℕ → ℕ → ℤ
inverse_wht_at coefficients column row =
    let at = λ (k : ℕ). wht_column coefficients k row in
    int_shr (wht_pass column (at 0) (at 1) (at 2) (at 3) +ℤ pos 3) 3

-- all sixteen, in raster order: the first coefficients of a macroblock's luma blocks
abbrev pub inverse_wht : List ℤ → List ℤ
inverse_wht coefficients = map (λ k. inverse_wht_at coefficients (k % 4) (k / 4)) (range_with_len 0 16)

-- each of the sixteen, if only the first coefficient is not 0
unfoldable pub wht_alone : ℤ → ℤ
wht_alone first = int_shr (first +ℤ pos 3) 3
