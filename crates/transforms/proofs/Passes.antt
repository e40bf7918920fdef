-- The inverse transforms, also of a block with only a first coefficient.
use Rattle.std.proofs.Common.{◌≡◌, ℕ, zero, suc, ◌<◌, List, [], ◌∷◌, refl, ap, sym, ◌∙◌, arith, lit<, ℤ, pos, w16, SFits}
use Rattle.std.specs.Prelude.{slice_index_or, replicate, ◌/◌, ◌%◌, ◌+ℤ◌}
use Rattle.std.specs.Int.{int_shr}
use Rattle.std.proofs.lemmas.List.{get_or-replicate}
use Rattle.std.proofs.lemmas.List.FromFn.{fill_by_all}
use Rattle.std.proofs.lemmas.Int.{ints, int_wrap_fits, SFits-int_wrap}
use Rattle.transforms.specs.Transforms.{by_sine, by_cosine, reduced, eighth, dct_pass, dct_column, inverse_dct, wht_alone, wht_pass, wht_column, inverse_wht_at, inverse_wht}
use Rattle.transforms.proofs.Rows.{below_four}

-- the result of the first pass has 16 bits
pub column_fits : (cs : List ℤ) (column row : ℕ) → SFits w16 (dct_column cs column row)
unfolding dct_column
column_fits cs column row = SFits-int_wrap w16 _

-- a pass over a first number only returns it at each index
pass_first : (x : ℤ) (n : ℕ) → n < 4 → dct_pass n x (pos 0) (pos 0) (pos 0) ≡ x
unfolding dct_pass by_sine by_cosine
pass_first x = below_four (λ n. dct_pass n x (pos 0) (pos 0) (pos 0) ≡ x) (omega (arith, ints)) (omega (arith, ints)) (omega (arith, ints)) (omega (arith, ints))

reduced_zero : reduced (pos 0) ≡ pos 0
reduced_zero = int_wrap_fits w16 (pos 0) (record { sfits = lit< tt })

column_zero : (first : ℤ) (row : ℕ) → row < 4 → SFits w16 first → dct_column (first ∷ replicate 15 (pos 0)) 0 row ≡ first
unfolding dct_column
column_zero first row below fits = ap reduced (pass_first first row below) ∙ int_wrap_fits w16 first fits

column_other : (first : ℤ) (row column : ℕ) → row < 4 → column < 3 → dct_column (first ∷ replicate 15 (pos 0)) (suc column) row ≡ pos 0
unfolding dct_column
column_other first row zero below less = ap reduced (pass_first (pos 0) row below) ∙ reduced_zero
column_other first row (suc zero) below less = ap reduced (pass_first (pos 0) row below) ∙ reduced_zero
column_other first row (suc (suc zero)) below less = ap reduced (pass_first (pos 0) row below) ∙ reduced_zero
column_other first row (suc (suc (suc k))) below less = absurd (omega arith)

-- the residual of a block with only a first coefficient is the same everywhere
pub inverse_dct-first : (first : ℤ) → SFits w16 first → (column row : ℕ) → column < 4 → row < 4 → inverse_dct (first ∷ replicate 15 (pos 0)) column row ≡ eighth first
unfolding inverse_dct
inverse_dct-first first fits column row inside below =
    let at0 = column_zero first row below fits in
    let at1 = column_other first row 0 below (lit< tt) in
    let at2 = column_other first row 1 below (lit< tt) in
    let at3 = column_other first row 2 below (lit< tt) in
    rw (at0, at1, at2, at3) (ap eighth (pass_first first column inside))

-- a row of it
pub first_row : (first residual : ℤ) → SFits w16 first → residual ≡ eighth first → (row : ℕ) → row < 4 → (column : ℕ) → column < 4 → slice_index_or (residual ∷ residual ∷ residual ∷ residual ∷ []) column (pos 0) ≡ inverse_dct (first ∷ replicate 15 (pos 0)) column row
first_row first residual fits is row below column inside = same column inside ∙ is ∙ sym (inverse_dct-first first fits column row inside below)
  where
    same : (column : ℕ) → column < 4 → slice_index_or (residual ∷ residual ∷ residual ∷ residual ∷ []) column (pos 0) ≡ residual
    same = below_four (λ column. slice_index_or (residual ∷ residual ∷ residual ∷ residual ∷ []) column (pos 0) ≡ residual) refl refl refl refl

-- lists with equal heads and equal tails
pub next_same : {x y : ℤ} {xs ys : List ℤ} → x ≡ y → xs ≡ ys → x ∷ xs ≡ y ∷ ys
next_same {x} {y} {xs} {ys} first rest = ap (λ (z : ℤ). z ∷ xs) first ∙ ap (λ (l : List ℤ). y ∷ l) rest

-- the inverse WHT of a block with only a first coefficient is the same everywhere
wht_first_alone : (x : ℤ) (n : ℕ) → n < 4 → wht_pass n x (pos 0) (pos 0) (pos 0) ≡ x
unfolding wht_pass
wht_first_alone x = below_four (λ n. wht_pass n x (pos 0) (pos 0) (pos 0) ≡ x) (omega (arith, ints)) (omega (arith, ints)) (omega (arith, ints)) (omega (arith, ints))

wht_column_zero : (first : ℤ) (row : ℕ) → row < 4 → SFits w16 first → wht_column (first ∷ replicate 15 (pos 0)) 0 row ≡ first
unfolding wht_column
wht_column_zero first row below fits = ap reduced (wht_first_alone first row below) ∙ int_wrap_fits w16 first fits

wht_column_other : (first : ℤ) (row column : ℕ) → row < 4 → column < 3 → wht_column (first ∷ replicate 15 (pos 0)) (suc column) row ≡ pos 0
unfolding wht_column
wht_column_other first row zero below less = ap reduced (wht_first_alone (pos 0) row below) ∙ reduced_zero
wht_column_other first row (suc zero) below less = ap reduced (wht_first_alone (pos 0) row below) ∙ reduced_zero
wht_column_other first row (suc (suc zero)) below less = ap reduced (wht_first_alone (pos 0) row below) ∙ reduced_zero
wht_column_other first row (suc (suc (suc k))) below less = absurd (omega arith)

wht_at_first : (first : ℤ) → SFits w16 first → (column row : ℕ) → column < 4 → row < 4 → inverse_wht_at (first ∷ replicate 15 (pos 0)) column row ≡ wht_alone first
unfolding inverse_wht_at wht_alone
wht_at_first first fits column row inside below =
    let at0 = wht_column_zero first row below fits in
    let at1 = wht_column_other first row 0 below (lit< tt) in
    let at2 = wht_column_other first row 1 below (lit< tt) in
    let at3 = wht_column_other first row 2 below (lit< tt) in
    rw (at0, at1, at2, at3) (ap (λ (x : ℤ). int_shr (x +ℤ pos 3) 3) (wht_first_alone first column inside))

pub inverse_wht-first : (first result : ℤ) → SFits w16 first → result ≡ wht_alone first → replicate 16 result ≡ inverse_wht (first ∷ replicate 15 (pos 0))
inverse_wht-first first result fits is =
    fill_by_all (λ k. inverse_wht_at (first ∷ replicate 15 (pos 0)) (k % 4) (k / 4)) (replicate 16 result) 16 (pos 0) refl
    (λ k less. get_or-replicate 16 k result (pos 0) less ∙ is ∙ sym (wht_at_first first fits (k % 4) (k / 4) (omega arith) (omega arith)))
