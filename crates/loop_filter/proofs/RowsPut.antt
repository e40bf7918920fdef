-- Rows that are written into samples, and samples that are set in sequence.
use Rattle.std.specs.Prelude.{slice_index}
use Rattle.std.specs.Simd.Lanes.{put_chunk}
use Rattle.std.proofs.Common.{◌≡◌, ◌⊎◌, inl, inr, ℕ, zero, suc, ◌+◌, ◌*◌, ◌<◌, ◌≤◌, List, [], ◌∷◌, length, take, set, get_or, refl, ap, sym, ◌∙◌, arith}
use Rattle.std.proofs.Math.Nat.{mul-le-mul_right}
use Rattle.std.proofs.lemmas.Simd.{get_or-put_chunk_below, get_or-put_chunk_above}
use Rattle.loop_filter.specs.Lanes.{rows_put}

-- writing nothing
pub put_none : (at : ℕ) (xs : List ℕ) → put_chunk at xs [] ≡ xs
put_none at [] = refl
put_none zero (x ∷ xs) = refl
put_none (suc at) (x ∷ xs) = ap (λ (l : List ℕ). x ∷ l) (put_none at xs)

-- writing one sample, and then the others
put_first : (at : ℕ) (xs : List ℕ) (y : ℕ) (ys : List ℕ) → put_chunk at xs (y ∷ ys) ≡ put_chunk (suc at) (set xs at y) ys
put_first zero [] y ys = refl
put_first (suc at) [] y ys = refl
put_first zero (x ∷ xs) y ys = refl
put_first (suc at) (x ∷ xs) y ys = ap (λ (l : List ℕ). x ∷ l) (put_first at xs y ys)

pub put_next : (at next : ℕ) (xs : List ℕ) (y : ℕ) (ys : List ℕ) → suc at ≡ next → put_chunk at xs (y ∷ ys) ≡ put_chunk next (set xs at y) ys
put_next at next xs y ys same = put_first at xs y ys ∙ ap (λ (n : ℕ). put_chunk n (set xs at y) ys) same

pub put_last : (at : ℕ) (xs : List ℕ) (y : ℕ) → put_chunk at xs (y ∷ []) ≡ set xs at y
put_last at xs y = put_first at xs y [] ∙ put_none (suc at) (set xs at y)

-- one more sample of a row
put_more : (at : ℕ) (xs line : List ℕ) (n place : ℕ) → n < length line → at + n ≡ place → put_chunk at xs (take (suc n) line) ≡ set (put_chunk at xs (take n line)) place (get_or line n 0)
put_more at xs [] n place less same = absurd (omega arith)
put_more at xs (y ∷ ys) zero place less same = let is : at ≡ place = omega arith in put_last at xs y ∙ rw (put_none at xs, is) refl
put_more at xs (y ∷ ys) (suc n) place less same =
    put_first at xs y (take (suc n) ys) ∙ put_more (suc at) (set xs at y) ys n place (omega arith) (omega arith) ∙ ap (λ (l : List ℕ). set l place (get_or ys n 0)) (sym (put_first at xs y (take n ys)))

-- a sample that is set before what is written, and two samples that are set
put_set : (at : ℕ) (xs ys : List ℕ) (p v : ℕ) → p < at → put_chunk at (set xs p v) ys ≡ set (put_chunk at xs ys) p v
put_set zero xs ys p v less = absurd (omega arith)
put_set (suc at) [] ys zero v less = refl
put_set (suc at) [] ys (suc p) v less = refl
put_set (suc at) (x ∷ xs) ys zero v less = refl
put_set (suc at) (x ∷ xs) ys (suc p) v less = ap (λ (l : List ℕ). x ∷ l) (put_set at xs ys p v (omega arith))

set_set : (xs : List ℕ) (p q v w : ℕ) → p < q → set (set xs p v) q w ≡ set (set xs q w) p v
set_set xs p zero v w less = absurd (omega arith)
set_set [] zero (suc q) v w less = refl
set_set [] (suc p) (suc q) v w less = refl
set_set (x ∷ xs) zero (suc q) v w less = refl
set_set (x ∷ xs) (suc p) (suc q) v w less = ap (λ (l : List ℕ). x ∷ l) (set_set xs p q v w (omega arith))

-- samples that are set `across` apart
unfoldable pub line_sets : List ℕ → ℕ → ℕ → (ℕ → ℕ) → ℕ → List ℕ
line_sets s at across v zero = s
line_sets s at across v (suc m) = set (line_sets s at across v m) (at + m * across) (v m)

pub put_past_sets : (s : List ℕ) (at across : ℕ) (v : ℕ → ℕ) (m place : ℕ) (ys : List ℕ) → ((j : ℕ) → j < m → at + j * across < place) → put_chunk place (line_sets s at across v m) ys ≡ line_sets (put_chunk place s ys) at across v m
unfolding line_sets
put_past_sets s at across v zero place ys before = refl
put_past_sets s at across v (suc m) place ys before =
    put_set place (line_sets s at across v m) ys (at + m * across) (v m) (before m (omega arith))
    ∙ ap (λ (l : List ℕ). set l (at + m * across) (v m)) (put_past_sets s at across v m place ys (λ j less. before j (omega arith)))

set_past_sets : (s : List ℕ) (at across : ℕ) (v : ℕ → ℕ) (m place w : ℕ) → ((j : ℕ) → j < m → at + j * across < place) → set (line_sets s at across v m) place w ≡ line_sets (set s place w) at across v m
unfolding line_sets
set_past_sets s at across v zero place w before = refl
set_past_sets s at across v (suc m) place w before =
    set_set (line_sets s at across v m) (at + m * across) place (v m) w (before m (omega arith))
    ∙ ap (λ (l : List ℕ). set l (at + m * across) (v m)) (set_past_sets s at across v m place w (λ j less. before j (omega arith)))

pub same_sets : (s : List ℕ) (at across : ℕ) (v w : ℕ → ℕ) (m : ℕ) → ((k : ℕ) → k < m → v k ≡ w k) → line_sets s at across v m ≡ line_sets s at across w m
unfolding line_sets
same_sets s at across v w zero same = refl
same_sets s at across v w (suc m) same =
    ap (λ (l : List ℕ). set l (at + m * across) (v m)) (same_sets s at across v w m (λ k less. same k (omega arith)))
    ∙ ap (λ (x : ℕ). set (line_sets s at across w m) (at + m * across) x) (same m (omega arith))

-- rows
pub same_rows : (s : List ℕ) (start stride : ℕ) (row other : ℕ → List ℕ) (m : ℕ) → ((k : ℕ) → k < m → row k ≡ other k) → rows_put s start stride row m ≡ rows_put s start stride other m
unfolding rows_put
same_rows s start stride row other zero same = refl
same_rows s start stride row other (suc m) same =
    ap (λ (l : List ℕ). put_chunk (start + m * stride) l (row m)) (same_rows s start stride row other m (λ k less. same k (omega arith)))
    ∙ ap (λ (l : List ℕ). put_chunk (start + m * stride) (rows_put s start stride other m) l) (same m (omega arith))

pub no_rows : (s : List ℕ) (start stride m : ℕ) → rows_put s start stride (λ k. []) m ≡ s
unfolding rows_put
no_rows s start stride zero = refl
no_rows s start stride (suc m) = put_none (start + m * stride) _ ∙ no_rows s start stride m

-- a sample that no row is written over
kept : (at : ℕ) (xs ys : List ℕ) (p : ℕ) → (p < at) ⊎ (at + length ys ≤ p) → slice_index (put_chunk at xs ys) p ≡ slice_index xs p
kept at xs ys p (inl before) = get_or-put_chunk_below at xs ys p 0 before
kept at xs ys p (inr following) = get_or-put_chunk_above at xs ys p 0 following

pub rows_put_other : (s : List ℕ) (start stride : ℕ) (row : ℕ → List ℕ) (m p : ℕ) → ((k : ℕ) → k < m → (p < start + k * stride) ⊎ (start + k * stride + length (row k) ≤ p)) → slice_index (rows_put s start stride row m) p ≡ slice_index s p
unfolding rows_put
rows_put_other s start stride row zero p beside = refl
rows_put_other s start stride row (suc m) p beside =
    kept (start + m * stride) (rows_put s start stride row m) (row m) p (beside m (omega arith)) ∙ rows_put_other s start stride row m p (λ k less. beside k (omega arith))

-- rows that are written in two parts
pub rows_put_on : (s : List ℕ) (start stride : ℕ) (row : ℕ → List ℕ) (n m : ℕ) → rows_put (rows_put s start stride row n) (start + n * stride) stride (λ k. row (n + k)) m ≡ rows_put s start stride row (n + m)
unfolding rows_put
rows_put_on s start stride row n zero = let same : n ≡ n + 0 = omega arith in ap (rows_put s start stride row) same
rows_put_on s start stride row n (suc m) =
    let place : start + n * stride + m * stride ≡ start + (n + m) * stride = omega arith in
    let next : suc (n + m) ≡ n + suc m = omega arith in
    ap (λ (l : List ℕ). put_chunk (start + n * stride + m * stride) l (row (n + m))) (rows_put_on s start stride row n m)
    ∙ ap (λ (at : ℕ). put_chunk at (rows_put s start stride row (n + m)) (row (n + m))) place
    ∙ ap (rows_put s start stride row) next

-- rows do not overlap
pub earlier_row : (stride row n : ℕ) → row < n → row * stride + stride ≤ n * stride
earlier_row stride row n less =
    let le : (row + 1) * stride ≤ n * stride = mul-le-mul_right stride (omega arith) in
    omega (arith, le)

-- one more column of all rows
pub one_more : (s : List ℕ) (start stride : ℕ) (row : ℕ → List ℕ) (n m : ℕ) → n < stride → ((k : ℕ) → k < m → n < length (row k))
    → rows_put s start stride (λ k. take (suc n) (row k)) m ≡ line_sets (rows_put s start stride (λ k. take n (row k)) m) (start + n) stride (λ k. get_or (row k) n 0) m
unfolding rows_put line_sets
one_more s start stride row n zero less long = refl
one_more s start stride row n (suc m) less long =
    let v : ℕ → ℕ = λ (k : ℕ). get_or (row k) n 0 in
    let before : List ℕ = rows_put s start stride (λ k. take n (row k)) m in
    let at = start + m * stride in
    let place : at + n ≡ start + n + m * stride = omega arith in
    ap (λ (l : List ℕ). put_chunk at l (take (suc n) (row m))) (one_more s start stride row n m less (λ k below. long k (omega arith)))
    ∙ put_past_sets before (start + n) stride v m at (take (suc n) (row m)) (λ j below. let e = earlier_row stride j m below in omega (arith, e))
    ∙ ap (λ (l : List ℕ). line_sets l (start + n) stride v m) (put_more at before (row m) n (start + n + m * stride) (long m (omega arith)) place)
    ∙ sym (set_past_sets (put_chunk at before (take n (row m))) (start + n) stride v m (start + n + m * stride) (v m) (λ j below. let e = earlier_row stride j m below in omega (arith, e)))
