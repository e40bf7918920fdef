-- Hidden packets, one more at a time.
use Rattle.std.proofs.Common.{◌≡◌, ℕ, zero, suc, ◌+◌, ◌-◌, ◌≤◌, Bool, true, false, cond, List, [], ◌∷◌, ◌++◌, map, take, drop, slice_get, Some, refl, sym, ap, ◌∙◌, arith, append_assoc, append-nil}
use Rattle.std.specs.Prelude.{slice_range}
use Rattle.std.specs.List.{filter}
use Rattle.std.proofs.lemmas.List.{map-append}
use Rattle.frame_header.specs.ShowBits.{with_show_bit}
use Rattle.lossless_cuts.specs.Plans.{has_bytes, hidden}

by_bytes : (x : List ℕ) (xs ys : List (List ℕ)) (bytes : Bool) → filter has_bytes (xs ++ ys) ≡ filter has_bytes xs ++ filter has_bytes ys
    → cond bytes (x ∷ filter has_bytes (xs ++ ys)) (filter has_bytes (xs ++ ys)) ≡ cond bytes (x ∷ filter has_bytes xs) (filter has_bytes xs) ++ filter has_bytes ys
by_bytes x xs ys true same = ap (λ (zs : List (List ℕ)). x ∷ zs) same
by_bytes x xs ys false same = same

filter_append : (xs ys : List (List ℕ)) → filter has_bytes (xs ++ ys) ≡ filter has_bytes xs ++ filter has_bytes ys
filter_append [] ys = refl
filter_append (x ∷ xs) ys = by_bytes x xs ys (has_bytes x) (filter_append xs ys)

pub hidden_append : (xs ys : List (List ℕ)) → hidden (xs ++ ys) ≡ hidden xs ++ hidden ys
hidden_append xs ys = ap (map (with_show_bit false)) (filter_append xs ys) ∙ map-append (with_show_bit false) (filter has_bytes xs) (filter has_bytes ys)

-- one packet more of a range
range_more : (xs : List (List ℕ)) (first n : ℕ) (x : List ℕ) → slice_get xs (first + n) ≡ Some x → take (suc n) (drop first xs) ≡ take n (drop first xs) ++ x ∷ []
range_more [] first n x here = cc
range_more (y ∷ xs) zero zero x here = let same : y ≡ x = cc in ap (λ (z : List ℕ). z ∷ []) same
range_more (y ∷ xs) zero (suc n) x here =
    let moved : n ≡ 0 + n = omega arith in
    let moved' : suc n ≡ 0 + suc n = omega arith in
    ap (λ (zs : List (List ℕ)). y ∷ zs) (range_more xs 0 n x (ap (λ (k : ℕ). slice_get xs k) (sym moved) ∙ ap (λ (k : ℕ). slice_get (y ∷ xs) k) moved' ∙ here))
range_more (y ∷ xs) (suc first) n x here =
    let moved : suc (first + n) ≡ suc first + n = omega arith in
    range_more xs first n x (ap (λ (k : ℕ). slice_get (y ∷ xs) k) moved ∙ here)

pub slice_more : (xs : List (List ℕ)) (first place : ℕ) (x : List ℕ) → first ≤ place → slice_get xs place ≡ Some x → slice_range xs first (place + 1) ≡ slice_range xs first place ++ x ∷ []
slice_more xs first place x low here =
    let whole : first + (place - first) ≡ place = omega arith in
    let next : place + 1 - first ≡ suc (place - first) = omega arith in
    ap (λ (n : ℕ). take n (drop first xs)) next ∙ range_more xs first (place - first) x (ap (λ (k : ℕ). slice_get xs k) whole ∙ here)

-- packets appended for one more place
pub lead_more : (before out new : List (List ℕ)) (xs : List (List ℕ)) (first place : ℕ) (x : List ℕ) → first ≤ place → slice_get xs place ≡ Some x → out ≡ before ++ hidden (slice_range xs first place) → new ≡ out ++ hidden (x ∷ []) → new ≡ before ++ hidden (slice_range xs first (place + 1))
lead_more before out new xs first place x low here was is =
    is ∙ ap (λ (ys : List (List ℕ)). ys ++ hidden (x ∷ [])) was
    ∙ append_assoc before (hidden (slice_range xs first place)) (hidden (x ∷ []))
    ∙ ap (λ (ys : List (List ℕ)). before ++ ys) (sym (hidden_append (slice_range xs first place) (x ∷ [])))
    ∙ ap (λ (ys : List (List ℕ)). before ++ hidden ys) (sym (slice_more xs first place x low here))

-- nothing is appended at first
pub lead_none : (before xs : List (List ℕ)) (first : ℕ) → before ≡ before ++ hidden (slice_range xs first first)
lead_none before xs first =
    let none : first - first ≡ 0 = omega arith in
    sym (ap (λ (n : ℕ). before ++ hidden (take n (drop first xs))) none ∙ append-nil before)
