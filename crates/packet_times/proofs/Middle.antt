-- The median of a list is the number in the middle of it once it is in ascending order.
use Rattle.std.proofs.Common.{◌≡◌, ℕ, zero, suc, ◌+◌, ◌-◌, ◌*◌, ◌/◌, ◌<◌, ◌≤◌, ◌⊎◌, min, Bool, true, false, cond, List, [], ◌∷◌, length, filter, count_by, get_or, nat_le, nat_lt, ◌==◌, nat_cmp, is_lt, IsPermutation, IsSorted, Contains, refl, sym, ap, ◌∙◌, inl, inr, arith}
use Rattle.std.proofs.lemmas.Bool.{cases_lt, leb-true, le-leb, lt-leb, ltb-false}
use Rattle.std.proofs.lemmas.Bool.Decides.{nat_tests}
use Rattle.std.proofs.lemmas.List.Sums.{sum_by-cons}
use Rattle.std.proofs.lemmas.List.Elements.{Contains-get_or, at_from_Contains}
use Rattle.std.proofs.lemmas.List.Sorted.{IsPermutation-sym, Contains-permutation, sum_by-IsPermutation, length_permutation, sorted_far, ranks_by}
use Rattle.std.specs.Cmp.{nat_cmp_total}
use Rattle.packet_times.specs.Medians.{is_half, least}

-- ---- the least number that passes a test

least_more : (x : ℕ) (xs : List ℕ) → (xs ≡ []) ⊎ (least (x ∷ xs) ≡ min x (least xs))
least_more x [] = inl refl
least_more x (y ∷ ys) = inr refl

-- if each number that passes is no less than m, then the least one is not either
abbrev Bounded : (ℕ → Bool) → ℕ → List ℕ → Type 0
Bounded p m xs = (filter p xs ≡ []) ⊎ (m ≤ least (filter p xs))

bounded : (p : ℕ → Bool) (m : ℕ) (above : (x : ℕ) → p x ≡ true → m ≤ x) (xs : List ℕ) → Bounded p m xs
bounded p m above [] = inl refl
bounded p m above (x ∷ xs) = by_first (p x) refl (bounded p m above xs)
  where
    by_first : (b : Bool) → p x ≡ b → Bounded p m xs → Bounded p m (x ∷ xs)
    by_first false e rest = rw e rest
    by_first true e rest = rw e (inr (elim rest [
      | inl none ↦ rw none (above x e)
      | inr low ↦ elim (least_more x (filter p xs)) [
        | inl none ↦ rw none (above x e)
        | inr more ↦ rw more (omega (arith, above x e, low))
      ]
    ]))

some_pass : (p : ℕ → Bool) (m : ℕ) (passes : p m ≡ true) (ys : List ℕ) (k : ℕ) → k < length ys → get_or ys k m ≡ m → filter p ys ≡ [] → ⊥
some_pass p m passes [] k within at none = omega arith
some_pass p m passes (y ∷ ys) zero within at none =
    let e : p y ≡ true = ap p at ∙ passes in
    let n = rw e at none in
    cc
some_pass p m passes (y ∷ ys) (suc k) within at none = by_next (p y) refl (some_pass p m passes ys k (omega arith) at)
  where
    by_next : (b : Bool) → p y ≡ b → (filter p ys ≡ [] → ⊥) → ⊥
    by_next false e rest = rest (rw e at none)
    by_next true e rest = let n = rw e at none in cc

-- a number that passes and is no greater than the others that do is the least
least_is : (p : ℕ → Bool) (m : ℕ) (above : (x : ℕ) → p x ≡ true → m ≤ x) (passes : p m ≡ true) (xs : List ℕ) (i : ℕ) → i < length xs → get_or xs i m ≡ m → least (filter p xs) ≡ m
least_is p m above passes [] i below here = absurd (omega arith)
least_is p m above passes (x ∷ xs) zero below here =
    let first : p x ≡ true = ap p here ∙ passes in
    rw first (elim (least_more x (filter p xs)) [
      | inl none ↦ rw none here
      | inr more ↦ elim (bounded p m above xs) [ inl none ↦ rw none here | inr low ↦ more ∙ omega (arith, here, low) ]
    ])
least_is p m above passes (x ∷ xs) (suc i) below here = by_first (p x) refl (least_is p m above passes xs i (omega arith) here)
  where
    by_first : (b : Bool) → p x ≡ b → least (filter p xs) ≡ m → least (filter p (x ∷ xs)) ≡ m
    by_first false e rest = rw e rest
    by_first true e rest =
        rw e (elim (least_more x (filter p xs)) [
          | inl none ↦ absurd (some_pass p m passes xs i (omega arith) here none)
          | inr more ↦ more ∙ omega (arith, rest, above x e)
        ])

-- ---- counting

abbrev one_if : Bool → ℕ
one_if b = cond b 1 0

count_first : (p : ℕ → Bool) (xs : List ℕ) (n : ℕ) → n ≤ length xs → ((i : ℕ) → i < n → p (get_or xs i 0) ≡ true) → n ≤ count_by p xs
count_first p [] n short pass = omega arith
count_first p (x ∷ xs) zero short pass = omega arith
count_first p (x ∷ xs) (suc n) short pass =
    let rest : n ≤ count_by p xs = count_first p xs n (omega arith) (λ i below. pass (suc i) (omega arith)) in
    let one : cond (p x) 1 0 ≡ 1 = ap (λ (b : Bool). one_if b) (pass 0 (omega arith)) in
    omega (arith, rest, one, sum_by-cons (λ y. cond (p y) 1 0) x xs)

count_last : (p : ℕ → Bool) (xs : List ℕ) (n : ℕ) → ((i : ℕ) → n ≤ i → i < length xs → p (get_or xs i 0) ≡ false) → count_by p xs ≤ n
count_last p [] n fail = omega arith
count_last p (x ∷ xs) zero fail =
    let rest : count_by p xs ≤ 0 = count_last p xs 0 (λ i from below. fail (suc i) (omega arith) (omega arith)) in
    let none : cond (p x) 1 0 ≡ 0 = ap (λ (b : Bool). one_if b) (fail 0 (omega arith) (omega arith)) in
    omega (arith, rest, none, sum_by-cons (λ y. cond (p y) 1 0) x xs)
count_last p (x ∷ xs) (suc n) fail =
    let rest : count_by p xs ≤ n = count_last p xs n (λ i from below. fail (suc i) (omega arith) (omega arith)) in
    let one : cond (p x) 1 0 ≤ 1 = grind (arith, nat_tests) in
    omega (arith, rest, one, sum_by-cons (λ y. cond (p y) 1 0) x xs)

-- ---- the middle

lt_cmp : (x y : ℕ) → is_lt (nat_cmp x y) ≡ nat_lt x y
lt_cmp x y = by_first (nat_lt x y) (x == y) refl refl
  where
    by_first : (b c : Bool) → nat_lt x y ≡ b → (x == y) ≡ c → is_lt (nat_cmp x y) ≡ nat_lt x y
    by_first true c less same = rw less refl
    by_first false true less same = rw (less, same) refl
    by_first false false less same = rw (less, same) refl

rises : (sorted : List ℕ) → IsSorted nat_cmp sorted → (i j : ℕ) → i ≤ j → j < length sorted → get_or sorted i 0 ≤ get_or sorted j 0
rises sorted up i j from below =
    let far = sorted_far (λ x y. is_lt (nat_cmp x y)) (ranks_by nat_cmp_total (λ (x : ℕ). x)) sorted up i j 0 from below in
    ltb-false (get_or sorted j 0) (get_or sorted i 0) (sym (lt_cmp (get_or sorted j 0) (get_or sorted i 0)) ∙ far)

abbrev middle : List ℕ → ℕ
middle xs = (length xs - 1) / 2

half_middle : (sorted : List ℕ) → IsSorted nat_cmp sorted → 0 < length sorted → is_half sorted (get_or sorted (middle sorted) 0) ≡ true
half_middle sorted up some =
    let m : ℕ = get_or sorted (middle sorted) 0 in
    let count : middle sorted + 1 ≤ count_by (λ other. nat_le other m) sorted =
    count_first (λ other. nat_le other m) sorted (middle sorted + 1) (omega arith) (λ i below. le-leb (get_or sorted i 0) m (rises sorted up i (middle sorted) (omega arith) (omega arith))) in
    le-leb _ _ (omega (arith, count))

half_from : (sorted : List ℕ) → IsSorted nat_cmp sorted → 0 < length sorted → (step : ℕ) → is_half sorted step ≡ true → get_or sorted (middle sorted) 0 ≤ step
half_from sorted up some step half =
    let m : ℕ = get_or sorted (middle sorted) 0 in
    elim (cases_lt step m) [
      | inl less ↦
          let count : count_by (λ other. nat_le other step) sorted ≤ middle sorted =
          count_last (λ other. nat_le other step) sorted (middle sorted) (λ i from below. lt-leb (get_or sorted i 0) step (omega (arith, less, rises sorted up (middle sorted) i from below))) in
          absurd (omega (arith, count, leb-true _ _ half))
      | inr more ↦ more
    ]

-- a test of a list is the same of a permutation
half_same : (steps sorted : List ℕ) → IsPermutation steps sorted → (step : ℕ) → is_half steps step ≡ is_half sorted step
half_same steps sorted same step =
    let count = sum_by-IsPermutation (λ other. cond (nat_le other step) 1 0) steps sorted same in
    let long = length_permutation steps sorted same in
    ap (λ (n : ℕ). nat_le n (2 * count_by (λ other. nat_le other step) steps)) (sym long) ∙ ap (λ (n : ℕ). nat_le (length sorted) (2 * n)) (sym count)

pub middle_is_median : (steps sorted : List ℕ) → IsPermutation steps sorted → IsSorted nat_cmp sorted → get_or sorted (middle sorted) 0 ≡ least (filter (is_half steps) steps)
middle_is_median [] sorted same up =
    let none : length sorted ≡ 0 = length_permutation [] sorted same in
    empty sorted none
  where
    empty : (xs : List ℕ) → length xs ≡ 0 → get_or xs (middle xs) 0 ≡ 0
    empty [] none = refl
    empty (x ∷ xs) none = absurd (omega arith)
middle_is_median (step ∷ steps) sorted same up =
    let all : List ℕ = step ∷ steps in
    let m : ℕ = get_or sorted (middle sorted) 0 in
    let long : length sorted ≡ length all = length_permutation all sorted same in
    let some : 0 < length sorted = omega arith in
    let among : Contains all m = Contains-permutation sorted all m (IsPermutation-sym all sorted same) (Contains-get_or sorted (middle sorted) 0 (omega arith)) in
    let at = at_from_Contains all m among in
    sym (least_is (is_half all) m (λ x half. half_from sorted up some x (sym (half_same all sorted same x) ∙ half)) (half_same all sorted same m ∙ half_middle sorted up some) all at.0 at.1 (at.2 m))
