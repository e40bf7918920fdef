-- Texts that a loop writes, element by element.
use Rattle.std.proofs.Common.{◌≡◌, ℕ, zero, suc, ◌+◌, ◌≤◌, List, [], ◌∷◌, ◌++◌, drop, length, ap, sym, ◌∙◌, append_assoc, append-nil, arith}
use Rattle.std.proofs.lemmas.List.{drop_all}
use Rattle.std.proofs.lemmas.Grind.{flat_map-append}
use Rattle.std.specs.List.{flat_map, range_with_len}

-- the text of one element more
pub written_next : {A : Type 0} (f : A → List ℕ) (done : List ℕ) (xs : List A) (i : ℕ) (x : A) (all : List ℕ)
    → drop i xs ≡ x ∷ drop (i + 1) xs → done ++ flat_map f (drop i xs) ≡ all → (done ++ f x) ++ flat_map f (drop (i + 1) xs) ≡ all
written_next {A} f done xs i x all at whole =
    append_assoc done (f x) (flat_map f (drop (i + 1) xs)) ∙ ap (λ (ys : List A). done ++ flat_map f ys) (sym at) ∙ whole

-- and of all
pub written_all : {A : Type 0} (f : A → List ℕ) (done : List ℕ) (xs : List A) (i : ℕ) (all : List ℕ)
    → length xs ≤ i → done ++ flat_map f (drop i xs) ≡ all → done ≡ all
written_all {A} f done xs i all over whole = sym (append-nil done) ∙ ap (λ (ys : List A). done ++ flat_map f ys) (sym (drop_all i xs over)) ∙ whole

-- one number more
pub range_more : (a n j : ℕ) → a + n ≡ j → range_with_len a (n + 1) ≡ range_with_len a n ++ j ∷ []
range_more a zero j at = let is : a ≡ j = omega (arith, at) in ap (λ (k : ℕ). k ∷ []) is
range_more a (suc n) j at =
    let one : suc n + 1 ≡ suc (n + 1) = omega arith in
    ap (λ (k : ℕ). range_with_len a k) one ∙ ap (λ (ks : List ℕ). a ∷ ks) (range_more (a + 1) n j (omega (arith, at)))

-- and its text
pub texts_more : (f : ℕ → List ℕ) (a n j : ℕ) → a + n ≡ j → flat_map f (range_with_len a (n + 1)) ≡ flat_map f (range_with_len a n) ++ f j
texts_more f a n j at =
    ap (λ (ks : List ℕ). flat_map f ks) (range_more a n j at) ∙ flat_map-append f (range_with_len a n) (j ∷ []) ∙ ap (λ (t : List ℕ). flat_map f (range_with_len a n) ++ t) (append-nil (f j))
