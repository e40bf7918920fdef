-- Steps, the last one first.
use Rattle.std.proofs.Common.{◌≡◌, ◌+◌, List, [], ◌∷◌, ◌++◌, length, refl, sym, ap, ◌∙◌, arith, append_assoc}
use Rattle.edit_history.specs.declared.step.Step.{Step}
use Rattle.edit_history.specs.Steps.{last_first, turned_onto}

pub turned_front : (xs ys : List Step) → turned_onto xs ys ≡ last_first xs ++ ys
turned_front [] ys = refl
turned_front (x ∷ xs) ys = turned_front xs (x ∷ ys) ∙ sym (ap (λ (zs : List Step). zs ++ ys) (turned_front xs (x ∷ [])) ∙ append_assoc (last_first xs) (x ∷ []) ys)

-- turned round twice
turned_both : (xs ys : List Step) → last_first (turned_onto xs ys) ≡ turned_onto ys xs
turned_both [] ys = refl
turned_both (x ∷ xs) ys = turned_both xs (x ∷ ys)

pub turned_twice : (xs : List Step) → last_first (last_first xs) ≡ xs
turned_twice xs = turned_both xs []

pub last_more : (x : Step) (xs : List Step) → last_first (x ∷ xs) ≡ last_first xs ++ x ∷ []
last_more x xs = turned_front xs (x ∷ [])

length_turned : (xs ys : List Step) → length (turned_onto xs ys) ≡ length xs + length ys
length_turned [] ys = let same : length ys ≡ 0 + length ys = omega arith in same
length_turned (x ∷ xs) ys = let rest = length_turned xs (x ∷ ys) in omega (arith, rest)

pub length_last : (xs : List Step) → length (last_first xs) ≡ length xs
length_last xs = let same = length_turned xs [] in omega (arith, same)

-- the last of a list
pub record SameLast (xs ys : List Step) (x y : Step) : Type 0 where
  pub front : xs ≡ ys
  pub last : x ≡ y

pub same_last : (xs ys : List Step) (x y : Step) → xs ++ x ∷ [] ≡ ys ++ y ∷ [] → SameLast xs ys x y
same_last [] [] x y e = let is : x ≡ y = cc in record { front = refl; last = is }
same_last [] (b ∷ ys) x y e = absurd (too_short ys y (tail_of [] (ys ++ y ∷ []) x b e))
  where
    tail_of : (us vs : List Step) (a b : Step) → a ∷ us ≡ b ∷ vs → us ≡ vs
    tail_of us vs a b e = cc

    too_short : (ys : List Step) (y : Step) → [] ≡ ys ++ y ∷ [] → ⊥
    too_short [] y e = cc
    too_short (z ∷ ys) y e = cc
same_last (a ∷ xs) [] x y e = absurd (too_short xs x (tail_of [] (xs ++ x ∷ []) y a (sym e)))
  where
    tail_of : (us vs : List Step) (a b : Step) → a ∷ us ≡ b ∷ vs → us ≡ vs
    tail_of us vs a b e = cc

    too_short : (ys : List Step) (y : Step) → [] ≡ ys ++ y ∷ [] → ⊥
    too_short [] y e = cc
    too_short (z ∷ ys) y e = cc
same_last (a ∷ xs) (b ∷ ys) x y e =
    let head : a ≡ b = heads a b (xs ++ x ∷ []) (ys ++ y ∷ []) e in
    let rest = same_last xs ys x y (tails a b (xs ++ x ∷ []) (ys ++ y ∷ []) e) in
    record { front = ap (λ (z : Step). z ∷ xs) head ∙ ap (λ (zs : List Step). b ∷ zs) rest.front; last = rest.last }
  where
    heads : (a b : Step) (us vs : List Step) → a ∷ us ≡ b ∷ vs → a ≡ b
    heads a b us vs e = cc

    tails : (a b : Step) (us vs : List Step) → a ∷ us ≡ b ∷ vs → us ≡ vs
    tails a b us vs e = cc
