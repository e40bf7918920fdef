-- Edits of the front of a list.
use Rattle.std.proofs.Common.{◌≡◌, ℕ, zero, suc, ◌+◌, ◌<◌, ◌≤◌, List, [], ◌∷◌, ◌++◌, length, slice_get, slice_set, Some, refl, sym, ap, ◌∙◌, arith}
use Rattle.std.specs.List.{insert, remove}
use Rattle.chunked_list.specs.Moves.{moved}
use Rattle.packet_edits.proofs.Mapped.{length_removed, moved_is, stands}

pub insert_front : {A : Type 0} (xs ys : List A) (at : ℕ) (x : A) → at ≤ length xs → insert (xs ++ ys) at x ≡ insert xs at x ++ ys
insert_front xs ys zero x within = refl
insert_front [] ys (suc at) x within = absurd (omega arith)
insert_front (z ∷ xs) ys (suc at) x within = ap (λ zs. z ∷ zs) (insert_front xs ys at x (omega arith))

pub remove_front : {A : Type 0} (xs ys : List A) (at : ℕ) → at < length xs → remove (xs ++ ys) at ≡ remove xs at ++ ys
remove_front [] ys at within = absurd (omega arith)
remove_front (z ∷ xs) ys zero within = refl
remove_front (z ∷ xs) ys (suc at) within = ap (λ zs. z ∷ zs) (remove_front xs ys at (omega arith))

pub set_front : {A : Type 0} (xs ys : List A) (at : ℕ) (x : A) → at < length xs → slice_set (xs ++ ys) at x ≡ slice_set xs at x ++ ys
set_front [] ys at x within = absurd (omega arith)
set_front (z ∷ xs) ys zero x within = refl
set_front (z ∷ xs) ys (suc at) x within = ap (λ zs. z ∷ zs) (set_front xs ys at x (omega arith))

pub get_front : {A : Type 0} (xs ys : List A) (at : ℕ) → at < length xs → slice_get (xs ++ ys) at ≡ slice_get xs at
get_front [] ys at within = absurd (omega arith)
get_front (z ∷ xs) ys zero within = refl
get_front (z ∷ xs) ys (suc at) within = get_front xs ys at (omega arith)

pub moved_front : {A : Type 0} (xs ys : List A) (from to : ℕ) → from < length xs → to < length xs → moved from to (xs ++ ys) ≡ moved from to xs ++ ys
moved_front xs ys from to out in_ =
    let s = stands xs from out in
    let left = length_removed xs from out in
    moved_is from to (xs ++ ys) s.element (get_front xs ys from out ∙ s.here)
    ∙ ap (λ zs. insert zs to s.element) (remove_front xs ys from out)
    ∙ insert_front (remove xs from) ys to s.element (omega (arith, left, in_))
    ∙ ap (λ zs. zs ++ ys) (sym (moved_is from to xs s.element s.here))

-- an element that is set in the front, or in the rest, or nowhere
pub set_any : {A : Type 0} (xs ys : List A) (at : ℕ) (x : A) → (rest : List A) × (slice_set (xs ++ ys) at x ≡ slice_set xs at x ++ rest) × (length rest ≡ length ys)
set_any [] ys at x = (slice_set ys at x, refl, same_length ys at x)
  where
    same_length : {A : Type 0} (zs : List A) (at : ℕ) (x : A) → length (slice_set zs at x) ≡ length zs
    same_length [] at x = refl
    same_length (z ∷ zs) zero x = refl
    same_length (z ∷ zs) (suc at) x = ap suc (same_length zs at x)
set_any (z ∷ xs) ys zero x = (ys, refl, refl)
set_any (z ∷ xs) ys (suc at) x = let rest = set_any xs ys at x in (rest.0, ap (λ zs. z ∷ zs) rest.1, rest.2)

-- the last element
pub remove_last : {A : Type 0} (xs : List A) (x : A) → remove (xs ++ x ∷ []) (length xs) ≡ xs
remove_last [] x = refl
remove_last (z ∷ xs) x = ap (λ zs. z ∷ zs) (remove_last xs x)

pub get_last : {A : Type 0} (xs : List A) (x : A) → slice_get (xs ++ x ∷ []) (length xs) ≡ Some x
get_last [] x = refl
get_last (z ∷ xs) x = get_last xs x

-- the last of a rest that is not empty
pub remove_rest : {A : Type 0} (xs ys : List A) (n k : ℕ) → k ≡ length xs + n → length ys ≡ suc n → (rest : List A) × (remove (xs ++ ys) k ≡ xs ++ rest) × (length rest ≡ n)
remove_rest [] ys n k is long = (remove ys k, refl, one_less ys k n (omega (arith, is)) long)
  where
    one_less : {A : Type 0} (zs : List A) (k n : ℕ) → k ≡ n → length zs ≡ suc n → length (remove zs k) ≡ n
    one_less zs k n same long = let left = length_removed zs k (omega (arith, long, same)) in omega (arith, left, long)
remove_rest (z ∷ xs) ys n zero is long = absurd (omega (arith, is))
remove_rest (z ∷ xs) ys n (suc k) is long = let rest = remove_rest xs ys n k (omega (arith, is)) long in (rest.0, ap (λ zs. z ∷ zs) rest.1, rest.2)

pub inserted_last : {A : Type 0} (xs : List A) (x : A) → insert xs (length xs) x ≡ xs ++ x ∷ []
inserted_last [] x = refl
inserted_last (z ∷ xs) x = ap (λ zs. z ∷ zs) (inserted_last xs x)
