-- Edits of a list and of a function of its elements.
use Rattle.std.proofs.Common.{◌≡◌, ℕ, zero, suc, ◌+◌, ◌<◌, ◌≤◌, List, [], ◌∷◌, length, map, get_or, slice_get, slice_set, Some, refl, sym, ap, ◌∙◌, arith}
use Rattle.std.specs.List.{insert, remove}
use Rattle.std.proofs.lemmas.List.Edits.{length-insert}
use Rattle.chunked_list.specs.Moves.{moved}

pub map_insert : {A B : Type 0} (f : A → B) (xs : List A) (at : ℕ) (x : A) → at ≤ length xs → map f (insert xs at x) ≡ insert (map f xs) at (f x)
map_insert f xs zero x within = refl
map_insert f [] (suc at) x within = absurd (omega arith)
map_insert f (y ∷ xs) (suc at) x within = ap (λ ys. f y ∷ ys) (map_insert f xs at x (omega arith))

pub map_remove : {A B : Type 0} (f : A → B) (xs : List A) (at : ℕ) → at < length xs → map f (remove xs at) ≡ remove (map f xs) at
map_remove f [] at within = absurd (omega arith)
map_remove f (y ∷ xs) zero within = refl
map_remove f (y ∷ xs) (suc at) within = ap (λ ys. f y ∷ ys) (map_remove f xs at (omega arith))

pub map_set : {A B : Type 0} (f : A → B) (xs : List A) (at : ℕ) (x : A) → map f (slice_set xs at x) ≡ slice_set (map f xs) at (f x)
map_set f [] at x = refl
map_set f (y ∷ xs) zero x = refl
map_set f (y ∷ xs) (suc at) x = ap (λ ys. f y ∷ ys) (map_set f xs at x)

-- the element at an index
pub record Stands {A : Type 0} (xs : List A) (at : ℕ) : Type 0 where
  pub element : A
  pub here : slice_get xs at ≡ Some element

pub stands : {A : Type 0} (xs : List A) (at : ℕ) → at < length xs → Stands xs at
stands [] at within = absurd (omega arith)
stands (x ∷ xs) zero within = record { element = x; here = refl }
stands (x ∷ xs) (suc at) within = let rest = stands xs at (omega arith) in record { element = rest.element; here = rest.here }

pub get_map : {A B : Type 0} (f : A → B) (xs : List A) (at : ℕ) (x : A) → slice_get xs at ≡ Some x → slice_get (map f xs) at ≡ Some (f x)
get_map f [] at x here = cc
get_map f (y ∷ xs) zero x here = let is : y ≡ x = cc in ap (λ y. Some (f y)) is
get_map f (y ∷ xs) (suc at) x here = get_map f xs at x here

-- a move of an element that exists
pub moved_is : {A : Type 0} (from to : ℕ) (xs : List A) (x : A) → slice_get xs from ≡ Some x → moved from to xs ≡ insert (remove xs from) to x
moved_is from to xs x here = rw here refl

-- the length after a removal
pub length_removed : {A : Type 0} (xs : List A) (at : ℕ) → at < length xs → suc (length (remove xs at)) ≡ length xs
length_removed [] at within = absurd (omega arith)
length_removed (x ∷ xs) zero within = refl
length_removed (x ∷ xs) (suc at) within = ap suc (length_removed xs at (omega arith))

pub map_moved : {A B : Type 0} (f : A → B) (xs : List A) (from to : ℕ) → from < length xs → to < length xs → map f (moved from to xs) ≡ moved from to (map f xs)
map_moved f xs from to out in_ =
    let s = stands xs from out in
    let left = length_removed xs from out in
    ap (map f) (moved_is from to xs s.element s.here)
    ∙ map_insert f (remove xs from) to s.element (omega (arith, left))
    ∙ ap (λ ys. insert ys to (f s.element)) (map_remove f xs from out)
    ∙ sym (moved_is from to (map f xs) (f s.element) (get_map f xs from s.element s.here))

-- an element inserted and overwritten
pub set_inserted : {A : Type 0} (xs : List A) (at : ℕ) (x y : A) → at ≤ length xs → slice_set (insert xs at x) at y ≡ insert xs at y
set_inserted xs zero x y within = refl
set_inserted [] (suc at) x y within = absurd (omega arith)
set_inserted (z ∷ xs) (suc at) x y within = ap (λ ys. z ∷ ys) (set_inserted xs at x y (omega arith))

-- and removed again
pub remove_inserted : {A : Type 0} (xs : List A) (at : ℕ) (x : A) → at ≤ length xs → remove (insert xs at x) at ≡ xs
remove_inserted xs zero x within = refl
remove_inserted [] (suc at) x within = absurd (omega arith)
remove_inserted (z ∷ xs) (suc at) x within = ap (λ ys. z ∷ ys) (remove_inserted xs at x (omega arith))

-- the element before it stays
pub before_inserted : (k : ℕ) (xs : List ℕ) (at x : ℕ) → at ≤ length xs → get_or (k ∷ insert xs at x) at 0 ≡ get_or (k ∷ xs) at 0
before_inserted k xs zero x within = refl
before_inserted k [] (suc at) x within = absurd (omega arith)
before_inserted k (z ∷ xs) (suc at) x within = before_inserted z xs at x (omega arith)

-- a flag that is set to its value
pub set_same : {A : Type 0} (xs : List A) (at : ℕ) (x : A) → slice_get xs at ≡ Some x → slice_set xs at x ≡ xs
set_same [] at x here = cc
set_same (y ∷ xs) zero x here = let is : y ≡ x = cc in ap (λ z. z ∷ xs) (sym is)
set_same (y ∷ xs) (suc at) x here = ap (λ ys. y ∷ ys) (set_same xs at x here)

-- an element overwritten twice
pub set_again : {A : Type 0} (xs : List A) (at : ℕ) (x y : A) → slice_set (slice_set xs at x) at y ≡ slice_set xs at y
set_again [] at x y = refl
set_again (z ∷ xs) zero x y = refl
set_again (z ∷ xs) (suc at) x y = ap (λ ys. z ∷ ys) (set_again xs at x y)

pub remove_set : {A : Type 0} (xs : List A) (at : ℕ) (x : A) → remove (slice_set xs at x) at ≡ remove xs at
remove_set [] at x = refl
remove_set (z ∷ xs) zero x = refl
remove_set (z ∷ xs) (suc at) x = ap (λ ys. z ∷ ys) (remove_set xs at x)

pub get_set : {A : Type 0} (xs : List A) (at : ℕ) (x : A) → at < length xs → slice_get (slice_set xs at x) at ≡ Some x
get_set [] at x within = absurd (omega arith)
get_set (z ∷ xs) zero x within = refl
get_set (z ∷ xs) (suc at) x within = get_set xs at x (omega arith)

-- an element that is overwritten, moved and overwritten again
pub moved_set : {A : Type 0} (from to : ℕ) (xs : List A) (x y : A) → slice_get xs from ≡ Some x → from < length xs → to < length xs → slice_set (moved from to (slice_set xs from y)) to x ≡ moved from to xs
moved_set from to xs x y here out in_ =
    let left = length_removed xs from out in
    ap (λ zs. slice_set zs to x) (moved_is from to (slice_set xs from y) y (get_set xs from y out) ∙ ap (λ ys. insert ys to y) (remove_set xs from y))
    ∙ set_inserted (remove xs from) to y x (omega (arith, left))
    ∙ sym (moved_is from to xs x here)

-- lengths that stay
pub length_set : {A : Type 0} (xs : List A) (at : ℕ) (x : A) → length (slice_set xs at x) ≡ length xs
length_set [] at x = refl
length_set (z ∷ xs) zero x = refl
length_set (z ∷ xs) (suc at) x = ap suc (length_set xs at x)

pub length_moved : {A : Type 0} (from to : ℕ) (xs : List A) → from < length xs → to < length xs → length (moved from to xs) ≡ length xs
length_moved from to xs out in_ =
    let s = stands xs from out in
    let left : suc (length (remove xs from)) ≡ length xs = length_removed xs from out in
    let long : length (insert (remove xs from) to s.element) ≡ length (remove xs from) + 1 = length-insert (remove xs from) to s.element (omega (arith, left, in_)) in
    let same : length (moved from to xs) ≡ length (insert (remove xs from) to s.element) = ap length (moved_is from to xs s.element s.here) in
    omega (arith, left, long, same)
