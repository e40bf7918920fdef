-- Parts of a list: of an append, of a part, and after a write.
use Rattle.std.specs.Prelude.{slice_range}
use Rattle.std.specs.Simd.Lanes.{chunk, put_chunk}
use borrow.Rule.Slice.PartMut.{put_mid}
use Rattle.std.proofs.Common.{◌≡◌, ℕ, zero, suc, ◌+◌, ◌-◌, ◌≤◌, List, [], ◌∷◌, ◌++◌, length, take, drop, refl, ap, sym, ◌∙◌, arith, length-drop}
use Rattle.std.proofs.lemmas.List.{drop-append-le, take-append-le, drop_at, drop-drop, drop-take, take-take, take_all}
use Rattle.std.proofs.lemmas.Simd.{put_chunk_is}

-- a part of n elements
pub part_is : (xs : List ℕ) (i n : ℕ) → slice_range xs i (i + n) ≡ chunk i n xs
part_is xs i n = ap (λ k. take k (drop i xs)) (omega arith)

-- a part of the first list of two
pub chunk_left : (i n : ℕ) (xs ys : List ℕ) → i + n ≤ length xs → chunk i n (xs ++ ys) ≡ chunk i n xs
chunk_left i n xs ys fits =
    ap (take n) (drop-append-le i xs ys (omega arith)) ∙ take-append-le n (drop i xs) ys (simp length-drop (omega arith))

-- a part of the second list of two
pub chunk_right : (i k n m : ℕ) (xs ys : List ℕ) → length xs ≡ m → i ≡ m + k → chunk i n (xs ++ ys) ≡ chunk k n ys
chunk_right i k n m xs ys len at =
    ap (λ j. take n (drop j (xs ++ ys))) at ∙ ap (take n) (sym (drop-drop k m (xs ++ ys)) ∙ ap (drop k) (drop_at xs ys m len))

-- the whole of a list as a part
pub chunk_all : (n : ℕ) (xs : List ℕ) → length xs ≡ n → chunk 0 n xs ≡ xs
chunk_all n xs len = take_all n xs (omega arith)

-- a part of a part
pub chunk-chunk : (i n j m : ℕ) (xs : List ℕ) → j + m ≤ n → chunk j m (chunk i n xs) ≡ chunk (i + j) m xs
chunk-chunk i n j m xs fits =
    ap (λ k. take m (drop j (take k (drop i xs)))) (omega arith) ∙ ap (take m) (drop-take j (n - j) (drop i xs)) ∙ take-take m (n - j) (drop j (drop i xs)) (omega arith) ∙ ap (take m) (drop-drop j i xs)

-- two lists with one tail have their later parts in common
pub chunk_from_tail : (at i n : ℕ) (xs ys : List ℕ) → at ≤ i → drop at xs ≡ drop at ys → chunk i n xs ≡ chunk i n ys
chunk_from_tail at i n xs ys following same =
    let there : i ≡ at + (i - at) = omega arith in
    ap (λ k. take n (drop k xs)) there ∙ ap (take n) (sym (drop-drop (i - at) at xs) ∙ ap (drop (i - at)) same ∙ drop-drop (i - at) at ys) ∙ ap (λ k. take n (drop k ys)) (sym there)

from_start : (i n : ℕ) (xs : List ℕ) → chunk (0 + i) n xs ≡ chunk i n xs
from_start i n xs = let e : 0 + i ≡ i = omega arith in rw e refl

-- a part of a front
pub chunk_of_take : (at i n : ℕ) (xs : List ℕ) → i + n ≤ at → chunk i n (take at xs) ≡ chunk i n xs
chunk_of_take at i n xs fits = chunk-chunk 0 at i n xs fits ∙ from_start i n xs

-- two lists with one front have their earlier parts in common
pub chunk_from_front : (at i n : ℕ) (xs ys : List ℕ) → i + n ≤ at → take at xs ≡ take at ys → chunk i n xs ≡ chunk i n ys
chunk_from_front at i n xs ys before same = sym (chunk_of_take at i n xs before) ∙ ap (chunk i n) same ∙ chunk_of_take at i n ys before

suc_plus : (i n : ℕ) → suc i + n ≡ suc (i + n)
suc_plus i n = omega arith

-- a front followed by a part
pub take_more_chunk : (i n : ℕ) (xs : List ℕ) → take i xs ++ chunk i n xs ≡ take (i + n) xs
take_more_chunk zero n xs = let e : 0 + n ≡ n = omega arith in rw e refl
take_more_chunk (suc i) n [] = take_all n [] (omega arith) ∙ sym (take_all (suc i + n) [] (omega arith))
take_more_chunk (suc i) n (x ∷ xs) = rw (suc_plus i n) (ap (λ (l : List ℕ). x ∷ l) (take_more_chunk i n xs))

-- a front of a list with a part written into it
pub take-put_chunk : (n i : ℕ) (xs ws : List ℕ) → take n (put_chunk i xs ws) ≡ put_chunk i (take n xs) ws
take-put_chunk zero i xs ws = refl
take-put_chunk (suc n) i [] ws = refl
take-put_chunk (suc n) zero (x ∷ xs) [] = refl
take-put_chunk (suc n) zero (x ∷ xs) (w ∷ ws) = ap (λ (l : List ℕ). w ∷ l) (take-put_chunk n zero xs ws)
take-put_chunk (suc n) (suc i) (x ∷ xs) ws = ap (λ (l : List ℕ). x ∷ l) (take-put_chunk n i xs ws)

-- the written part is the part there
pub chunk_at-put_chunk : (i n : ℕ) (xs ws : List ℕ) → length ws ≡ n → i + n ≤ length xs → chunk i n (put_chunk i xs ws) ≡ ws
chunk_at-put_chunk zero n xs [] len fits = rw (← len) refl
chunk_at-put_chunk zero n [] (w ∷ ws) len fits = absurd (omega arith)
chunk_at-put_chunk zero n (x ∷ xs) (w ∷ ws) len fits = rw (← len) (ap (λ (l : List ℕ). w ∷ l) (chunk_at-put_chunk zero (length ws) xs ws refl (omega arith)))
chunk_at-put_chunk (suc i) n [] ws len fits = absurd (omega arith)
chunk_at-put_chunk (suc i) n (x ∷ xs) ws len fits = chunk_at-put_chunk i n xs ws len (omega arith)

-- the part before the index of a write
pub take_before-put_chunk : (n i : ℕ) (xs ws : List ℕ) → n ≤ i → take n (put_chunk i xs ws) ≡ take n xs
take_before-put_chunk zero i xs ws before = refl
take_before-put_chunk (suc n) i [] ws before = refl
take_before-put_chunk (suc n) zero (x ∷ xs) ws before = absurd (omega arith)
take_before-put_chunk (suc n) (suc i) (x ∷ xs) ws before = ap (λ (l : List ℕ). x ∷ l) (take_before-put_chunk n i xs ws (omega arith))

-- the part after a write
pub drop_behind-put_chunk : (n i : ℕ) (xs ws : List ℕ) → i + length ws ≤ n → drop n (put_chunk i xs ws) ≡ drop n xs
drop_behind-put_chunk n i [] ws following = refl
drop_behind-put_chunk zero zero (x ∷ xs) [] following = refl
drop_behind-put_chunk zero zero (x ∷ xs) (w ∷ ws) following = absurd (omega arith)
drop_behind-put_chunk zero (suc i) (x ∷ xs) ws following = absurd (omega arith)
drop_behind-put_chunk (suc n) zero (x ∷ xs) [] following = refl
drop_behind-put_chunk (suc n) zero (x ∷ xs) (w ∷ ws) following = drop_behind-put_chunk n zero xs ws (omega arith)
drop_behind-put_chunk (suc n) (suc i) (x ∷ xs) ws following = drop_behind-put_chunk n i xs ws (omega arith)

-- the list after a write to a part of a slice
pub mid_is_put : (i k : ℕ) (xs ws : List ℕ) → length ws ≡ k → i + k ≤ length xs → put_mid i k xs ws ≡ put_chunk i xs ws
mid_is_put i k xs ws len fits = rw (← len) (sym (put_chunk_is i xs ws (omega arith)))
