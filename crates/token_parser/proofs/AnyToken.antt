-- One more block is tested for a token
use Rattle.std.proofs.Common.{◌≡◌, ℕ, ◌+◌, Bool, true, false, ◌||◌, map, refl, arith}
use Rattle.std.specs.List.{list_any, range_with_len}
use Rattle.std.proofs.lemmas.List.Folds.{list_any-append}
use Rattle.std.proofs.lemmas.List.FromFn.{map-range_with_len_more}

last_or : (a b : Bool) → (a || (b || false)) ≡ (a || b)
last_or true b = refl
last_or false true = refl
last_or false false = refl

pub one_more : (f : ℕ → Bool) (k : ℕ) → list_any (λ has. has) (map f (range_with_len 0 (k + 1))) ≡ (list_any (λ has. has) (map f (range_with_len 0 k)) || f k)
one_more f k = rw (map-range_with_len_more {X = Bool} f 0 k k (omega arith), list_any-append) (last_or (list_any (λ has. has) (map f (range_with_len 0 k))) (f k))

-- a test of one block more
pub found_next : (f : ℕ → Bool) (k : ℕ) (found here : Bool) → found ≡ list_any (λ has. has) (map f (range_with_len 0 k)) → here ≡ f k → (found || here) ≡ list_any (λ has. has) (map f (range_with_len 0 (k + 1)))
found_next f k found here so_far same = rw (one_more f k, ← so_far, same) refl
