-- Means of samples.
use Rattle.std.proofs.Common.{◌≡◌, ℕ, ◌+◌, ◌*◌, ◌/◌, ◌<◌, List, [], ◌∷◌, ◌++◌, length, take, refl, sym, ◌∙◌, length-append, ap, append-nil, arith}
use Rattle.std.specs.Prelude.{sum}
use Rattle.std.proofs.lemmas.List.{length-take-le}
use Rattle.std.proofs.lemmas.List.Sums.{sum_by-append}
use Rattle.intra_predict.specs.Means.{mean_of, mean_of_two, mean_of_three}

-- the mean of a sample and itself
pub mean_of_two-same : (a : ℕ) → mean_of_two a a ≡ a
unfolding mean_of_two
mean_of_two-same a = omega arith

pub mean_of_three-same : (a : ℕ) → mean_of_three a a a ≡ a
unfolding mean_of_three
mean_of_three-same a = omega arith

-- the mean of n samples
pub mean_of-some : (n : ℕ) (xs : List ℕ) → length xs ≡ n → 0 < n → mean_of xs ≡ (sum xs + n / 2) / n
unfolding mean_of
mean_of-some n [] long some = absurd (omega arith)
mean_of-some n (x ∷ xs) long some = rw (← long) refl

-- the mean over two lists of n samples each
pub mean_of-both : (n : ℕ) (xs ys : List ℕ) → length xs ≡ n → length ys ≡ n → 0 < n → mean_of (xs ++ ys) ≡ (sum xs + sum ys + 2 * n / 2) / (2 * n)
mean_of-both n xs ys long long' some =
    let all : length (xs ++ ys) ≡ 2 * n = omega (arith, length-append xs ys) in
    mean_of-some (2 * n) (xs ++ ys) all (omega arith) ∙ rw (sum_by-append (λ x. x) xs ys) refl

-- the mean over four samples above and four to the left
pub mean_of_eight : (above left : List ℕ) (a b : ℕ) → length above ≡ 8 → length left ≡ 4 → a ≡ sum (take 4 above) → b ≡ sum left → (a + b + 4) / 8 ≡ mean_of (take 4 above ++ left)
mean_of_eight above left a b eight four a_is b_is =
    let some : length (take 4 above) ≡ 4 = length-take-le 4 above (omega arith) in
    sym (mean_of-both 4 (take 4 above) left some four (omega arith) ∙ rw (← a_is, ← b_is) refl)

-- the mean of no samples
pub mean_of-none : mean_of [] ≡ 128
unfolding mean_of
mean_of-none = refl

-- the mean over n samples of one list and none of another
pub mean_of-first : (n : ℕ) (xs : List ℕ) → length xs ≡ n → 0 < n → mean_of (xs ++ []) ≡ (sum xs + n / 2) / n
mean_of-first n xs long some = ap mean_of (append-nil xs) ∙ mean_of-some n xs long some
