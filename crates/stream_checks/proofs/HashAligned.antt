-- What a number with a width is written as.
use Rattle.std.proofs.Common.{◌≡◌, ℕ, zero, suc, ◌-◌, List, [], ◌∷◌, length, replicate, refl, ap, arith, append-nil}
use Rattle.std.specs.List.{repeat}
use Rattle.std.specs.Fmt.{decimal, padded_integral, format_spec, char_count, styled_decimal}
use Rattle.std.specs.Char.{encode_utf8}
use Rattle.stream_checks.specs.HashLines.{right_aligned}

spaces : (n : ℕ) → repeat {A = ℕ} n (32 ∷ []) ≡ replicate n 32
spaces zero = refl
spaces (suc n) = ap (λ (text : List ℕ). 32 ∷ text) (spaces n)

pub right_of_ten : (n : ℕ) → styled_decimal (format_spec 32 3 0 10 18446744073709551615) n ≡ right_aligned 10 n
unfolding padded_integral char_count encode_utf8
right_of_ten n =
    let short : 10 - length (decimal n) - 0 - 0 ≡ 10 - length (decimal n) = omega arith in
    let none : 10 - length (decimal n) - (10 - length (decimal n)) ≡ 0 = omega arith in
    rw (short, none, spaces) (simp append-nil)

pub right_of_eight : (n : ℕ) → styled_decimal (format_spec 32 3 0 8 18446744073709551615) n ≡ right_aligned 8 n
unfolding padded_integral char_count encode_utf8
right_of_eight n =
    let short : 8 - length (decimal n) - 0 - 0 ≡ 8 - length (decimal n) = omega arith in
    let none : 8 - length (decimal n) - (8 - length (decimal n)) ≡ 0 = omega arith in
    rw (short, none, spaces) (simp append-nil)
