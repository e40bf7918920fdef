-- The coefficients of a macroblock, as its tokens have them (RFC 6386, section 13): a list of 16 for each of its 25 blocks.
use Rattle.std.specs.Prelude.{ℕ, Bool, not, List, count_by, fold, max, sum_by, ℤ, pos, unsigned_abs}
use Rattle.std.specs.List.{list_any}
use Rattle.std.specs.Ordering.{int_eq}

-- whether a coefficient is not 0
abbrev pub is_coefficient : ℤ → Bool
is_coefficient value = not (int_eq value (pos 0))

-- whether a block has one
abbrev pub has_coefficient : List ℤ → Bool
has_coefficient block = list_any is_coefficient block

-- how many a block has, and how many all blocks have
abbrev pub count_in : List ℤ → ℕ
count_in block = count_by is_coefficient block

abbrev pub count_of : List (List ℤ) → ℕ
count_of blocks = sum_by count_in blocks

-- the greatest absolute value in a block, and in all blocks
abbrev pub greatest_in : List ℤ → ℕ
greatest_in block = fold (λ most value. max most (unsigned_abs value)) 0 block

abbrev pub greatest_of : List (List ℤ) → ℕ
greatest_of blocks = fold (λ most block. max most (greatest_in block)) 0 blocks
