-- The position of the block of a macroblock among the samples of a plane.
use Rattle.std.proofs.Common.{◌≡◌, ℕ, ◌+◌, ◌*◌, ◌<◌, ◌≤◌, arith, mul-le-mul_left}
use Rattle.std.proofs.lemmas.Nat.{mul-le}

-- no index of a block is above those of 1,024 rows and columns of blocks of 16
pub place_small : (side stride mx my : ℕ) → side ≤ 16 → stride ≤ 16512 → mx ≤ 1024 → my ≤ 1024 → my * (side * stride) + side * mx ≤ 270548992
place_small side stride mx my s across x y =
    let row = mul-le my (side * stride) 1024 (16 * 16512) y (mul-le side stride 16 16512 s across) in
    let column = mul-le side mx 16 1024 s x in
    omega (arith, row, column)

-- a block ends before its plane does, each way
pub block_ends : (side n count : ℕ) → n < count → side * n + side ≤ side * count
block_ends side n count below = let fits : side * (n + 1) ≤ side * count = mul-le-mul_left side (omega arith) in omega (arith, fits)

-- rows of blocks, in samples
pub rows_of_blocks : (side stride my : ℕ) → my * (side * stride) ≡ side * my * stride
rows_of_blocks side stride my = grind arith
