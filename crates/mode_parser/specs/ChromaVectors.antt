-- The vectors of chroma blocks (RFC 6386, sections 5 and 18).
use Rattle.std.specs.Prelude.{ℕ, ◌+◌, ◌*◌, ◌/◌, ◌%◌, suc, ◌==◌, ℤ, pos, negsuc, neg_ℤ, ◌+ℤ◌, ◌*ℤ◌, if◌then◌else◌}
use Rattle.std.specs.Int.{int_shr}
use Rattle.mode_parser.specs.Vectors.{MotionVector}

-- a quarter of a sum, rounded to the nearest, and a half away from 0
abbrev pub quarter_of : ℤ → ℤ
quarter_of (pos n) = pos ((n + 2) / 4)
quarter_of (negsuc n) = neg_ℤ (pos ((suc n + 2) / 4))

-- a number of eighths without the low three bits, in two's complement: rounded down to whole samples
abbrev pub whole_of : ℤ → ℤ
whole_of eighths = int_shr eighths 3 *ℤ pos 8

-- a component of a chroma vector in eighths of a chroma sample, from the sum of four luma vectors' components in quarters of
-- a luma sample; version 3 has whole samples only
abbrev pub chroma_component : ℤ → ℕ → ℤ
chroma_component sum version = if version == 3 then whole_of (quarter_of sum) else quarter_of sum

-- the first of the four luma blocks of a group of two by two, which lie over one chroma block; blocks and groups are numbered
-- in raster order
abbrev pub first_luma : ℕ → ℕ
first_luma group = 8 * (group / 2) + 2 * (group % 2)

-- the sum of a number over the four luma blocks of a group: two next to each other, and two below them
abbrev pub sum_of_group : (ℕ → ℤ) → ℕ → ℤ
sum_of_group f group =
    let n = first_luma group in
    f n +ℤ f (n + 1) +ℤ f (n + 4) +ℤ f (n + 5)

-- the vector of a group, in eighths of a chroma sample: the mean of the vectors of its luma blocks (section 18)
unfoldable pub group_vector : ℕ → (ℕ → MotionVector) → ℕ → ℤ × ℤ
group_vector version vector_of group =
    (chroma_component (sum_of_group (λ n. (vector_of n).x) group) version, chroma_component (sum_of_group (λ n. (vector_of n).y) group) version)
