-- A bit at even odds.
use Rattle.std.proofs.Common.{◌≡◌, ℕ, ◌+◌, ◌-◌, ◌*◌, ◌/◌, ◌%◌, ◌^◌, ◌<◌, ◌≤◌, ◌⊎◌, inl, inr, true, false, leb, List, arith}
use Rattle.std.proofs.lemmas.Bool.{le-leb, lt-leb}
use Rattle.bool_coder.specs.Reader.{level, read, split_of}
use Rattle.bool_coder.specs.Window.{reader_of}
use Rattle.bool_coder.proofs.Windows.{bit-one, bit-zero}

-- the split is the half, rounded up
pub even-split : (whole : ℕ) → 1 ≤ whole → split_of 128 whole ≡ (whole + 1) / 2
even-split whole some = omega arith

pub even-one : (whole value left : ℕ) (bytes : List ℕ) → 128 ≤ whole → whole ≤ 255 → 7 ≤ left → left ≤ 56 → (whole + 1) / 2 * 2 ^ left % 2 ^ 64 ≤ value → read 128 (level (reader_of value left bytes whole)) ≡ (true, level (reader_of (value - (whole + 1) / 2 * 2 ^ left % 2 ^ 64) (left - 1) bytes (whole / 2 * 2 ^ 1)))
even-one whole value left bytes large most ready room reached =
    let split : split_of 128 whole ≡ (whole + 1) / 2 = even-split whole (omega arith) in
    let rest : whole - split_of 128 whole ≡ whole / 2 = omega arith in
    let here : split_of 128 whole * 2 ^ left % 2 ^ 64 ≤ value = rw split reached in
    let bit = bit-one 128 whole value left 1 bytes (omega arith) large most ready room here (omega arith) (omega arith) (omega arith) in
    rw (le-leb _ _ here, rest, split) at bit

pub even-zero : (whole value left : ℕ) (bytes : List ℕ) → 128 ≤ whole → whole ≤ 255 → 7 ≤ left → left ≤ 56 → value < (whole + 1) / 2 * 2 ^ left % 2 ^ 64 → (whole + 1) / 2 < 128 → read 128 (level (reader_of value left bytes whole)) ≡ (false, level (reader_of value (left - 1) bytes ((whole + 1) / 2 * 2 ^ 1)))
even-zero whole value left bytes large most ready room missed small =
    let split : split_of 128 whole ≡ (whole + 1) / 2 = even-split whole (omega arith) in
    let here : value < split_of 128 whole * 2 ^ left % 2 ^ 64 = rw split missed in
    let bit = bit-zero 128 whole value left 1 bytes (omega arith) large most ready room here (omega arith) (omega arith) (omega arith) in
    rw (lt-leb _ _ here, split) at bit

-- the greatest range is halved to 128, which needs no shift
pub even-whole : (whole value left : ℕ) (bytes : List ℕ) → 128 ≤ whole → whole ≤ 255 → 7 ≤ left → left ≤ 56 → value < (whole + 1) / 2 * 2 ^ left % 2 ^ 64 → 128 ≤ (whole + 1) / 2 → read 128 (level (reader_of value left bytes whole)) ≡ (false, level (reader_of value left bytes ((whole + 1) / 2 * 2 ^ 0)))
even-whole whole value left bytes large most ready room missed enough =
    let split : split_of 128 whole ≡ (whole + 1) / 2 = even-split whole (omega arith) in
    let here : value < split_of 128 whole * 2 ^ left % 2 ^ 64 = rw split missed in
    let none : left - 0 ≡ left = omega arith in
    let bit = bit-zero 128 whole value left 0 bytes (omega arith) large most ready room here (omega arith) (omega arith) (omega arith) in
    rw (lt-leb _ _ here, split, none) at bit

-- the same as the code computes it: what is taken from the window, and the half that is left
pub even-shifted : (whole value left taken half : ℕ) (bytes : List ℕ) → 128 ≤ whole → whole ≤ 255 → 7 ≤ left → left ≤ 56 → half < 128
    → ((whole + 1) / 2 * 2 ^ left % 2 ^ 64 ≤ value) × (taken ≡ (whole + 1) / 2 * 2 ^ left % 2 ^ 64) × (half ≡ whole / 2) ⊎ (value < (whole + 1) / 2 * 2 ^ left % 2 ^ 64) × (taken ≡ 0) × (half ≡ (whole + 1) / 2)
    → read 128 (level (reader_of value left bytes whole)) ≡ (leb ((whole + 1) / 2 * 2 ^ left % 2 ^ 64) value, level (reader_of (value - taken) (left - 1) bytes (half * 2 ^ 1)))
even-shifted whole value left taken half bytes large most ready room small (inl one) = rw (le-leb _ _ one.0, one.1, one.2) (even-one whole value left bytes large most ready room one.0)
even-shifted whole value left taken half bytes large most ready room small (inr none) =
    let same : value - 0 ≡ value = omega arith in
    rw (lt-leb _ _ none.0, none.1, none.2, same) (even-zero whole value left bytes large most ready room none.0 (rw none.2 at small))

pub even-kept : (whole value left taken half : ℕ) (bytes : List ℕ) → 128 ≤ whole → whole ≤ 255 → 7 ≤ left → left ≤ 56 → 128 ≤ half
    → ((whole + 1) / 2 * 2 ^ left % 2 ^ 64 ≤ value) × (taken ≡ (whole + 1) / 2 * 2 ^ left % 2 ^ 64) × (half ≡ whole / 2) ⊎ (value < (whole + 1) / 2 * 2 ^ left % 2 ^ 64) × (taken ≡ 0) × (half ≡ (whole + 1) / 2)
    → read 128 (level (reader_of value left bytes whole)) ≡ (leb ((whole + 1) / 2 * 2 ^ left % 2 ^ 64) value, level (reader_of (value - taken) left bytes (half * 2 ^ 0)))
even-kept whole value left taken half bytes large most ready room enough (inl one) = absurd (omega (arith, one.2))
even-kept whole value left taken half bytes large most ready room enough (inr none) =
    let same : value - 0 ≡ value = omega arith in
    rw (lt-leb _ _ none.0, none.1, none.2, same) (even-whole whole value left bytes large most ready room none.0 (rw none.2 at enough))
