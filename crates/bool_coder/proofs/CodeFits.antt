use Rattle.std.proofs.Common.{◌≡◌, ℕ, zero, suc, ◌+◌, ◌*◌, ◌^◌, ◌<◌, ◌≤◌, Bool, true, false, List, [], ◌∷◌, arith, inl, inr}
use Rattle.std.proofs.lemmas.Nat.{pow-add, pow_pos}
use Rattle.std.proofs.lemmas.Bool.{cases_lt}
use Rattle.std.proofs.lemmas.List.Elements.{All-head, All-tail}
use Rattle.std.specs.List.{All}
use Rattle.bool_coder.specs.Reader.{split_of}
use Rattle.bool_coder.specs.CodeText.{Code, no_code, code_doubled, code_renewed, narrowed, written, all_written}
use Rattle.bool_coder.specs.Low.{StaysInside}
use Rattle.bool_coder.proofs.RoundTrip.{code_renewed-small, code_renewed-large, code_renewed-zero, split_of-inside, written-range}

-- a renewal stays inside the text
code_renewed-inside : (fuel : ℕ) (c : Code) → StaysInside c → StaysInside (code_renewed fuel c)
code_renewed-inside zero c inside = rw (code_renewed-zero c) inside
code_renewed-inside (suc fuel) c inside =
    let power : 2 ^ (c.shifts + 1) ≡ 2 ^ c.shifts * 2 = pow-add 2 c.shifts 1 in
    let twice : 2 * c.low + 2 * c.range ≤ 255 * 2 ^ (c.shifts + 1) = rw power (omega arith) in
    elim (cases_lt c.range 128) [ inl small ↦ rw (code_renewed-small fuel c small) (code_renewed-inside fuel (code_doubled c) twice) | inr large ↦ rw (code_renewed-large fuel c large) inside ]

-- and so does a bit
written-inside : (bit : Bool) (prob : ℕ) (c : Code) → prob ≤ 255 → 128 ≤ c.range → StaysInside c → StaysInside (written bit prob c)
unfolding written
written-inside false prob c probable large inside =
    let part : split_of prob c.range < c.range = split_of-inside prob c.range probable large in
    code_renewed-inside 7 (narrowed false prob c) (omega arith)
written-inside true prob c probable large inside =
    let part : split_of prob c.range < c.range = split_of-inside prob c.range probable large in
    code_renewed-inside 7 (narrowed true prob c) (omega arith)

all_written-inside : (pairs : List (Bool × ℕ)) (c : Code) → All (λ p. p.1 ≤ 255) pairs → 128 ≤ c.range → c.range ≤ 255 → StaysInside c → StaysInside (all_written pairs c)
all_written-inside [] c probable large most inside = inside
all_written-inside (pair ∷ pairs) c probable large most inside =
    let first : pair.1 ≤ 255 = All-head (λ p. p.1 ≤ 255) pair pairs probable in
    let next = written-range pair.0 pair.1 c first large most in
    all_written-inside pairs (written pair.0 pair.1 c) (All-tail (λ p. p.1 ≤ 255) pair pairs probable) next.0 next.1 (written-inside pair.0 pair.1 c first large inside)

-- low has no more bits than its text
pub all_written-fits : (pairs : List (Bool × ℕ)) → All (λ p. p.1 ≤ 255) pairs → (all_written pairs no_code).low < 2 ^ ((all_written pairs no_code).shifts + 8)
all_written-fits pairs probable =
    let c = all_written pairs no_code in
    let inside = all_written-inside pairs no_code probable (omega arith) (omega arith) (omega arith) in
    let power : 2 ^ (c.shifts + 8) ≡ 2 ^ c.shifts * 256 = pow-add 2 c.shifts 8 in
    let some : 0 < 2 ^ c.shifts = pow_pos c.shifts in
    rw power (omega (arith, inside))
