-- Where decoding ends in a first partition, by the chain of reads that it makes.
use Rattle.std.proofs.Common.{◌≡◌, ℕ, zero, suc, ◌+◌, ◌-◌, ◌*◌, ◌≤◌, min, Bool, true, false, List, [], ◌∷◌, length, refl, ap, ◌∙◌, arith, inl, inr, if◌then◌else◌}
use Rattle.std.specs.Prelude.{◌/◌, ◌==◌, nat_le}
use Rattle.std.proofs.lemmas.Bool.{lt-ltb, le-ltb, cases_lt}
use Rattle.std.proofs.Math.Dec.{eqb-suc-zero}
use Rattle.bool_coder.specs.Chains.{Chain, IsChain, ask, done, run}
use Rattle.bool_coder.specs.Reader.{Reader, after_bit, doubled, read, renewed, split_of, started}
use Rattle.bool_coder.specs.Reading.{Reading}
use Rattle.bool_coder.specs.Taken.{marked, taken_from}
use Rattle.bool_coder.proofs.Marks.{marks-left}
use Rattle.macroblock_lists.specs.PartitionEnds.{end_of}
use Rattle.macroblock_lists.specs.ChainEnds.{end_by}

-- by numbers alone
past-same : (taken blanks size : ℕ) → 8 ≤ taken
    → min blanks (((if size == 0 then 8 * blanks else 8 * (blanks + 1)) - (8 * (size + blanks + 1) - taken) + 7) / 8) ≡ min blanks (((if size == 0 then taken - 8 * size - 8 else taken - 8 * size) + 7) / 8)
past-same taken blanks zero some = omega arith
past-same taken blanks (suc size) some = rw (eqb-suc-zero size) (omega arith)

unread-same : (taken blanks size : ℕ) → 8 ≤ taken → min size ((8 * (size + blanks + 1) - taken - 8 * (blanks + 1)) / 8) ≡ (8 * size - taken) / 8
unread-same taken blanks size some = omega arith

ends-same : (taken blanks size : ℕ) → 8 ≤ taken → end_of blanks size (8 * (size + blanks + 1) - taken)
    ≡ record { size = size; past = min blanks (((if size == 0 then taken - 8 * size - 8 else taken - 8 * size) + 7) / 8); unread = (8 * size - taken) / 8 }
ends-same taken blanks size some = let past = past-same taken blanks size some in let unread = unread-same taken blanks size some in cc

-- the count of a chain of reads over a text with zeros and a mark
pub end-counted : {A : Type 0} (c : Chain A) (zeros : ℕ) (bytes : List ℕ)
    → end_of zeros (length bytes) (length (run read c (started (marked zeros bytes))).1.rest) ≡ end_by zeros c bytes
end-counted c zeros bytes = rw (marks-left c bytes zeros) (ends-same (taken_from c bytes) zeros (length bytes) (omega arith))

-- no bit is taken in of none
after-none : (rest : List ℕ) → rest ≡ [] → after_bit rest ≡ []
after-none rest none = rw none refl

renewed-none : (fuel : ℕ) (r : Reader) → r.rest ≡ [] → (renewed fuel r).rest ≡ []
unfolding renewed
renewed-none zero r none = none
renewed-none (suc fuel) r none =
    elim (cases_lt r.range 128) [
      | inl small ↦ rw (lt-ltb r.range 128 small) (renewed-none fuel (doubled r) (after-none r.rest none))
      | inr large ↦ rw (le-ltb r.range 128 large) none
    ]

pub read-none : (prob : ℕ) (r : Reader) (bit : Bool) → nat_le (split_of prob r.range) r.d ≡ bit → r.rest ≡ [] → (read prob r).1.rest ≡ []
unfolding read
read-none prob r true is none = rw is (renewed-none 7 (record r { d = r.d - split_of prob r.range; range = r.range - split_of prob r.range }) none)
read-none prob r false is none = rw is (renewed-none 7 (record r { range = split_of prob r.range }) none)

branch-none : {A : Type 0} (bit : Bool) (zeros ones : A × Reader) → zeros.1.rest ≡ [] → ones.1.rest ≡ [] → (if bit then ones else zeros).1.rest ≡ []
branch-none true zeros ones p q = q
branch-none false zeros ones p q = p

run-none : {A : Type 0} (c : Chain A) (r : Reader) → r.rest ≡ [] → (run read c r).1.rest ≡ []
unfolding run
run-none (done x) r none = none
run-none (ask prob zeros ones) r none =
    let here : (read prob r).1.rest ≡ [] = read-none prob r _ refl none in
    branch-none (read prob r).0 (run read zeros (read prob r).1) (run read ones (read prob r).1) (run-none zeros (read prob r).1 here) (run-none ones (read prob r).1 here)

pub nothing : (rest : List ℕ) → length rest ≡ 0 → rest ≡ []
nothing [] is = refl
nothing (bit ∷ rest) is = absurd (omega arith)

pub chain-none : {A : Type 0} {reading : Reading A} → IsChain reading → (r : Reader) → length r.rest ≡ 0 → length (reading r).1.rest ≡ 0
chain-none {A = A} {reading = reading} is r none =
    ap (λ (t : A × Reader). length t.1.rest) (is.same r) ∙ ap length (run-none is.chain r (nothing r.rest none))
