-- Readings that take a number of booleans, composed.
use Rattle.std.proofs.Common.{◌≡◌, ℕ, ◌+◌, Bool, true, false, refl, ◌∙◌, arith}
use Rattle.std.specs.Prelude.{if◌then◌else◌}
use Rattle.bool_coder.specs.Reader.{Reader, read}
use Rattle.bool_coder.specs.Reading.{Reading, ◌>>=◌, give, flag}
use Rattle.bool_coder.specs.Chains.{Chain, done, ask, run}
use Rattle.header_bits.specs.Asked.{Asks, asked}

-- a reading that takes so many booleans from each reader
pub record Takes {A : Type 0} (reading : Reading A) (count : Reader → ℕ) : Type 0 where
  pub chain : Chain A
  pub same : (s : Reader) → reading s ≡ run read chain s
  pub booleans : (s : Reader) → asked chain s ≡ count s

pub asks-at : {A : Type 0} {reading : Reading A} {count : Reader → ℕ} → Takes reading count → (r : Reader) (n : ℕ) → count r ≡ n → Asks reading r n
asks-at takes r n is = record { chain = takes.chain; same = takes.same; booleans = takes.booleans r ∙ is }

pub counted-as : {A : Type 0} {reading : Reading A} {count : Reader → ℕ} (other : Reader → ℕ) → Takes reading count → ((s : Reader) → count s ≡ other s) → Takes reading other
counted-as other takes is = record { chain = takes.chain; same = takes.same; booleans = λ s. takes.booleans s ∙ is s }

-- one chain, then another
chained : {A B : Type 0} → Chain A → (A → Chain B) → Chain B
chained (done x) next = next x
chained (ask prob zeros ones) next = ask prob (chained zeros next) (chained ones next)

run-branch : {A B : Type 0} (bit : Bool) (zeros ones : A × Reader) (next : A → Reading B) → (if bit then next ones.0 ones.1 else next zeros.0 zeros.1) ≡ next (if bit then ones else zeros).0 (if bit then ones else zeros).1
run-branch true zeros ones next = refl
run-branch false zeros ones next = refl

run-chained : {A B : Type 0} (c : Chain A) (next : A → Chain B) (r : Reader) → run read (chained c next) r ≡ run read (next (run read c r).0) (run read c r).1
unfolding run chained
run-chained (done x) next r = refl
run-chained (ask prob zeros ones) next r =
    rw (run-chained zeros next (read prob r).1, run-chained ones next (read prob r).1) (run-branch (read prob r).0 (run read zeros (read prob r).1) (run read ones (read prob r).1) (λ x s. run read (next x) s))

asked-branch : {A : Type 0} (bit : Bool) (zeros ones : A × Reader) (m n : ℕ) (next : A → Reader → ℕ) → 1 + (if bit then n + next ones.0 ones.1 else m + next zeros.0 zeros.1) ≡ (1 + (if bit then n else m)) + next (if bit then ones else zeros).0 (if bit then ones else zeros).1
asked-branch true zeros ones m n next = omega arith
asked-branch false zeros ones m n next = omega arith

asked-chained : {A B : Type 0} (c : Chain A) (next : A → Chain B) (r : Reader) → asked (chained c next) r ≡ asked c r + asked (next (run read c r).0) (run read c r).1
unfolding run chained asked
asked-chained (done x) next r = omega arith
asked-chained (ask prob zeros ones) next r =
    rw (asked-chained zeros next (read prob r).1, asked-chained ones next (read prob r).1) (asked-branch (read prob r).0 (run read zeros (read prob r).1) (run read ones (read prob r).1) (asked zeros (read prob r).1) (asked ones (read prob r).1) (λ x s. asked (next x) s))

pub bind-takes : {A B : Type 0} {first : Reading A} {next : A → Reading B} {a : Reader → ℕ} {b : A → Reader → ℕ} → Takes first a → ((x : A) → Takes (next x) (b x)) → Takes (first >>= next) (λ r. a r + b (first r).0 (first r).1)
bind-takes {first = first} {next = next} {a = a} {b = b} one later = record {
  chain = chained one.chain (λ x. (later x).chain);
  same = λ r. rw (one.same r, run-chained one.chain (λ x. (later x).chain) r) ((later (run read one.chain r).0).same (run read one.chain r).1);
  booleans = λ r. asked-chained one.chain (λ x. (later x).chain) r ∙ rw (one.booleans r, one.same r, (later (run read one.chain r).0).booleans (run read one.chain r).1) refl;
}

pub give-takes : {A : Type 0} (x : A) → Takes (give x) (λ r. 0)
unfolding run asked
give-takes x = record { chain = done x; same = λ r. refl; booleans = λ r. refl }

bit-same : (bit : Bool) (s : Reader) → ◌≡◌ {A = Bool × Reader} (bit, s) (if bit then (true, s) else (false, s))
bit-same true s = refl
bit-same false s = refl

one-same : (bit : Bool) → 1 + (if bit then 0 else 0) ≡ 1
one-same true = refl
one-same false = refl

pub read-takes : (prob : ℕ) → Takes (read prob) (λ r. 1)
unfolding run asked
read-takes prob = record { chain = ask prob (done false) (done true); same = λ r. bit-same (read prob r).0 (read prob r).1; booleans = λ r. one-same (read prob r).0 }

pub flag-takes : Takes flag (λ r. 1)
flag-takes = read-takes 128

pub if-takes : {A : Type 0} {yes no : Reading A} {a b : Reader → ℕ} (test : Bool) → Takes yes a → Takes no b → Takes (if test then yes else no) (λ r. if test then a r else b r)
if-takes true one other = one
if-takes false one other = other
