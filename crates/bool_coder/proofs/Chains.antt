use Rattle.std.proofs.Common.{◌≡◌, ℕ, zero, suc, ◌+◌, ◌-◌, ◌*◌, ◌<◌, ◌≤◌, Bool, true, false, List, [], ◌∷◌, refl, ◌∙◌, arith}
use Rattle.std.proofs.lemmas.Bool.{and_parts, ltb-true}
use Rattle.std.specs.Prelude.{nat_lt, ◌&&◌, ℤ, pos, slice_index_or, slice_range, take, drop, unsigned_abs, if◌then◌else◌}
use Rattle.std.specs.Int.{from_bool}
use Rattle.bool_coder.specs.Reader.{Reader, read}
use Rattle.bool_coder.specs.Reading.{Reading, ◌>>=◌, give, flag, more_bits, literal, signed}
use Rattle.bool_coder.specs.Trees.{is_node, leaf_below, leaf}
use Rattle.bool_coder.specs.Uncut.{uncut_read, settled}
use Rattle.bool_coder.specs.Chains.{Chain, done, ask, run, HasProbabilities, AreProbabilities, IsChain}
use Rattle.bool_coder.proofs.UncutAlike.{read-settled, uncut_read-range}

-- one branch of a read
branch-settled : {A : Type 0} (bit : Bool) (zeros ones : Chain A) (s : Reader) → (run read zeros (settled s) ≡ ((run uncut_read zeros s).0, settled (run uncut_read zeros s).1)) → (run read ones (settled s) ≡ ((run uncut_read ones s).0, settled (run uncut_read ones s).1)) → (if bit then run read ones (settled s) else run read zeros (settled s)) ≡ ((if bit then run uncut_read ones s else run uncut_read zeros s).0, settled (if bit then run uncut_read ones s else run uncut_read zeros s).1)
branch-settled true zeros ones s z o = o
branch-settled false zeros ones s z o = z

-- every chain reads the same by either reader
pub run-settled : {A : Type 0} (c : Chain A) (r : Reader) → HasProbabilities c → 2 ≤ r.range → run read c (settled r) ≡ ((run uncut_read c r).0, settled (run uncut_read c r).1)
unfolding run
run-settled (done x) r probable some = refl
run-settled (ask prob zeros ones) r probable some =
    let here : read prob (settled r) ≡ ((uncut_read prob r).0, settled (uncut_read prob r).1) = read-settled prob r (omega (arith, probable.0)) some in
    let range : 2 ≤ (uncut_read prob r).1.range = uncut_read-range prob r (omega (arith, probable.0)) some in
    rw here (branch-settled (uncut_read prob r).0 zeros ones (uncut_read prob r).1 (run-settled zeros (uncut_read prob r).1 probable.1 range) (run-settled ones (uncut_read prob r).1 probable.2 range))

-- a reading that a chain computes is a chain of reads
pub of-chain : {A : Type 0} (reading : Reading A) (c : Chain A) → HasProbabilities c → ((r : Reader) → reading r ≡ run read c r) → IsChain reading
of-chain reading c probable same = record {
  chain = c;
  probable = probable;
  same = same;
  uncut = λ r some. same (settled r) ∙ run-settled c r probable some;
}

-- a value
pub give-chain : {A : Type 0} (x : A) → IsChain (give x)
unfolding run
give-chain x = of-chain (give x) (done x) tt (λ r. refl)

-- a bit
bit-same : (bit : Bool) (s : Reader) → ◌≡◌ {A = Bool × Reader} (bit, s) (if bit then (true, s) else (false, s))
bit-same true s = refl
bit-same false s = refl

pub read-chain : (prob : ℕ) → prob < 256 → IsChain (read prob)
unfolding run
read-chain prob small = of-chain (read prob) (ask prob (done false) (done true)) (small, tt, tt) (λ r. bit-same (read prob r).0 (read prob r).1)

-- one chain, then another
chained : {A B : Type 0} → Chain A → (A → Chain B) → Chain B
chained (done x) next = next x
chained (ask prob zeros ones) next = ask prob (chained zeros next) (chained ones next)

chained-probable : {A B : Type 0} (c : Chain A) (next : A → Chain B) → HasProbabilities c → ((x : A) → HasProbabilities (next x)) → HasProbabilities (chained c next)
unfolding chained
chained-probable (done x) next first later = later x
chained-probable (ask prob zeros ones) next first later = (first.0, chained-probable zeros next first.1 later, chained-probable ones next first.2 later)

branch-chained : {A B : Type 0} (bit : Bool) (zeros ones : A × Reader) (next : A → Reading B) → (if bit then next ones.0 ones.1 else next zeros.0 zeros.1) ≡ next (if bit then ones else zeros).0 (if bit then ones else zeros).1
branch-chained true zeros ones next = refl
branch-chained false zeros ones next = refl

run-chained : {A B : Type 0} (c : Chain A) (next : A → Chain B) (r : Reader) → run read (chained c next) r ≡ run read (next (run read c r).0) (run read c r).1
unfolding run chained
run-chained (done x) next r = refl
run-chained (ask prob zeros ones) next r =
    rw (run-chained zeros next (read prob r).1, run-chained ones next (read prob r).1) (branch-chained (read prob r).0 (run read zeros (read prob r).1) (run read ones (read prob r).1) (λ x s. run read (next x) s))

pub bind-chain : {A B : Type 0} {first : Reading A} {next : A → Reading B} → IsChain first → ((x : A) → IsChain (next x)) → IsChain (first >>= next)
bind-chain {first = first} {next = next} one later =
    of-chain (first >>= next) (chained one.chain (λ x. (later x).chain)) (chained-probable one.chain (λ x. (later x).chain) one.probable (λ x. (later x).probable))
    (λ r. (rw (one.same r, run-chained one.chain (λ x. (later x).chain) r) ((later (run read one.chain r).0).same (run read one.chain r).1)))

-- either of two readings, by a test
pub if-chain : {A : Type 0} {yes no : Reading A} (test : Bool) → IsChain yes → IsChain no → IsChain (if test then yes else no)
if-chain true one other = one
if-chain false one other = other

-- numbers
pub flag-chain : IsChain flag
flag-chain = read-chain 128 (omega arith)

more_bits-chain : (count value : ℕ) → IsChain (more_bits count value)
unfolding more_bits
more_bits-chain zero value = give-chain value
more_bits-chain (suc count) value = bind-chain flag-chain (λ bit. more_bits-chain count (2 * value + from_bool bit))

pub literal-chain : (count : ℕ) → IsChain (literal count)
unfolding literal
literal-chain count = more_bits-chain count 0

pub signed-chain : (count : ℕ) → IsChain (signed count)
unfolding signed
signed-chain count = search (bind-chain, if-chain, give-chain, flag-chain, literal-chain)

-- trees
pub leaf_below-chain : (fuel : ℕ) (tree : List ℤ) (probs : List ℕ) (node : ℕ) → AreProbabilities probs → IsChain (leaf_below fuel tree probs node)
unfolding leaf_below
leaf_below-chain zero tree probs node small = give-chain 0
leaf_below-chain (suc fuel) tree probs node small =
    bind-chain (read-chain _ (small _)) (λ bit. (
    let entry : ℤ = slice_index_or tree (node + from_bool bit) (pos 0) in
    if-chain (is_node entry) (leaf_below-chain fuel tree probs (unsigned_abs entry) small) (give-chain (unsigned_abs entry))))

pub leaf-chain : (tree : List ℤ) (probs : List ℕ) → AreProbabilities probs → IsChain (leaf tree probs)
unfolding leaf
leaf-chain tree probs small = leaf_below-chain _ tree probs 0 small

-- the lemmas that prove most definitions: the steps of a `do`, an `if` and the numbers
pub ruleset chains = (bind-chain, if-chain, give-chain, flag-chain, literal-chain, signed-chain)

-- a fixed list of bytes
unfoldable pub are_bytes : List ℕ → Bool
are_bytes [] = true
are_bytes (byte ∷ bytes) = nat_lt byte 256 && are_bytes bytes

pub probabilities : (bytes : List ℕ) → are_bytes bytes ≡ true → AreProbabilities bytes
unfolding are_bytes
probabilities [] are k = omega arith
probabilities (byte ∷ bytes) are zero = ltb-true _ _ (and_parts _ _ are).0
probabilities (byte ∷ bytes) are (suc k) = probabilities bytes (and_parts _ _ are).1 k

-- a part of a list of bytes
take-probabilities : (n : ℕ) (probs : List ℕ) → AreProbabilities probs → AreProbabilities (take n probs)
take-probabilities zero probs small k = omega arith
take-probabilities (suc n) [] small k = omega arith
take-probabilities (suc n) (prob ∷ probs) small zero = small 0
take-probabilities (suc n) (prob ∷ probs) small (suc k) = take-probabilities n probs (λ j. small (suc j)) k

drop-probabilities : (n : ℕ) (probs : List ℕ) → AreProbabilities probs → AreProbabilities (drop n probs)
drop-probabilities zero probs small = small
drop-probabilities (suc n) [] small = small
drop-probabilities (suc n) (prob ∷ probs) small = drop-probabilities n probs (λ j. small (suc j))

pub part-probabilities : (probs : List ℕ) (start end : ℕ) → AreProbabilities probs → AreProbabilities (slice_range probs start end)
part-probabilities probs start end small = take-probabilities (end - start) (drop start probs) (drop-probabilities start probs small)
