-- Chains of reads: every computation that reads bits, with either reader.
use Rattle.std.specs.Prelude.{◌≡◌, ℕ, ◌<◌, ◌≤◌, Bool, List, slice_index, if◌then◌else◌}
use Rattle.bool_coder.specs.Reader.{Reader, read}
use Rattle.bool_coder.specs.Reading.{Reading, ◌>>=◌}
use Rattle.bool_coder.specs.Uncut.{uncut_read, settled}

-- a chain of reads, as a decision tree: a value, or the probability of the next bit, the chain after a 0 and the chain after a 1
pub data Chain (A : Type 0) : Type 0 where
  done : A → Chain A
  ask : ℕ → Chain A → Chain A → Chain A

-- one reading, then the next
abbrev pub and_then : {A B : Type 0} → Reading A → (A → Reading B) → Reading B
and_then first next = first >>= next

-- a chain run by `read` or by `uncut_read`
unfoldable pub run : {A : Type 0} → (ℕ → Reading Bool) → Chain A → Reading A
run way (done x) r = (x, r)
run way (ask prob if_zero if_one) r = if (way prob r).0 then run way if_one (way prob r).1 else run way if_zero (way prob r).1

-- each probability of a chain is a byte
abbrev pub HasProbabilities : {A : Type 0} → Chain A → Type 0
HasProbabilities (done x) = Unit {0}
HasProbabilities (ask prob if_zero if_one) = (prob < 256) × HasProbabilities if_zero × HasProbabilities if_one

-- every number of a list is a byte
abbrev pub AreProbabilities : List ℕ → Type 0
AreProbabilities probs = (k : ℕ) → slice_index probs k < 256

-- the reading is a chain of reads. The field `uncut` is the consequence: RFC 6386's reader, which never clamps its window
-- and whose bits have no end, returns the same value by the same chain, and is left in step with the decoder's reader
pub record IsChain {A : Type 0} (reading : Reading A) : Type 0 where
  pub chain : Chain A
  pub probable : HasProbabilities chain
  pub same : (r : Reader) → reading r ≡ run read chain r
  pub uncut : (r : Reader) → 2 ≤ r.range → reading (settled r) ≡ ((run uncut_read chain r).0, settled (run uncut_read chain r).1)
