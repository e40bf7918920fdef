-- How many booleans a chain of reads asks for.
use Rattle.std.specs.Prelude.{◌≡◌, ℕ, ◌+◌, if◌then◌else◌}
use Rattle.bool_coder.specs.Reader.{Reader, read}
use Rattle.bool_coder.specs.Reading.{Reading}
use Rattle.bool_coder.specs.Chains.{Chain, done, ask, run}

-- each read asks for one, and the chain goes on by its answer
unfoldable pub asked : {A : Type 0} → Chain A → Reader → ℕ
asked (done x) r = 0
asked (ask prob if_zero if_one) r = 1 + (if (read prob r).0 then asked if_one (read prob r).1 else asked if_zero (read prob r).1)

-- the reading is a chain of reads, which asks for so many booleans from this reader
pub record Asks {A : Type 0} (reading : Reading A) (r : Reader) (count : ℕ) : Type 0 where
  pub chain : Chain A
  pub same : (s : Reader) → reading s ≡ run read chain s
  pub booleans : asked chain r ≡ count
