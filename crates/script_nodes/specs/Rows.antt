-- Rows that are faded.
use Rattle.std.specs.Prelude.{◌≡◌, ℕ, ◌<◌, List, slice_index}
use Rattle.script_nodes.specs.Shown.{weighed}

-- the first `count` samples of a row are the other row's at a weight
pub record IsFadedTo (weight dark : ℕ) (row : List ℕ) (count : ℕ) (out : List ℕ) : Type 0 where
  pub each : (x : ℕ) → x < count → slice_index out x ≡ weighed weight dark (slice_index row x)
