-- Short sizes by the leaf to which a walk leads
use Rattle.std.proofs.Common.{◌≡◌, ℕ, List}
use Rattle.std.specs.Prelude.{slice_range}
use Rattle.bool_coder.specs.Reader.{Reader}
use Rattle.bool_coder.specs.Trees.{leaf_below, leaf}
use Rattle.vp8_tables.specs.declared.vectors.TheConstants.{SHORT_VECTOR_TREE}
use Rattle.mode_parser.specs.VectorReading.{short_size}

pub short_size-leaf : (probabilities nodes : List ℕ) (number : ℕ) (r s : Reader) → nodes ≡ slice_range probabilities 2 9 → leaf_below 14 SHORT_VECTOR_TREE nodes 0 r ≡ (number, s) → short_size probabilities r ≡ (number, s)
unfolding short_size leaf
short_size-leaf probabilities nodes number r s are told = let there = rw are at told in there
