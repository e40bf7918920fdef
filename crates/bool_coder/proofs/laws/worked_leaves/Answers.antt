use Rattle.std.proofs.Common.{refl}
use Rattle.bool_coder.specs.Reader.{read, renewed, trimmed}
use Rattle.bool_coder.specs.Trees.{leaf_below, leaf}
use Rattle.bool_coder.proofs.laws.worked_leaves.Goals as goal

pub returns : goal.returns
unfolding read renewed trimmed leaf_below leaf
returns c = record { first = refl; second = refl; third = refl; fourth = refl; tree = refl; short = refl; back = refl; odd = refl }
