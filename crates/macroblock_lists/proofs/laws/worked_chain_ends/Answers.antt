use Rattle.std.proofs.Common.{refl}
use Rattle.bool_coder.specs.Reader.{read, renewed, trimmed}
use Rattle.bool_coder.specs.Taken.{shifts, taken_by_bit, taken}
use Rattle.macroblock_lists.proofs.laws.worked_chain_ends.Goals as goal

pub returns : goal.returns
unfolding read renewed trimmed shifts taken_by_bit taken
returns c = record { past = refl; inside = refl; unread = refl; empty = refl; most = refl }
