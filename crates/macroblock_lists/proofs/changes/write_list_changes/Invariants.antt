use Rattle.std.specs.List.{flat_map, range_with_len}
use Rattle.std.specs.Io.KnownBytes.{Appends}
use Rattle.macroblock_lists.specs.Changes.{change_at}
use Rattle.macroblock_lists.proofs.changes.write_list_changes.Given as goal

abbrev pub invariant-loop-index : goal.invariant-loop-index
invariant-loop-index g l = Appends (g.W.Write.contents l.fn.w) (g.W.Write.contents l.w) (flat_map (change_at l.form l.packet l.name l.old l.new) (range_with_len 0 l.index))
