use Rattle.std.proofs.Common.{sym, ◌∙◌}
use Rattle.macroblock_lists.proofs.EmptyPackets.{empty_ends}
use Rattle.macroblock_lists.proofs.partition_ends.read_known.Goals as goal

pub returns-clause-ends : goal.returns-clause-ends
returns-clause-ends c = c.none.ensures ∙ empty_ends c.args.tables.now c.args.known c.args.packet.now (sym c.is_empty.ensures ∙ c.if-not-is_empty.false)
