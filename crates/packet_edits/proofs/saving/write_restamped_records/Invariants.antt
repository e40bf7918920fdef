use Rattle.packet_edits.proofs.Restamped.{IsPart}
use Rattle.packet_edits.proofs.saving.write_restamped_records.Given as goal

abbrev pub invariant-loop-i : goal.invariant-loop-i
invariant-loop-i g l = IsPart l.pads l.fn.head l.entries l.i l.clock (g.W.Write.contents l.fn.w) (g.W.Write.contents l.w)
