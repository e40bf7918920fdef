use Rattle.std.proofs.lemmas.Result.{IfErr-weaker}
use Rattle.macroblock_lists.proofs.Fronts.{end-after}
use Rattle.macroblock_lists.proofs.listing.write_list.Goals as goal

pub returns-clause-early : goal.returns-clause-early
returns-clause-early g c = IfErr-weaker c.write_packets.result _ _ (λ fault is. end-after _ _ _ _ _ fault (rw c.head_of.ensures at c.in_ok-write_text.ensures) is) c.write_packets.ensures.early
