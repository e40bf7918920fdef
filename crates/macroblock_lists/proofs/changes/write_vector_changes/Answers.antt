use Rattle.std.proofs.KnownBytes.{Appends-trans}
use Rattle.std.proofs.lemmas.Result.{on_ok_weaker}
use Rattle.macroblock_lists.proofs.changes.write_vector_changes.Goals as goal

pub returns : goal.returns
returns g c = on_ok_weaker c.write_list_changes-2.result (λ p. Appends-trans _ _ _ _ _ c.in_ok-write_list_changes.ensures p) (c.write_list_changes-2.ensures)
