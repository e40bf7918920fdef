use Rattle.std.proofs.KnownBytes.{Appends-trans}
use Rattle.std.proofs.lemmas.Result.{on_ok_weaker}
use Rattle.macroblock_lists.proofs.changes.write_change_object.Goals as goal

pub returns : goal.returns
returns g c = on_ok_weaker c.write_text.result (λ p. Appends-trans _ _ _ _ _ (Appends-trans _ _ _ _ _ (Appends-trans _ _ _ _ _ (Appends-trans _ _ _ _ _ c.in_ok-write_list_name.ensures c.in_ok-write_number.ensures) (rw c.from.ensures at c.in_ok-write_number-2.ensures)) c.in_ok-write_new.ensures) p) (c.write_text.ensures)
