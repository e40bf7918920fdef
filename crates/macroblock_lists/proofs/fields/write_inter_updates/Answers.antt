use Rattle.std.proofs.KnownBytes.{Appends-trans}
use Rattle.std.proofs.lemmas.Result.{on_ok_weaker}
use Rattle.macroblock_lists.proofs.fields.write_inter_updates.Goals as goal

pub returns : goal.returns
returns g c = on_ok_weaker c.write_update_field-3.result (λ p. Appends-trans _ _ _ _ _ (Appends-trans _ _ _ _ _ (rw (c.coded_count.ensures, c.from-y.ensures) at c.in_ok-write_update_field.ensures) (rw (c.coded_count-2.ensures, c.from-uv.ensures) at c.in_ok-write_update_field-2.ensures)) p) (rw c.coded_count-3.ensures at c.write_update_field-3.ensures)
