use Rattle.std.proofs.KnownBytes.{Appends-trans}
use Rattle.std.proofs.lemmas.Result.{on_ok_weaker}
use Rattle.macroblock_lists.proofs.fields.write_size_fields.Goals as goal

pub returns : goal.returns
returns g c = on_ok_weaker c.write_number_field-4.result (λ p. Appends-trans _ _ _ _ _ (Appends-trans _ _ _ _ _ (Appends-trans _ _ _ _ _ (rw c.from.ensures at c.in_ok-write_number_field.ensures) (rw c.from-2.ensures at c.in_ok-write_number_field-2.ensures)) (rw c.from-3.ensures at c.in_ok-write_number_field-3.ensures)) p) (rw c.from-4.ensures at c.write_number_field-4.ensures)
