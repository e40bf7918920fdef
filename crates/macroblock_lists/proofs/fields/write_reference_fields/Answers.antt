use Rattle.std.proofs.KnownBytes.{Appends-trans}
use Rattle.std.proofs.lemmas.Result.{on_ok_weaker}
use Rattle.macroblock_lists.proofs.fields.write_reference_fields.Goals as goal

pub returns : goal.returns
returns g c = on_ok_weaker c.write_number_unless.result (λ p. Appends-trans _ _ _ _ _ (Appends-trans _ _ _ _ _ c.in_ok-write_refresh_fields_unless.ensures c.in_ok-write_entropy_field.ensures) p) (rw c.from-last.ensures at c.write_number_unless.ensures)
