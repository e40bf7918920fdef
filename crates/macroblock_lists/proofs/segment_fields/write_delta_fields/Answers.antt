use Rattle.std.proofs.KnownBytes.{Appends-trans}
use Rattle.std.proofs.lemmas.Result.{on_ok_weaker}
use Rattle.macroblock_lists.proofs.segment_fields.write_delta_fields.Goals as goal

pub returns : goal.returns
returns g c = on_ok_weaker c.write_signed_numbers_field-2.result (λ p. Appends-trans _ _ _ _ _ (Appends-trans _ _ _ _ _ (rw c.from-updated.ensures at c.in_ok-write_update_field.ensures) (c.in_ok-write_signed_numbers_field.ensures)) p) (c.write_signed_numbers_field-2.ensures)
