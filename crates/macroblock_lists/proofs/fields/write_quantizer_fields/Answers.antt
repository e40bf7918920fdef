use Rattle.std.proofs.KnownBytes.{Appends-trans}
use Rattle.std.proofs.lemmas.Result.{on_ok_weaker}
use Rattle.macroblock_lists.proofs.fields.write_quantizer_fields.Goals as goal

pub returns : goal.returns
returns g c = on_ok_weaker c.write_delta_quantizers.result (λ p. Appends-trans _ _ _ _ _ (Appends-trans _ _ _ _ _ (rw c.from.ensures at c.in_ok-write_number_field.ensures) (c.in_ok-write_signed_field.ensures)) p) (c.write_delta_quantizers.ensures)
