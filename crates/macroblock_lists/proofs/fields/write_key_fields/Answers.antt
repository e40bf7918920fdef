use Rattle.std.proofs.KnownBytes.{Appends-trans}
use Rattle.std.proofs.lemmas.Result.{on_ok_weaker}
use Rattle.macroblock_lists.proofs.fields.write_key_fields.Goals as goal

pub returns : goal.returns
returns g c = on_ok_weaker c.write_flag_field-2.result (λ p. Appends-trans _ _ _ _ _ (Appends-trans _ _ _ _ _ c.in_ok-write_size_fields.ensures c.in_ok-write_flag_field.ensures) p) (c.write_flag_field-2.ensures)
