use Rattle.std.proofs.KnownBytes.{Appends-trans}
use Rattle.std.proofs.lemmas.Result.{on_ok_weaker}
use Rattle.macroblock_lists.proofs.segment_fields.write_update_fields.Goals as goal

pub returns : goal.returns
returns g c = on_ok_weaker c.write_map_field_if.result (λ p. Appends-trans _ _ _ _ _ (Appends-trans _ _ _ _ _ (Appends-trans _ _ _ _ _ c.in_ok-write_flag_field.ensures c.in_ok-write_flag_field-2.ensures) c.in_ok-write_data_fields_if.ensures) p) (c.write_map_field_if.ensures)
