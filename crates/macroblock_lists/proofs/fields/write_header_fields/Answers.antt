use Rattle.std.proofs.KnownBytes.{Appends-trans}
use Rattle.std.proofs.lemmas.Result.{on_ok_weaker}
use Rattle.macroblock_lists.specs.Fields.{header_fields}
use Rattle.macroblock_lists.proofs.fields.write_header_fields.Goals as goal

pub returns : goal.returns
unfolding header_fields
returns g c = on_ok_weaker c.write_last_fields.result (λ p. Appends-trans _ _ _ _ _ (Appends-trans _ _ _ _ _ (Appends-trans _ _ _ _ _ c.in_ok-write_first_fields.ensures c.in_ok-write_quantizer_fields.ensures) c.in_ok-write_reference_fields.ensures) p) (c.write_last_fields.ensures)
