use Rattle.std.proofs.KnownBytes.{Appends-trans}
use Rattle.std.proofs.lemmas.Result.{on_ok_weaker}
use Rattle.macroblock_lists.proofs.fields.write_frame_fields.Goals as goal

pub returns : goal.returns
returns g c = on_ok_weaker c.write_key_fields_if.result (λ p. Appends-trans _ _ _ _ _ c.in_ok-write_tag_fields.ensures p) c.write_key_fields_if.ensures
