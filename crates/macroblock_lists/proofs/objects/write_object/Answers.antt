use Rattle.std.proofs.KnownBytes.{Appends-trans}
use Rattle.std.proofs.lemmas.Result.{on_ok_weaker}
use Rattle.macroblock_lists.proofs.objects.write_object.Goals as goal

pub returns : goal.returns
returns g c = on_ok_weaker c.write_text-2.result (λ p. Appends-trans _ _ _ _ _ (Appends-trans _ _ _ _ _ (Appends-trans _ _ _ _ _ (Appends-trans _ _ _ _ _ (Appends-trans _ _ _ _ _ c.in_ok-write_text.ensures c.in_ok-write_place.ensures) c.in_ok-write_record.ensures) c.in_ok-write_force.ensures) c.in_ok-write_tokens.ensures) p) (c.write_text-2.ensures)
