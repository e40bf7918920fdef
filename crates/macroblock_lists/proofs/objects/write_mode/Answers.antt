use Rattle.std.proofs.KnownBytes.{Appends-trans}
use Rattle.std.proofs.lemmas.Result.{on_ok_weaker}
use Rattle.macroblock_lists.proofs.objects.write_mode.Goals as goal

pub returns : goal.returns
returns g c = on_ok_weaker c.write_text_member-2.result (λ p. Appends-trans _ _ _ _ _ (Appends-trans _ _ _ _ _ (rw c.bit_text.ensures at c.in_ok-write_member.ensures) (rw c.reference_name.ensures at c.in_ok-write_text_member.ensures)) p) (rw c.luma_name.ensures at c.write_text_member-2.ensures)
