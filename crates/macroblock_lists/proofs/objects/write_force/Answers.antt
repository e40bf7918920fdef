use Rattle.std.proofs.KnownBytes.{Appends-trans}
use Rattle.std.proofs.lemmas.Result.{on_ok_weaker}
use Rattle.macroblock_lists.proofs.objects.write_force.Goals as goal

pub returns : goal.returns
returns g c = on_ok_weaker c.write_member.result (λ p. Appends-trans _ _ _ _ _ (Appends-trans _ _ _ _ _ (Appends-trans _ _ _ _ _ (rw c.from.ensures at c.in_ok-write_number.ensures) (rw c.from-2.ensures at c.in_ok-write_number-2.ensures)) c.in_ok-write_limits.ensures) p) (rw c.bit_text.ensures at c.write_member.ensures)
