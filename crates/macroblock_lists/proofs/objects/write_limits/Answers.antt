use Rattle.std.proofs.KnownBytes.{Appends-trans}
use Rattle.std.proofs.lemmas.Result.{on_ok_weaker}
use Rattle.macroblock_lists.proofs.objects.write_limits.Goals as goal

pub returns-in_ok-write_number-in-Some-3 : goal.returns-in_ok-write_number-in-Some-3
returns-in_ok-write_number-in-Some-3 g c = rw c.in-Some.is (on_ok_weaker c.write_number-in-Some-3.result (λ p. Appends-trans _ _ _ _ _ (Appends-trans _ _ _ _ _ (Appends-trans _ _ _ _ _ (rw c.from.ensures at c.in_ok-write_number-in-Some.ensures) (rw c.from-in-Some.ensures at c.in_ok-write_number-in-Some-2.ensures)) (rw c.from-in-Some-2.ensures at c.in_ok-write_number-in-Some-3.ensures)) p) (rw c.from-in-Some-3.ensures at c.write_number-in-Some-3.ensures))
