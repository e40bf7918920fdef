use Rattle.std.proofs.KnownBytes.{Appends-trans}
use Rattle.std.proofs.lemmas.Result.{on_ok_weaker}
use Rattle.stream_checks.proofs.objects.write_cut.Goals as goal

pub returns : goal.returns
returns g c =
    on_ok_weaker c.write_number-3.result (λ p. Appends-trans _ _ _ _ _ (Appends-trans _ _ _ _ _ (Appends-trans _ _ _ _ _ (Appends-trans _ _ _ _ _ c.in_ok-write_kind.ensures c.in_ok-write_number.ensures) c.in_ok-write_number-2.ensures) (rw c.widened.ensures at c.in_ok-write_optional.ensures)) p) c.write_number-3.ensures
